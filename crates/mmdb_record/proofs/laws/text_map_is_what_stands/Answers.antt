use Rattle.mmdb_record.proofs.ContainerTrees.{text_maps_unfold}
use Rattle.mmdb_record.proofs.TextMapLaws.{reads_text_maps, last_pair_stays, keys_ascend}
use Rattle.mmdb_record.proofs.OneLaws.{one_text_map_stands}
use Rattle.mmdb_record.proofs.laws.text_map_is_what_stands.Goals as goal

pub returns-clause-read : goal.returns-clause-read
returns-clause-read g c = reads_text_maps g.T.Decode.meaning

pub returns-clause-unfolds : goal.returns-clause-unfolds
returns-clause-unfolds g c = text_maps_unfold g.T.Decode.meaning

pub returns-clause-last : goal.returns-clause-last
returns-clause-last g c = last_pair_stays

pub returns-clause-ascend : goal.returns-clause-ascend
returns-clause-ascend g c = keys_ascend

pub returns-clause-one : goal.returns-clause-one
returns-clause-one g c = one_text_map_stands g.T.Decode.meaning
