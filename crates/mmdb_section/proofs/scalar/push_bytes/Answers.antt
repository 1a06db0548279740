use Rattle.mmdb_format.specs.Contents.{bytes}
use Rattle.mmdb_section.specs.Working.{IsSized, IsScalar}
use Rattle.mmdb_section.proofs.StandLemmas.{weaker_put}
use Rattle.mmdb_section.proofs.ScalarLemmas.{bytes_made}
use Rattle.mmdb_section.proofs.scalar.push_bytes.Goals as goal

pub returns-clause-says : goal.returns-clause-says
returns-clause-says c = weaker_put c.push_sized.result (IsSized 4 c.args.bytes.now) (IsScalar (bytes c.args.bytes.now)) _ _ (λ xs sized. bytes_made c.args.bytes.now xs sized) c.push_sized.ensures.says
