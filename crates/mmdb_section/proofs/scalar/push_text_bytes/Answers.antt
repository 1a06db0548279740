use Rattle.mmdb_format.specs.Contents.{text}
use Rattle.mmdb_section.specs.Working.{IsSized, IsScalar}
use Rattle.mmdb_section.proofs.StandLemmas.{weaker_put}
use Rattle.mmdb_section.proofs.ScalarLemmas.{text_made}
use Rattle.mmdb_section.proofs.scalar.push_text_bytes.Goals as goal

pub returns : goal.returns
returns c = weaker_put c.push_sized.result (IsSized 2 c.args.text.now) (IsScalar (text c.args.text.now)) _ _ (λ xs sized. text_made c.args.text.now xs sized) c.push_sized.ensures.says
