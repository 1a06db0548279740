use Rattle.std.proofs.Common.{List, ℕ, ap, subst}
use Rattle.std.proofs.lemmas.Str.{is_utf8-from_IsUtf8}
use Rattle.mmdb_format.specs.Contents.{text}
use Rattle.mmdb_section.specs.Working.{IsSized, IsScalar, IsText}
use Rattle.mmdb_section.proofs.StandLemmas.{weaker_put}
use Rattle.mmdb_section.proofs.ScalarLemmas.{text_made}
use Rattle.mmdb_section.specs.Bytes.{scalar_bytes}
use Rattle.mmdb_section.proofs.BytesLemmas.{same_put}
use Rattle.mmdb_section.proofs.scalar.push_text.Goals as goal

pub returns-clause-says : goal.returns-clause-says
returns-clause-says c =
    let x = c.as_bytes.result.now in
    weaker_put c.push_sized.result (IsSized 2 c.as_bytes.result.now) (IsText c.args.text.now) _ _
    (λ xs sized. (subst (λ (ys : List ℕ). IsScalar (text ys) xs) c.as_bytes.ensures.value (text_made x xs sized), is_utf8-from_IsUtf8 c.args.text.now c.utf8.text)) c.push_sized.ensures.says

pub returns-clause-bytes : goal.returns-clause-bytes
returns-clause-bytes c = same_put c.push_sized.result _ _ _ (scalar_bytes (text c.args.text.now)) c.push_sized.ensures.bytes (ap (λ (xs : List ℕ). scalar_bytes (text xs)) c.as_bytes.ensures.value)
