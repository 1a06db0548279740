use Rattle.std.proofs.Common.{Some, false, refl}
use Rattle.std.proofs.lemmas.Result.{err_from_is_err_and}
use Rattle.mmdb_format.specs.Contents.{text}
use Rattle.mmdb_format.specs.Unfolding.{scalar}
use Rattle.mmdb_format.specs.Views.{content_view}
use Rattle.mmdb_decode.specs.State.{decoded}
use Rattle.mmdb_value.specs.AnyValue.{scalar_of}
use Rattle.mmdb_decode.proofs.StepLaws.{declines}
use Rattle.mmdb_value.proofs.AnySteps.{scalar_unread, scalar_looked_at, is_text, not_text}
use Rattle.mmdb_value.proofs.raw_value.text_at.Goals as goal

pub returns-in_err-bytes : goal.returns-in_err-bytes
returns-in_err-bytes c = let p = err_from_is_err_and c.from_residual.result c.from_residual.ensures.1 in rw (p.1, p.2) (c.in_err-bytes.ensures.0, declines false c.in_err-bytes.field-0.0 (decoded false (scalar_of false c.args.header) c.args.d.now) (scalar_unread false c.args.header c.args.d.now c.in_err-bytes.ensures.1))

pub unreachable-requires : goal.unreachable-requires
unreachable-requires c =
    let found = is_text c.args.d.now c.try_content.new.self c.args.header (content_view c.in_ok-bytes.field-0) c.requires.kind c.in_ok-bytes.ensures in
    not_text c.in_ok-bytes.field-0 c.in_default.not-Text found.0 found.1

pub returns : goal.returns
returns c = scalar_looked_at false c.args.header c.args.d.now c.try_content.new.self (text c.in-Text.bytes.now) (Some (scalar (text c.in-Text.bytes.now))) (rw c.in-Text.is at c.in_ok-bytes.ensures) refl
