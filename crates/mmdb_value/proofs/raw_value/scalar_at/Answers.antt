use Rattle.std.proofs.Common.{refl, Some, false}
use Rattle.std.proofs.lemmas.Result.{err_from_is_err_and}
use Rattle.mmdb_decode.specs.State.{decoded}
use Rattle.mmdb_format.specs.Unfolding.{scalar}
use Rattle.mmdb_format.specs.Views.{content_view}
use Rattle.mmdb_value.specs.AnyValue.{scalar_of}
use Rattle.mmdb_decode.proofs.StepLaws.{declines}
use Rattle.mmdb_value.proofs.AnySteps.{scalar_unread, scalar_looked_at}
use Rattle.mmdb_value.proofs.raw_value.scalar_at.Goals as goal

pub returns-in_err-content : goal.returns-in_err-content
returns-in_err-content c = let p = err_from_is_err_and c.from_residual.result c.from_residual.ensures.1 in rw (p.1, p.2) (c.in_err-content.ensures.0, declines false c.in_err-content.field-0.0 (decoded false (scalar_of false c.args.header) c.args.d.now) (scalar_unread false c.args.header c.args.d.now c.in_err-content.ensures.1))

pub returns : goal.returns
returns c = rw c.of_content.ensures (scalar_looked_at false c.args.header c.args.d.now c.try_content.new.self (content_view c.in_ok-content.content) (Some (scalar (content_view c.in_ok-content.content))) c.in_ok-content.ensures refl)
