use Rattle.std.proofs.Common.{Some, None, true, false}
use Rattle.std.proofs.lemmas.Result.{err_from_is_err_and}
use Rattle.mmdb_decode.specs.Levels.{content_of}
use Rattle.mmdb_decode.specs.State.{decoded}
use Rattle.mmdb_format.specs.Views.{content_view}
use Rattle.mmdb_value.specs.AnyValue.{scalar_of}
use Rattle.mmdb_value.specs.Values.{value_tree}
use Rattle.mmdb_decode.proofs.StepLaws.{declines, kept_decoded}
use Rattle.mmdb_value.proofs.AnySteps.{scalar_unread, scalar_looked_at, same_given_up}
use Rattle.mmdb_value.proofs.any_value.scalar_at.Goals as goal

pub returns-in_err-content : goal.returns-in_err-content
returns-in_err-content c = let p = err_from_is_err_and c.from_residual.result c.from_residual.ensures.1 in rw (p.1, p.2) (c.in_err-content.ensures.0, declines false c.in_err-content.field-0.0 (decoded false (scalar_of true c.args.header) c.args.d.now) (scalar_unread true c.args.header c.args.d.now c.in_err-content.ensures.1))

pub returns-in-Some : goal.returns-in-Some
returns-in-Some c = scalar_looked_at true c.args.header c.args.d.now c.try_content.new.self (content_view c.in_ok-content.content) (Some (value_tree c.in-Some.value)) c.in_ok-content.ensures c.in-Some.ensures

pub returns-in-None : goal.returns-in-None
returns-in-None c = rw (c.fail_text.ensures.unreadable, c.fail_text.ensures.same) (same_given_up c.args.d.now c.try_content.new.self (kept_decoded false (content_of c.args.header) c.args.d.now c.try_content.new.self (content_view c.in_ok-content.content) c.in_ok-content.ensures), scalar_looked_at true c.args.header c.args.d.now c.try_content.new.self (content_view c.in_ok-content.content) None c.in_ok-content.ensures c.in-None.ensures)
