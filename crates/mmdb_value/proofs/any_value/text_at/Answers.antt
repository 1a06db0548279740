use Rattle.std.proofs.Common.{◌≡◌, List, ℕ, Bool, true, false, Some, None, option_map, cond, refl}
use Rattle.std.proofs.lemmas.Result.{err_from_is_err_and}
use Rattle.std.specs.Str.{is_utf8}
use Rattle.mmdb_format.specs.Contents.{text}
use Rattle.mmdb_format.specs.Unfolding.{scalar}
use Rattle.mmdb_format.specs.Views.{content_view}
use Rattle.mmdb_decode.specs.Levels.{content_of}
use Rattle.mmdb_decode.specs.State.{decoded}
use Rattle.mmdb_value.specs.AnyValue.{scalar_of}
use Rattle.mmdb_decode.proofs.StepLaws.{declines, kept_decoded}
use Rattle.mmdb_value.proofs.AnySteps.{scalar_unread, scalar_looked_at, same_given_up, is_text, not_text}
use Rattle.mmdb_value.proofs.any_value.text_at.Goals as goal

same_text : (b : Bool) (x y : List ℕ) → Some y ≡ cond b (Some x) None → Some (scalar (text y)) ≡ option_map scalar (cond b (Some (text x)) None)
same_text true x y h = let e : y ≡ x = cc in rw e refl
same_text false x y h = absurd (cc)

no_text : (b : Bool) (x : List ℕ) → None ≡ cond b (Some x) None → None ≡ option_map scalar (cond b (Some (text x)) None)
no_text true x h = absurd (cc)
no_text false x h = refl

pub returns-in_err-bytes : goal.returns-in_err-bytes
returns-in_err-bytes c = let p = err_from_is_err_and c.from_residual.result c.from_residual.ensures.1 in rw (p.1, p.2) (c.in_err-bytes.ensures.0, declines false c.in_err-bytes.field-0.0 (decoded false (scalar_of true c.args.header) c.args.d.now) (scalar_unread true c.args.header c.args.d.now c.in_err-bytes.ensures.1))

pub unreachable-requires : goal.unreachable-requires
unreachable-requires c =
    let found = is_text c.args.d.now c.try_content.new.self c.args.header (content_view c.in_ok-bytes.field-0) c.requires.kind c.in_ok-bytes.ensures in
    not_text c.in_ok-bytes.field-0 c.in_default.not-Text found.0 found.1

pub returns-in-Ok : goal.returns-in-Ok
returns-in-Ok c = scalar_looked_at true c.args.header c.args.d.now c.try_content.new.self (text c.in-Text.bytes.now) (Some (scalar (text c.in-Ok.text.now))) (rw c.in-Text.is at c.in_ok-bytes.ensures) (same_text (is_utf8 c.in-Text.bytes.now) c.in-Text.bytes.now c.in-Ok.text.now c.in-Ok.ensures.value)

pub returns-in-Err : goal.returns-in-Err
returns-in-Err c = rw (c.fail_text.ensures.unreadable, c.fail_text.ensures.same) (same_given_up c.args.d.now c.try_content.new.self (kept_decoded false (content_of c.args.header) c.args.d.now c.try_content.new.self (content_view c.in_ok-bytes.field-0) c.in_ok-bytes.ensures), scalar_looked_at true c.args.header c.args.d.now c.try_content.new.self (text c.in-Text.bytes.now) None (rw c.in-Text.is at c.in_ok-bytes.ensures) (no_text (is_utf8 c.in-Text.bytes.now) c.in-Text.bytes.now c.in-Err.ensures.value))
