use Rattle.std.proofs.Common.{◌≡◌, Some, None, true, false}
use Rattle.mmdb_decode.specs.Errors.{answer}
use Rattle.mmdb_decode.specs.State.{decoded}
use Rattle.mmdb_decode.proofs.StepLaws.{answer_ok, answer_none, fails, fails_more}
use Rattle.mmdb_reader.specs.Selecting.{selected, read_along}
use Rattle.mmdb_reader.proofs.PathLemmas.{along_mismatched, along_absent, along_read, along_unread, along_selected, still_started, fails_as_much}
use Rattle.mmdb_reader.proofs.decode_path.decode_along.Goals as goal

pub returns-in-Err-clause-err : goal.returns-in-Err-clause-err
returns-in-Err-clause-err g c = λ x. fails g.T.Decode.free _ _ (answer_none true (read_along c.args.path.now g.T.Decode.meaning) c.args.section.now c.args.offset c.new-d.result c.new-d.ensures (along_mismatched c.args.path.now g.T.Decode.meaning c.new-d.result c.begin_budget.new.self c.begin_budget.ensures.begun c.in-Err.ensures.taken.1))

pub returns-in-Ok-false-clause-ok : goal.returns-in-Ok-false-clause-ok
returns-in-Ok-false-clause-ok g c =
    let gone : decoded false (selected c.args.path.now) c.begin_budget.new.self ≡ Some (false, c.go_along.new.d) = rw c.in-Ok-false.field-0-test at c.in-Ok-false.ensures.taken in
    λ x. answer_ok true (read_along c.args.path.now g.T.Decode.meaning) c.args.section.now c.args.offset c.new-d.result c.go_along.new.d None c.new-d.ensures (along_absent c.args.path.now g.T.Decode.meaning c.new-d.result c.begin_budget.new.self c.go_along.new.d c.begin_budget.ensures.begun gone c.values_bounded.ensures)

pub returns-in-Ok-false-clause-none : goal.returns-in-Ok-false-clause-none
returns-in-Ok-false-clause-none g c =
    let gone : decoded false (selected c.args.path.now) c.begin_budget.new.self ≡ Some (false, c.go_along.new.d) = rw c.in-Ok-false.field-0-test at c.in-Ok-false.ensures.taken in
    (c.go_along.new.d, rw c.new-d.ensures at (along_selected c.args.path.now c.new-d.result c.begin_budget.new.self c.go_along.new.d false c.begin_budget.ensures.begun gone))

pub returns-in-Ok-clause-ok : goal.returns-in-Ok-clause-ok
returns-in-Ok-clause-ok g c =
    let gone : decoded false (selected c.args.path.now) c.begin_budget.new.self ≡ Some (true, c.go_along.new.d) = rw c.in-Ok-true.field-0-test at c.in-Ok-true.ensures.taken in
    λ x. answer_ok true (read_along c.args.path.now g.T.Decode.meaning) c.args.section.now c.args.offset c.new-d.result c.decode.new.d (Some (g.T.Decode.datum c.in-Ok.value)) c.new-d.ensures (along_read c.args.path.now g.T.Decode.meaning g.T.Decode.starts c.new-d.result c.begin_budget.new.self c.go_along.new.d c.decode.new.d (g.T.Decode.datum c.in-Ok.value) c.begin_budget.ensures.begun gone (still_started c.args.path.now c.new-d.result c.begin_budget.new.self c.go_along.new.d true c.begin_budget.ensures.begun gone) (c.in-Ok.ensures.ok x))

pub returns-in-Ok-clause-also : goal.returns-in-Ok-clause-also
returns-in-Ok-clause-also g c =
    let gone : decoded false (selected c.args.path.now) c.begin_budget.new.self ≡ Some (true, c.go_along.new.d) = rw c.in-Ok-true.field-0-test at c.in-Ok-true.ensures.taken in
    (c.go_along.new.d, c.decode.new.d, rw c.new-d.ensures at (along_selected c.args.path.now c.new-d.result c.begin_budget.new.self c.go_along.new.d true c.begin_budget.ensures.begun gone), c.in-Ok.ensures.also)

pub returns-in-Err-decode-clause-err : goal.returns-in-Err-decode-clause-err
returns-in-Err-decode-clause-err g c =
    let gone : decoded false (selected c.args.path.now) c.begin_budget.new.self ≡ Some (true, c.go_along.new.d) = rw c.in-Ok-true.field-0-test at c.in-Ok-true.ensures.taken in
    let begun = still_started c.args.path.now c.new-d.result c.begin_budget.new.self c.go_along.new.d true c.begin_budget.ensures.begun gone in
    λ x. fails_as_much g.T.Decode.free c.in-Err-decode.error c.with_path.result _ c.with_path.ensures (fails_more g.T.Decode.free c.in-Err-decode.error (decoded g.T.Decode.starts g.T.Decode.meaning c.go_along.new.d) (answer true (read_along c.args.path.now g.T.Decode.meaning) c.args.section.now c.args.offset) (λ none. answer_none true (read_along c.args.path.now g.T.Decode.meaning) c.args.section.now c.args.offset c.new-d.result c.new-d.ensures (along_unread c.args.path.now g.T.Decode.meaning g.T.Decode.starts c.new-d.result c.begin_budget.new.self c.go_along.new.d c.begin_budget.ensures.begun gone begun none)) (c.in-Err-decode.ensures.err x))
