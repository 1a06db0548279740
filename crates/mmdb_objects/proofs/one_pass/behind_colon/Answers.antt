use Rattle.std.proofs.Common.{rules, ◌≡◌, ◌+◌, drop, refl, arith}
use Rattle.json.specs.Word.{head}
use Rattle.mmdb_objects.proofs.ScanLaws.{here_is, behind_space}
use Rattle.mmdb_objects.proofs.one_pass.behind_colon.Goals as goal

pub returns-then-text-from-gt32-clause-at : goal.returns-then-text-from-gt32-clause-at
returns-then-text-from-gt32-clause-at c =
    let mark : head (drop c.args.from c.args.text.now) ≡ 58 = here_is c.args.text.now c.args.from 58 (omega arith) (search rules) in
    rw c.seen_at.ensures.at (record { place = c.args.from; low = omega arith; high = omega arith; within = omega arith; before = refl; is = mark; behind = refl })

pub returns-then-text-from-gt32-2-clause-at : goal.returns-then-text-from-gt32-2-clause-at
returns-then-text-from-gt32-2-clause-at c =
    let text = c.args.text.now in
    let mark : head (drop c.args.from text) ≡ 58 = here_is text c.args.from 58 (omega arith) (search rules) in
    let behind = behind_space text (c.args.from + 1) (c.args.from + 2) (omega arith) (omega arith) c.if-text-from-eq32.true in
    rw c.seen_at-then-text-from-gt32-2.ensures.at (record { place = c.args.from; low = omega arith; high = omega arith; within = omega arith; before = refl; is = mark; behind = behind })

pub returns-clause-at : goal.returns-clause-at
returns-clause-at c =
    let text = c.args.text.now in
    let colon = c.space_end-colon in
    let mark : head (drop colon.result text) ≡ 58 = search rules in
    rw c.stop_at.ensures.at (record { place = colon.result; low = omega arith; high = omega arith; within = omega arith; before = colon.ensures.same; is = mark; behind = c.space_end.ensures.same })
