use Rattle.std.proofs.Common.{rules, ◌≡◌, ◌+◌, drop, refl, arith}
use Rattle.json.specs.Word.{head}
use Rattle.mmdb_objects.proofs.ScanLaws.{here_is, behind_space}
use Rattle.mmdb_objects.proofs.one_pass.behind_member.Goals as goal

pub returns-then-text-from-eq34-clause-at : goal.returns-then-text-from-eq34-clause-at
returns-then-text-from-eq34-clause-at c =
    let mark : head (drop c.args.from c.args.text.now) ≡ 44 = here_is c.args.text.now c.args.from 44 (omega arith) (search rules) in
    record { place = c.args.from; low = omega arith; high = omega arith; within = omega arith; before = refl; is = mark; behind = refl }

pub returns-then-text-from-eq34-2-clause-at : goal.returns-then-text-from-eq34-2-clause-at
returns-then-text-from-eq34-2-clause-at c =
    let text = c.args.text.now in
    let mark : head (drop c.args.from text) ≡ 44 = here_is text c.args.from 44 (omega arith) (search rules) in
    let behind = behind_space text (c.args.from + 1) (c.args.from + 2) (omega arith) (omega arith) c.if-text-from-eq32.true in
    record { place = c.args.from; low = omega arith; high = omega arith; within = omega arith; before = refl; is = mark; behind = behind }
