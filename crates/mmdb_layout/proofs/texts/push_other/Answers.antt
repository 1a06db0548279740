use Rattle.std.proofs.Common.{rules, map, ◌↔◌, IsTrue, subst}
use Rattle.std.specs.Str.Parse.{AllDigits}
use Rattle.mmdb_layout.proofs.OtherLaws.{left_out, taken}
use Rattle.mmdb_layout.proofs.texts.push_other.Goals as goal

pub returns-then-are_digits-clause-added : goal.returns-then-are_digits-clause-added
returns-then-are_digits-clause-added c =
    left_out (map (λ t. t.now) c.args.others.now.items) c.args.text.now c.are_digits.result c.if-are_digits.true
    (subst (λ t. IsTrue c.are_digits.result ↔ AllDigits 10 t) c.as_bytes.ensures.value c.are_digits.ensures)

pub returns-clause-added : goal.returns-clause-added
returns-clause-added c =
    taken (λ t. t.now) c.args.others.now.items c.push.new.self.items c.args.text c.are_digits.result (search rules) c.if-are_digits.false
    (subst (λ t. IsTrue c.are_digits.result ↔ AllDigits 10 t) c.as_bytes.ensures.value c.are_digits.ensures)
