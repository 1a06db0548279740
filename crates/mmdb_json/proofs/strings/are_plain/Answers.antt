use Rattle.std.proofs.Common.{◌≡◌, Bool, true, false, ◌&&◌, subst, refl, arith}
use Rattle.std.specs.List.{All}
use Rattle.std.proofs.lemmas.List.{take_all}
use Rattle.std.proofs.lemmas.List.Elements.{All-more}
use Rattle.mmdb_json.specs.Appended.{IsPlain}
use Rattle.mmdb_json.proofs.strings.are_plain.Goals as goal

parts : (b c : Bool) → (b && c) ≡ true → (b ≡ true) × (c ≡ true)
parts true true e = (refl, refl)
parts true false e = absurd (cc)
parts false c e = absurd (cc)

pub loop-byte-preserved : goal.loop-byte-preserved
loop-byte-preserved c = λ e.
    let (before, here) = parts c.loop-byte.are_plain c.is_plain_byte-are_plain.result e in
    All-more IsPlain c.args.text.now c.loop-byte.byte-index 0 (omega arith) (c.loop-byte.invariant before) (c.is_plain_byte-are_plain.ensures here)

pub returns : goal.returns
returns c = λ e. subst (All IsPlain) (take_all c.loop-byte.byte-index c.args.text.now (omega arith)) (c.loop-byte.invariant e)
