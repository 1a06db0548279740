use Rattle.std.proofs.Common.{◌≡◌, false, [], ◌∷◌, take, bytes_eq, refl, arith, rules}
use Rattle.std.proofs.lemmas.Grind.{common_steps}
use Rattle.std.proofs.lemmas.Slice.Eq.{bytes_eq-Decides}
use Rattle.std.specs.Net.Text.{ipv6_text}
use Rattle.mmdb_net.proofs.text.put_ipv6.Goals as goal

pub returns-in_ok-extend_from_slice-in-Some : goal.returns-in_ok-extend_from_slice-in-Some
unfolding ipv6_text
returns-in_ok-extend_from_slice-in-Some c =
    let mapped = (bytes_eq-Decides _ _).1 (c.in-Some.ensures.found.0 refl) in
    rw (mapped, ← c.in-Some.ensures.value) (grind (arith, common_steps))

pub returns-in-None : goal.returns-in-None
unfolding ipv6_text
returns-in-None c =
    let other : bytes_eq (take 6 c.args.address.segments) (0 ∷ 0 ∷ 0 ∷ 0 ∷ 0 ∷ 0xffff ∷ []) ≡ false =
    grind (arith, bytes_eq-Decides (take 6 c.args.address.segments) (0 ∷ 0 ∷ 0 ∷ 0 ∷ 0 ∷ 0xffff ∷ []), c.in-None.ensures.found) in
    rw (other, ← c.segments.ensures) (search rules)
