-- The point to which bits lead, bit by bit.
use Rattle.std.proofs.Common.{◌≡◌, ℕ, suc, ◌+◌, ◌<◌, ◌||◌, ◌&&◌, nat_lt, Bool, false, List, [], ◌∷◌, ◌++◌, get_or, take, length, arith, sym, ap, ◌∙◌, refl, length-append}
use Rattle.std.proofs.Math.Seq.{take-suc}
use Rattle.mmdb_tree.specs.Tree.{step, walk}
use Rattle.mmdb_tree.specs.Stops.{WalkedTree}
use Rattle.mmdb_tree.specs.Working.{IsPointAt}
use Rattle.mmdb_tree.specs.declared.walked.Point.{Point}
use Rattle.mmdb_tree.proofs.HighBits.{high_of, high-is, high-nil, high-snoc}
use Rattle.mmdb_tree.proofs.WalkLemmas.{walk-append, walk-nil, walk-one}

pub point-start : (walked : WalkedTree) → IsPointAt walked [] (record { number = 0; prefix = 0; high = false })
point-start walked = record {
  number = sym (walk-nil walked.tree 0);
  prefix = refl;
  high = sym (high-nil walked) ∙ high-is walked [];
}

pub point-next : (walked : WalkedTree) (bits : List Bool) (p q : Point) (x : Bool) → length bits ≡ walked.width → p.prefix < length bits → x ≡ get_or bits p.prefix false → IsPointAt walked (take p.prefix bits) p
    → q.prefix ≡ p.prefix + 1 → q.number ≡ step walked.tree p.number x → q.high ≡ (p.high || (x && nat_lt (p.prefix + 32) walked.width)) → IsPointAt walked (take q.prefix bits) q
point-next walked bits p q x full more is w prefix number high =
    let one : q.prefix ≡ suc p.prefix = omega (arith, prefix) in
    let head : List Bool = take p.prefix bits in
    let cut : take q.prefix bits ≡ head ++ x ∷ [] = ap (λ (k : ℕ). take k bits) one ∙ take-suc bits p.prefix false more ∙ ap (λ (b : Bool). head ++ b ∷ []) (sym is) in
    let len : length head ≡ p.prefix = sym w.prefix in
    record {
      number = number ∙ ap (λ (n : ℕ). step walked.tree n x) w.number ∙ sym (walk-one walked.tree (walk walked.tree head) x) ∙ sym (walk-append walked.tree 0 head (x ∷ [])) ∙ sym (ap (walk walked.tree) cut);
      prefix = omega (arith, prefix, len, ap length cut, length-append head (x ∷ []));
      high = high
          ∙ ap (λ (b : Bool). b || (x && nat_lt (p.prefix + 32) walked.width)) (w.high ∙ sym (high-is walked head))
          ∙ ap (λ (n : ℕ). high_of walked head || (x && nat_lt (n + 32) walked.width)) (sym len)
          ∙ sym (high-snoc walked head x (omega (arith, len, full)))
          ∙ ap (high_of walked) (sym cut)
          ∙ high-is walked (take q.prefix bits);
    }
