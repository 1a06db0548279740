-- Of entries in order the last one that has an address is that of the longest prefix.
use Rattle.std.proofs.Common.{◌≡◌, ◌⊎◌, inl, inr, ℕ, suc, zero, ◌+◌, ◌-◌, ◌*◌, ◌/◌, ◌^◌, ◌%◌, ◌<◌, ◌≤◌, Bool, true, false, cond, List, [], ◌∷◌, Option, Some, None, refl, ap, sym, ◌∙◌, arith, subst}
use Rattle.std.specs.List.{AllByRecursion, slice_get}
use Rattle.std.proofs.lemmas.Bool.{cases_lt, false≢true}
use Rattle.std.proofs.lemmas.Bool.Decides.{nat_tests}
use Rattle.std.proofs.lemmas.Nat.{pow-add, div-add-mod'}
use Rattle.mmdb_nodes.specs.declared.entry.NodeEntry.{NodeEntry}
use Rattle.mmdb_blocks.specs.Blocks.{end}
use Rattle.mmdb_nodes.specs.Entries.{has, offset_after, offset_in, width, ComesBefore, IsOrdered, IsLongest, HasNone, Gives, block_of}
use Rattle.mmdb_nodes.specs.Laws.{LastIsLongest}
use Rattle.mmdb_nodes.specs.Working.{IsInside, free_bits}
use Rattle.mmdb_nodes.proofs.EntryLemmas.{all_inside}
use Rattle.mmdb_nodes.proofs.LeadLemmas.{room_between}

holds_from : (e : NodeEntry) (a : ℕ) → has e a ≡ true → e.first ≤ a
holds_from e a h = grind (arith, nat_tests)

holds_to : (e : NodeEntry) (a : ℕ) → has e a ≡ true → a < end (block_of e)
holds_to e a h = grind (arith, nat_tests)

-- of two blocks that share an address the later one is no larger
nested : (first free a : ℕ) (e f : NodeEntry) → IsInside first free e → IsInside first free f → ComesBefore e f → has e a ≡ true → has f a ≡ true → e.prefix ≤ f.prefix
nested first free a e f i j (inr same) h k = same.1
nested first free a e f i j (inl before) h k = elim (cases_lt (free_bits e) (free_bits f)) [
  | inr no_larger ↦ let p = i.prefix in omega arith
  | inl larger ↦
      let p : ℕ = 2 ^ free_bits e in
      let x : ℕ = 2 ^ (free_bits f - free_bits e) in
      let m : ℕ = f.first / 2 ^ free_bits f in
      let n : ℕ = e.first / p in
      let sum : free_bits f ≡ free_bits e + (free_bits f - free_bits e) = omega arith in
      let size : 2 ^ free_bits f ≡ p * x = ap (λ (y : ℕ). 2 ^ y) sum ∙ pow-add 2 (free_bits e) (free_bits f - free_bits e) in
      let f_parts : m * 2 ^ free_bits f + f.first % 2 ^ free_bits f ≡ f.first = div-add-mod' f.first (2 ^ free_bits f) in
      let times : m * 2 ^ free_bits f ≡ m * (p * x) = ap (λ (y : ℕ). m * y) size in
      let e_parts : n * p + e.first % p ≡ e.first = div-add-mod' e.first p in
      let e_aligned = i.aligned in
      let f_aligned = j.aligned in
      let f_is : f.first ≡ m * x * p = omega arith in
      let room : n * p + p ≤ m * x * p = room_between p n (m * x) (omega arith) in
      let a_from = holds_from f a k in
      let a_to = holds_to e a h in
      absurd (omega arith)
]

-- what was found before stays where no entry has the address
abbrev Outcome : Option ℕ → List NodeEntry → ℕ → Type 0
Outcome found es a = (HasNone es a × (offset_after found es a ≡ found)) ⊎ ((e : NodeEntry) × IsLongest es a e × (offset_after found es a ≡ e.offset))

none_of : (e : NodeEntry) (es : List NodeEntry) (a : ℕ) → has e a ≡ false → HasNone es a → HasNone (e ∷ es) a
none_of e es a out h zero f at there = let same : e ≡ f = cc in false≢true (sym out ∙ ap (λ (x : NodeEntry). has x a) same ∙ there)
none_of e es a out h (suc j) f at there = h j f at there

-- all entries after one that shares an address with them are no larger
behind : (first free a : ℕ) (e : NodeEntry) (es : List NodeEntry) → IsInside first free e → AllByRecursion (IsInside first free) es → AllByRecursion (ComesBefore e) es → has e a ≡ true → (j : ℕ) (f : NodeEntry) → slice_get es j ≡ Some f → has f a ≡ true → e.prefix ≤ f.prefix
behind first free a e [] i all before h j f at there = absurd (cc)
behind first free a e (x ∷ xs) i all before h zero f at there =
    let same : x ≡ f = cc in
    let k : has x a ≡ true = ap (λ (y : NodeEntry). has y a) same ∙ there in
    subst (λ (y : NodeEntry). e.prefix ≤ y.prefix) same (nested first free a e x i all.0 before.0 h k)
behind first free a e (x ∷ xs) i all before h (suc j) f at there = behind first free a e xs i all.1 before.1 h j f at there

-- an answer among the later entries is one of all
later : (first free a : ℕ) (e : NodeEntry) (es : List NodeEntry) → IsInside first free e → AllByRecursion (IsInside first free) es → AllByRecursion (ComesBefore e) es → (x : NodeEntry) → IsLongest es a x → IsLongest (e ∷ es) a x
later first free a e es i all before x answer = record {
  place = suc answer.place;
  at = answer.at;
  here = answer.here;
  longest = longer;
} where
  at_head : (f : NodeEntry) → e ≡ f → has f a ≡ true → (f.prefix < x.prefix) ⊎ ((f.prefix ≡ x.prefix) × (zero ≤ suc answer.place))
  at_head f same there =
      let h : has e a ≡ true = ap (λ (y : NodeEntry). has y a) same ∙ there in
      let le : e.prefix ≤ x.prefix = behind first free a e es i all before h answer.place x answer.at answer.here in
      let same_prefix : e.prefix ≡ f.prefix = ap (λ (y : NodeEntry). y.prefix) same in
      elim (cases_lt f.prefix x.prefix) [ inl less ↦ inl less | inr more ↦ inr (omega arith, omega arith) ]

  longer : (j : ℕ) (f : NodeEntry) → slice_get (e ∷ es) j ≡ Some f → has f a ≡ true → (f.prefix < x.prefix) ⊎ ((f.prefix ≡ x.prefix) × (j ≤ suc answer.place))
  longer zero f at there = at_head f (cc) there
  longer (suc j) f at there = elim (answer.longest j f at there) [ inl less ↦ inl less | inr same ↦ inr (same.0, omega (arith, same.1)) ]

-- where no later entry has the address, one that does is the answer
alone : (a : ℕ) (e : NodeEntry) (es : List NodeEntry) → has e a ≡ true → HasNone es a → IsLongest (e ∷ es) a e
alone a e es there none = record { place = zero; at = refl; here = there; longest = longer } where
  longer : (j : ℕ) (f : NodeEntry) → slice_get (e ∷ es) j ≡ Some f → has f a ≡ true → (f.prefix < e.prefix) ⊎ ((f.prefix ≡ e.prefix) × (j ≤ zero))
  longer zero f at h = let same : f ≡ e = cc in inr (ap (λ (y : NodeEntry). y.prefix) same, omega arith)
  longer (suc j) f at h = absurd (none j f at h)

outcome : (first free a : ℕ) (found : Option ℕ) (es : List NodeEntry) → IsOrdered es → AllByRecursion (IsInside first free) es → Outcome found es a
outcome first free a found [] o all = inl (λ j f at there. absurd (cc), refl)
outcome first free a found (e ∷ es) o all =
    by (has e a) refl (outcome first free a (cond (has e a) e.offset found) es o.1 all.1)
  where
    by : (b : Bool) → has e a ≡ b → Outcome (cond (has e a) e.offset found) es a → Outcome found (e ∷ es) a
    by b is (inr w) = inr (w.0, later first free a e es all.0 all.1 o.0 w.0 w.1, w.2)
    by true is (inl w) = inr (e, alone a e es is w.0, w.1 ∙ ap (λ (b : Bool). cond b e.offset found) is)
    by false is (inl w) = inl (none_of e es a is w.0, w.1 ∙ ap (λ (b : Bool). cond b e.offset found) is)

says_of : (es : List NodeEntry) (a : ℕ) → Outcome None es a → Gives es a (offset_in es a)
says_of es a (inl w) = inl w
says_of es a (inr w) = inr w

pub last_of_inside : (es : List NodeEntry) (first free a : ℕ) → IsOrdered es → AllByRecursion (IsInside first free) es → Gives es a (offset_in es a)
last_of_inside es first free a o all = says_of es a (outcome first free a None es o all)

pub last_is_longest : LastIsLongest
last_is_longest version data_len es a o all = last_of_inside es 0 (width version) a o (all_inside version data_len es all)
