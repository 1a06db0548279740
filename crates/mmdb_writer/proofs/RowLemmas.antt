-- Entries of rows, in order, say of an address what the rows say.
use Rattle.std.proofs.Common.{◌≡◌, ◌⊎◌, inl, inr, ℕ, zero, suc, ◌+◌, ◌-◌, ◌*◌, ◌/◌, ◌%◌, ◌^◌, ◌<◌, ◌≤◌, eqb, Bool, true, List, [], ◌∷◌, ◌++◌, length, Option, Some, None, refl, ap, sym, ◌∙◌, subst, arith}
use Rattle.std.specs.List.{AllZip, slice_get, filter}
use Rattle.std.proofs.lemmas.Bool.{and_parts, and_from}
use Rattle.std.proofs.lemmas.Bool.Decides.{nat_tests}
use Rattle.std.proofs.lemmas.Nat.{div-add-mod'}
use Rattle.std.proofs.lemmas.List.{length-take-le}
use Rattle.std.proofs.Math.Nat.{div-eq_of_lt-le, mod-lt}
use Rattle.std.proofs.lemmas.Nat.{pow_pos}
use Rattle.mmdb_net.specs.Bits.{bits_of, IsPrefix}
use Rattle.mmdb_net.proofs.AddressLaws.{same_first_bits}
use Rattle.mmdb_net.proofs.BitLaws.{length-bits_of}
use Rattle.mmdb_blocks.specs.Blocks.{IsBlock, end}
use Rattle.mmdb_nodes.specs.declared.entry.NodeEntry.{NodeEntry}
use Rattle.mmdb_nodes.specs.Entries.{block_of, has, IsLongest, HasNone, Gives}
use Rattle.mmdb_nodes.proofs.EntryLemmas.{has-true}
use Rattle.mmdb_writer.specs.declared.row.Row.{Row}
use Rattle.mmdb_writer.specs.Rows.{Has, prefix_of, IsRowOf, HasNoRow}
use Rattle.mmdb_writer.specs.Making.{IsOffsetOf, IsEntryOf}
use Rattle.mmdb_writer.specs.Making.{is_same_block}
use Rattle.mmdb_writer.proofs.LastLemmas.{IsLastAt, still_in, still_last}

-- ---- blocks and the bits that their addresses begin with

has-from : (e : NodeEntry) (a : ℕ) → has e a ≡ true → e.first ≤ a
has-from e a h = grind (arith, nat_tests)

has-to : (e : NodeEntry) (a : ℕ) → has e a ≡ true → a < end (block_of e)
has-to e a h = grind (arith, nat_tests)

-- how many addresses an entry has
abbrev size : NodeEntry → ℕ
size e = 2 ^ (128 - e.prefix)

module _ (e : NodeEntry) (a : ℕ) (block : IsBlock (block_of e)) where
  first_is : e.first / size e * size e ≡ e.first
  first_is = let parts = div-add-mod' e.first (size e) in let aligned = block.aligned in omega arith

  same_quotient : has e a ≡ true → e.first / size e ≡ a / size e
  same_quotient h =
      let from = has-from e a h in
      let to = has-to e a h in
      let first = first_is in
      let low : e.first / size e * size e ≤ a = omega arith in
      let high : a < (e.first / size e + 1) * size e = omega arith in
      sym (div-eq_of_lt-le {k = e.first / size e} (size e) {m = a} low high)

  from_quotient : e.first / size e ≡ a / size e → has e a ≡ true
  from_quotient q =
      let first = first_is in
      let parts = div-add-mod' a (size e) in
      let some : 0 < size e = pow_pos (128 - e.prefix) in
      let rest : a % size e < size e = mod-lt a some in
      let same : e.first / size e * size e ≡ a / size e * size e = ap (λ (n : ℕ). n * size e) q in
      has-true e a (omega arith) (omega arith)

module _ (offsets : List ℕ) (row : Row) (e : NodeEntry) (of : IsEntryOf offsets row e) (a : ℕ) (fits : a < 2 ^ 128) where
  sum : 128 ≡ e.prefix + (128 - e.prefix)
  sum = let p = of.block.prefix in omega arith

  pub has_row : has e a ≡ true → Has row (bits_of 128 a)
  has_row h =
      subst (λ (bits : List Bool). IsPrefix bits (bits_of 128 a)) of.bits
      ((same_first_bits e.prefix (128 - e.prefix) 128 e.first a sum of.block.first fits).0 (same_quotient e a of.block h))

  pub has_entry : Has row (bits_of 128 a) → has e a ≡ true
  has_entry h =
      from_quotient e a of.block
      ((same_first_bits e.prefix (128 - e.prefix) 128 e.first a sum of.block.first fits).1 (subst (λ (bits : List Bool). IsPrefix bits (bits_of 128 a)) (sym of.bits) h))

pub prefix_is : (offsets : List ℕ) (row : Row) (e : NodeEntry) → IsEntryOf offsets row e → prefix_of row ≡ e.prefix
prefix_is offsets row e of =
    let p = of.block.prefix in
    let l = length-bits_of 128 e.first in
    ap length (sym of.bits) ∙ length-take-le e.prefix (bits_of 128 e.first) (omega arith)

-- ---- rows and their entries, place by place

pub zip_right : {A B : Type 0} (R : A → B → Type 0) (xs : List A) (ys : List B) → AllZip R xs ys → (j : ℕ) (x : A) → slice_get xs j ≡ Some x → (y : B) × (slice_get ys j ≡ Some y) × R x y
zip_right R [] ys all j x at = absurd (cc)
zip_right R (x ∷ xs) [] all j z at = absurd all
zip_right R (x ∷ xs) (y ∷ ys) all zero z at = let same : x ≡ z = cc in (y, refl, subst (λ w. R w y) same all.0)
zip_right R (x ∷ xs) (y ∷ ys) all (suc j) z at = zip_right R xs ys all.1 j z at

pub zip_left : {A B : Type 0} (R : A → B → Type 0) (xs : List A) (ys : List B) → AllZip R xs ys → (j : ℕ) (y : B) → slice_get ys j ≡ Some y → (x : A) × (slice_get xs j ≡ Some x) × R x y
zip_left R xs [] all j y at = absurd (cc)
zip_left R [] (y ∷ ys) all j z at = absurd all
zip_left R (x ∷ xs) (y ∷ ys) all zero z at = let same : y ≡ z = cc in (x, refl, subst (λ w. R x w) same all.0)
zip_left R (x ∷ xs) (y ∷ ys) all (suc j) z at = zip_left R xs ys all.1 j z at

pub zip_snoc : {A B : Type 0} (R : A → B → Type 0) (xs : List A) (ys : List B) (x : A) (y : B) → AllZip R xs ys → R x y → AllZip R (xs ++ x ∷ []) (ys ++ y ∷ [])
zip_snoc R [] [] x y all last = (last, tt)
zip_snoc R [] (z ∷ zs) x y all last = absurd all
zip_snoc R (z ∷ zs) [] x y all last = absurd all
zip_snoc R (w ∷ ws) (z ∷ zs) x y all last = (all.0, zip_snoc R ws zs x y all.1 last)

-- ---- entries in another order

same_block : (e f : NodeEntry) → is_same_block e f ≡ true → (e.first ≡ f.first) × (e.prefix ≡ f.prefix)
same_block e f h =
    let parts = and_parts (eqb e.first f.first) (eqb e.prefix f.prefix) h in
    let first = parts.0 in let second = parts.1 in
    (grind (arith, nat_tests), grind (arith, nat_tests))

block_same : (e f : NodeEntry) → e.first ≡ f.first → e.prefix ≡ f.prefix → is_same_block e f ≡ true
block_same e f h k = and_from (eqb e.first f.first) (eqb e.prefix f.prefix) (grind (arith, nat_tests)) (grind (arith, nat_tests))

-- blocks with one address and one prefix are the same
one_first : (e f : NodeEntry) (a : ℕ) → IsBlock (block_of e) → IsBlock (block_of f) → e.prefix ≡ f.prefix → has e a ≡ true → has f a ≡ true → e.first ≡ f.first
one_first e f a block other same h k =
    let sizes : size e ≡ size f = ap (λ (p : ℕ). 2 ^ (128 - p)) same in
    let q : e.first / size e ≡ f.first / size f = same_quotient e a block h ∙ ap (λ (n : ℕ). a / n) sizes ∙ sym (same_quotient f a other k) in
    sym (first_is e a block) ∙ ap (λ (n : ℕ). n * size e) q ∙ ap (λ (n : ℕ). f.first / size f * n) sizes ∙ first_is f a other

module _ (given sorted : List NodeEntry) (a : ℕ) (stable : (e : NodeEntry) → filter (is_same_block e) sorted ≡ filter (is_same_block e) given)
    (blocks : (j : ℕ) (e : NodeEntry) → slice_get given j ≡ Some e → IsBlock (block_of e)) where
  in_sorted : (j : ℕ) (e : NodeEntry) → slice_get given j ≡ Some e → (i : ℕ) × (slice_get sorted i ≡ Some e)
  in_sorted j e at = still_in (is_same_block e) given sorted j e (sym (stable e)) at (block_same e e refl refl)

  in_given : (j : ℕ) (e : NodeEntry) → slice_get sorted j ≡ Some e → (i : ℕ) × (slice_get given i ≡ Some e)
  in_given j e at = still_in (is_same_block e) sorted given j e (stable e) at (block_same e e refl refl)

  none_given : HasNone sorted a → HasNone given a
  none_given none j e at = let k = in_sorted j e at in none k.0 e k.1

  module _ (e : NodeEntry) (longest : IsLongest sorted a e) where
    last_sorted : IsLastAt (is_same_block e) sorted longest.place e
    last_sorted = record { at = longest.at; holds = block_same e e refl refl; last = up }
      where
        up : (j : ℕ) (f : NodeEntry) → slice_get sorted j ≡ Some f → is_same_block e f ≡ true → j ≤ longest.place
        up j f at same =
            let parts = same_block e f same in
            let first = parts.0 in
            let prefix = parts.1 in
            let from = has-from e a longest.here in
            let to = has-to e a longest.here in
            let sizes : size e ≡ size f = ap (λ (p : ℕ). 2 ^ (128 - p)) prefix in
            let there : has f a ≡ true = has-true f a (omega arith) (omega arith) in
            elim (longest.longest j f at there) [ inl less ↦ absurd (omega arith) | inr more ↦ more.1 ]

    longest_given : IsLongest given a e
    longest_given =
        let moved = still_last (is_same_block e) sorted given longest.place e (stable e) last_sorted in
        let own = in_given longest.place e longest.at in
        record {
          place = moved.0;
          at = moved.1.at;
          here = longest.here;
          longest = λ j f at there.
              let k = in_sorted j f at in
              elim (longest.longest k.0 f k.1 there) [
                | inl less ↦ inl less
                | inr more ↦
                    let same : e.prefix ≡ f.prefix = sym more.0 in
                    let first : e.first ≡ f.first = one_first e f a (blocks own.0 e own.1) (blocks j f at) same longest.here there in
                    inr (more.0, moved.1.last j f at (block_same e f first same))
              ];
        }

  pub gives_given : (found : Option ℕ) → Gives sorted a found → Gives given a found
  gives_given found (inl h) = inl (none_given h.0, h.1)
  gives_given found (inr h) = inr (h.0, longest_given h.0 h.1, h.2)

-- ---- rows

-- the offset of the row of an address, or none
abbrev pub GivesRow : List Row → List ℕ → List Bool → Option ℕ → Type 0
GivesRow rows offsets bits found = (HasNoRow rows bits × (found ≡ None)) ⊎ ((row : Row) × IsRowOf rows bits row × IsOffsetOf offsets row.value found)

module _ (rows : List Row) (offsets : List ℕ) (given : List NodeEntry) (all : AllZip (IsEntryOf offsets) rows given) (a : ℕ) (fits : a < 2 ^ 128) where
  no_row : HasNone given a → HasNoRow rows (bits_of 128 a)
  no_row none j row at h =
      let e = zip_right (IsEntryOf offsets) rows given all j row at in
      none j e.0 e.1 (has_entry offsets row e.0 e.2 a fits h)

  pub gives_row : (found : Option ℕ) → Gives given a found → GivesRow rows offsets (bits_of 128 a) found
  gives_row found (inl h) = inl (no_row h.0, h.1)
  gives_row found (inr h) =
      let e = h.0 in
      let longest = h.1 in
      let r = zip_left (IsEntryOf offsets) rows given all longest.place e longest.at in
      let row = r.0 in
      let prefix = prefix_is offsets row e r.2 in
      let is : IsRowOf rows (bits_of 128 a) row = record {
        place = longest.place;
        at = r.1;
        here = has_row offsets row e r.2 a fits longest.here;
        longest = λ j other at there.
            let o = zip_right (IsEntryOf offsets) rows given all j other at in
            let other_prefix = prefix_is offsets other o.0 o.2 in
            elim (longest.longest j o.0 o.1 (has_entry offsets other o.0 o.2 a fits there)) [
              | inl less ↦ inl (omega arith)
              | inr more ↦ let m = more.0 in inr (omega arith, more.1)
            ];
      } in
      inr (row, is, subst (IsOffsetOf offsets row.value) (sym h.2) r.2.offset)
