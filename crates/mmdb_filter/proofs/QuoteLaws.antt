-- Bytes of CSV that are neither quotes nor line feeds.
use Rattle.std.proofs.Common.{eqb-true, ne_eqb, ◌≢◌, ◌≡◌, ℕ, zero, suc, ◌+◌, ◌-◌, ◌<◌, ◌≤◌, List, ◌++◌, length, take, drop, get_or, Bool, true, false, not, ◌||◌, ◌&&◌, ◌==◌, nat_le, if◌then◌else◌, refl, sym, ap, ◌∙◌, subst, arith}
use Rattle.std.proofs.lemmas.Bool.Decides.{nat_tests}
use Rattle.std.proofs.lemmas.List.Sums.{prefix_len_passes, prefix_len_stops}
use Rattle.std.proofs.lemmas.List.{get_or-drop, length-drop}
use Rattle.std.specs.List.{prefix_len}
use Rattle.mmdb_filter.specs.Rows.{is_ended, position_after, Goes}
use Rattle.mmdb_filter.specs.Runs.{is_neither}
use Rattle.mmdb_filter.specs.Working.{position_past, position_behind}
use Rattle.mmdb_filter.specs.declared.rows.Rows.TheVariants.{Csv}
use Rattle.mmdb_filter.specs.declared.rows.RowPosition.{RowPosition}
use Rattle.mmdb_filter.specs.declared.rows.RowPosition.TheVariants.{Cell, Plain, Quoted, Closing, Ended}
use Rattle.mmdb_filter.proofs.RowLaws.{goes_one}

neither_one : (a b : Bool) → not (a || b) ≡ true → (a ≡ false) × (b ≡ false)
neither_one true b e = absurd (cc)
neither_one false true e = absurd (cc)
neither_one false false e = (refl, refl)

outside : (d x : ℕ) (opens : Bool) → (x == 34) ≡ false → (x == 10) ≡ false
    → (if x == 10 then Ended else (if x == d then Cell else (if x == 34 && opens then Quoted else Plain))) ≡ (if x == d then Cell else Plain)
outside d x opens quote feed =
    ap (λ b. if b then Ended else (if x == d then Cell else (if x == 34 && opens then Quoted else Plain))) feed ∙ ap (λ b. if x == d then Cell else (if b && opens then Quoted else Plain)) quote

past : (d : ℕ) (p : RowPosition) (x : ℕ) → is_ended p ≡ false → is_neither 34 10 x ≡ true → position_after (Csv d) p x ≡ position_past d p x
unfolding position_after
past d Cell x e h = let (quote, feed) = neither_one (x == 34) (x == 10) h in outside d x true quote feed
past d Plain x e h = let (quote, feed) = neither_one (x == 34) (x == 10) h in outside d x false quote feed
past d Closing x e h = let (quote, feed) = neither_one (x == 34) (x == 10) h in outside d x true quote feed
past d Quoted x e h = ap (λ b. if b then Closing else Quoted) (neither_one (x == 34) (x == 10) h).0
past d Ended x e h = absurd (cc)

told_by_last : (d : ℕ) (b : Bool) (y : ℕ) → position_past d (if b then Cell else Plain) y ≡ (if y == d then Cell else Plain)
told_by_last d true y = refl
told_by_last d false y = refl

past_twice : (d : ℕ) (p : RowPosition) (x y : ℕ) → position_past d (position_past d p x) y ≡ position_past d p y
past_twice d Quoted x y = refl
past_twice d Cell x y = told_by_last d (x == d) y
past_twice d Plain x y = told_by_last d (x == d) y
past_twice d Closing x y = told_by_last d (x == d) y
past_twice d Ended x y = told_by_last d (x == d) y

not_over : (b : Bool) → is_ended (if b then Cell else Plain) ≡ false
not_over true = refl
not_over false = refl

going_past : (d : ℕ) (p : RowPosition) (x : ℕ) → is_ended (position_past d p x) ≡ false
going_past d Quoted x = refl
going_past d Cell x = not_over (x == d)
going_past d Plain x = not_over (x == d)
going_past d Closing x = not_over (x == d)
going_past d Ended x = not_over (x == d)

-- the position after a number of bytes
abbrev past_run : ℕ → RowPosition → List ℕ → ℕ → ℕ → RowPosition
past_run d p bytes at zero = p
past_run d p bytes at (suc n) = position_past d p (get_or bytes (at + n) 0)

going_on : (d : ℕ) (p : RowPosition) (bytes : List ℕ) (at n : ℕ) → is_ended p ≡ false → is_ended (past_run d p bytes at n) ≡ false
going_on d p bytes at zero e = e
going_on d p bytes at (suc n) e = going_past d p (get_or bytes (at + n) 0)

one_more : (d : ℕ) (p : RowPosition) (bytes : List ℕ) (at n x : ℕ) → position_past d (past_run d p bytes at n) x ≡ position_past d p x
one_more d p bytes at zero x = refl
one_more d p bytes at (suc n) x = past_twice d p (get_or bytes (at + n) 0) x

goes_run : (d : ℕ) (first p : RowPosition) (at n m : ℕ) (bytes ys xs : List ℕ) → m ≡ at + n → m ≤ length bytes → is_ended p ≡ false → ((k : ℕ) → k < n → is_neither 34 10 (get_or bytes (at + k) 0) ≡ true)
    → Goes (Csv d) first xs (take at bytes) p (drop at bytes ++ ys) → Goes (Csv d) first xs (take m bytes) (past_run d p bytes at n) (drop m bytes ++ ys)
goes_run d first p at zero m bytes ys xs is l e run g =
    let same : at ≡ m = omega arith in
    subst (λ n. Goes (Csv d) first xs (take n bytes) p (drop n bytes ++ ys)) same g
goes_run d first p at (suc n) m bytes ys xs is l e run g =
    let q = past_run d p bytes at n in
    let x = get_or bytes (at + n) 0 in
    let same : (at + n) + 1 ≡ m = omega arith in
    let before = goes_run d first p at n (at + n) bytes ys xs refl (omega arith) e (λ k l. run k (omega arith)) g in
    let one = goes_one (Csv d) first q (at + n) bytes ys xs (omega arith) (going_on d p bytes at n e) before in
    let next : position_after (Csv d) q x ≡ position_past d p x = past d q x (going_on d p bytes at n e) (run n (omega arith)) ∙ one_more d p bytes at n x in
    subst (λ n. Goes (Csv d) first xs (take n bytes) (position_past d p x) (drop n bytes ++ ys)) same
    (subst (λ r. Goes (Csv d) first xs (take ((at + n) + 1) bytes) r (drop ((at + n) + 1) bytes ++ ys)) next one)

behind_is : (d : ℕ) (p : RowPosition) (bytes : List ℕ) (at n m : ℕ) → m ≡ at + n → past_run d p bytes at n ≡ position_behind d p bytes at m
behind_is d p bytes at zero m is =
    let none : nat_le m at ≡ true = grind (arith, nat_tests) in
    sym (ap (λ b. if b then p else position_past d p (get_or bytes (m - 1) 0)) none)
behind_is d p bytes at (suc n) m is =
    let some : nat_le m at ≡ false = grind (arith, nat_tests) in
    let last : at + n ≡ m - 1 = omega arith in
    ap (λ k. position_past d p (get_or bytes k 0)) last ∙ sym (ap (λ b. if b then p else position_past d p (get_or bytes (m - 1) 0)) some)

-- a run of such bytes
pub goes_behind : (d : ℕ) (first p : RowPosition) (at m : ℕ) (bytes ys xs : List ℕ) → at ≤ length bytes → m ≤ length bytes → m ≡ at + prefix_len (is_neither 34 10) (drop at bytes) → is_ended p ≡ false
    → Goes (Csv d) first xs (take at bytes) p (drop at bytes ++ ys) → Goes (Csv d) first xs (take m bytes) (position_behind d p bytes at m) (drop m bytes ++ ys)
goes_behind d first p at m bytes ys xs within l is e g =
    let n = prefix_len (is_neither 34 10) (drop at bytes) in
    let run : (k : ℕ) → k < n → is_neither 34 10 (get_or bytes (at + k) 0) ≡ true =
    λ k below. ap (is_neither 34 10) (sym (get_or-drop at bytes k 0)) ∙ prefix_len_passes (is_neither 34 10) (drop at bytes) k 0 below in
    subst (λ r. Goes (Csv d) first xs (take m bytes) r (drop m bytes ++ ys)) (behind_is d p bytes at n m is) (goes_run d first p at n m bytes ys xs is l e run g)

going_behind : (d : ℕ) (p : RowPosition) (bytes : List ℕ) (at m : ℕ) (b : Bool) → is_ended p ≡ false → is_ended (if b then p else position_past d p (get_or bytes (m - 1) 0)) ≡ false
going_behind d p bytes at m true e = e
going_behind d p bytes at m false e = going_past d p (get_or bytes (m - 1) 0)

-- it does not end the row
pub not_ended_behind : (d : ℕ) (p : RowPosition) (bytes : List ℕ) (at m : ℕ) → is_ended p ≡ false → is_ended (position_behind d p bytes at m) ≡ false
not_ended_behind d p bytes at m e = going_behind d p bytes at m (nat_le m at) e

-- between quotes all but a quote is passed
quoted_on : (d x : ℕ) → is_neither 34 34 x ≡ true → position_after (Csv d) Quoted x ≡ Quoted
unfolding position_after
quoted_on d x h = ap (λ b. if b then Closing else Quoted) (neither_one (x == 34) (x == 34) h).0

goes_quoted_run : (d : ℕ) (first : RowPosition) (at n m : ℕ) (bytes ys xs : List ℕ) → m ≡ at + n → m ≤ length bytes → ((k : ℕ) → k < n → is_neither 34 34 (get_or bytes (at + k) 0) ≡ true)
    → Goes (Csv d) first xs (take at bytes) Quoted (drop at bytes ++ ys) → Goes (Csv d) first xs (take m bytes) Quoted (drop m bytes ++ ys)
goes_quoted_run d first at zero m bytes ys xs is l run g =
    let same : at ≡ m = omega arith in
    subst (λ n. Goes (Csv d) first xs (take n bytes) Quoted (drop n bytes ++ ys)) same g
goes_quoted_run d first at (suc n) m bytes ys xs is l run g =
    let x = get_or bytes (at + n) 0 in
    let same : (at + n) + 1 ≡ m = omega arith in
    let before = goes_quoted_run d first at n (at + n) bytes ys xs refl (omega arith) (λ k l. run k (omega arith)) g in
    let one = goes_one (Csv d) first Quoted (at + n) bytes ys xs (omega arith) refl before in
    subst (λ n. Goes (Csv d) first xs (take n bytes) Quoted (drop n bytes ++ ys)) same
    (subst (λ r. Goes (Csv d) first xs (take ((at + n) + 1) bytes) r (drop ((at + n) + 1) bytes ++ ys)) (quoted_on d x (run n (omega arith))) one)

pub goes_quoted : (d : ℕ) (first p : RowPosition) (at m : ℕ) (bytes ys xs : List ℕ) → p ≡ Quoted → m ≤ length bytes → m ≡ at + prefix_len (is_neither 34 34) (drop at bytes)
    → Goes (Csv d) first xs (take at bytes) p (drop at bytes ++ ys) → Goes (Csv d) first xs (take m bytes) p (drop m bytes ++ ys)
goes_quoted d first p at m bytes ys xs between l is g =
    let n = prefix_len (is_neither 34 34) (drop at bytes) in
    let run : (k : ℕ) → k < n → is_neither 34 34 (get_or bytes (at + k) 0) ≡ true =
    λ k below. ap (is_neither 34 34) (sym (get_or-drop at bytes k 0)) ∙ prefix_len_passes (is_neither 34 34) (drop at bytes) k 0 below in
    let here = subst (λ q. Goes (Csv d) first xs (take at bytes) q (drop at bytes ++ ys)) between g in
    subst (λ q. Goes (Csv d) first xs (take m bytes) q (drop m bytes ++ ys)) (sym between) (goes_quoted_run d first at n m bytes ys xs is l run here)

-- what ends a run is one of the two
pub stopped : (a b at m : ℕ) (bytes : List ℕ) → m < length bytes → m ≡ at + prefix_len (is_neither a b) (drop at bytes) → is_neither a b (get_or bytes m 0) ≡ false
stopped a b at m bytes below is =
    let n = prefix_len (is_neither a b) (drop at bytes) in
    let stop : is_neither a b (get_or (drop at bytes) n 0) ≡ false = prefix_len_stops (is_neither a b) (drop at bytes) 0 (omega (arith, is, length-drop at bytes)) in
    ap (λ k. is_neither a b (get_or bytes k 0)) is ∙ ap (is_neither a b) (sym (get_or-drop at bytes n 0)) ∙ stop

one_of : (s t : Bool) → not (s || t) ≡ false → t ≡ false → s ≡ true
one_of true t e none = refl
one_of false true e none = absurd (cc)
one_of false false e none = absurd (cc)

-- a run that no line feed ends is ended by a quote
pub stopped_by_quote : (at m : ℕ) (bytes : List ℕ) → m < length bytes → m ≡ at + prefix_len (is_neither 34 10) (drop at bytes) → (get_or bytes m 0 ≡ 10 → ⊥) → get_or bytes m 0 ≡ 34
stopped_by_quote at m bytes below is other =
    let x = get_or bytes m 0 in
    eqb-true x 34 (one_of (x == 34) (x == 10) (stopped 34 10 at m bytes below is) (ne_eqb x 10 other))

-- one byte on
pub goes_to : (d : ℕ) (first p q : RowPosition) (at m : ℕ) (bytes ys xs : List ℕ) → m ≡ at + 1 → at < length bytes → is_ended p ≡ false → position_after (Csv d) p (get_or bytes at 0) ≡ q
    → Goes (Csv d) first xs (take at bytes) p (drop at bytes ++ ys) → Goes (Csv d) first xs (take m bytes) q (drop m bytes ++ ys)
goes_to d first p q at m bytes ys xs is below going next g =
    subst (λ n. Goes (Csv d) first xs (take n bytes) q (drop n bytes ++ ys)) (sym is)
    (subst (λ r. Goes (Csv d) first xs (take (at + 1) bytes) r (drop (at + 1) bytes ++ ys)) next (goes_one (Csv d) first p at bytes ys xs below going g))

closes : (d x : ℕ) → is_neither 34 34 x ≡ false → position_after (Csv d) Quoted x ≡ Closing
unfolding position_after
closes d x h = ap (λ b. if b then Closing else Quoted) (either_one (x == 34) h)
  where
    either_one : (b : Bool) → not (b || b) ≡ false → b ≡ true
    either_one true e = refl
    either_one false e = absurd (cc)

-- from between quotes to after the quote that closes
pub goes_closed : (d : ℕ) (first p : RowPosition) (at m : ℕ) (bytes ys xs : List ℕ) → p ≡ Quoted → m < length bytes → m ≡ at + prefix_len (is_neither 34 34) (drop at bytes)
    → Goes (Csv d) first xs (take at bytes) p (drop at bytes ++ ys) → Goes (Csv d) first xs (take (m + 1) bytes) Closing (drop (m + 1) bytes ++ ys)
goes_closed d first p at m bytes ys xs between below is g =
    let run = subst (λ q. Goes (Csv d) first xs (take m bytes) q (drop m bytes ++ ys)) between (goes_quoted d first p at m bytes ys xs between (omega arith) is g) in
    goes_to d first Quoted Closing m (m + 1) bytes ys xs refl below refl (closes d (get_or bytes m 0) (stopped 34 34 at m bytes below is)) run

-- a quote does not end a row
either_goes : (b : Bool) (p q : RowPosition) → is_ended p ≡ false → is_ended q ≡ false → is_ended (if b then p else q) ≡ false
either_goes true p q e f = e
either_goes false p q e f = f

going_by_quote : (d : ℕ) (p : RowPosition) → is_ended p ≡ false → is_ended (position_after (Csv d) p 34) ≡ false
unfolding position_after
going_by_quote d Cell e = either_goes (34 == d) Cell Quoted refl refl
going_by_quote d Plain e = either_goes (34 == d) Cell Plain refl refl
going_by_quote d Closing e = either_goes (34 == d) Cell Quoted refl refl
going_by_quote d Quoted e = refl
going_by_quote d Ended e = absurd (cc)

ends : (p : RowPosition) → is_ended p ≡ false → p ≢ Ended
ends p e = λ is. absurd (cc (ap is_ended is))

pub not_ended_by_quote : (d : ℕ) (p : RowPosition) → is_ended p ≡ false → position_after (Csv d) p 34 ≢ Ended
not_ended_by_quote d p e = ends (position_after (Csv d) p 34) (going_by_quote d p e)

-- outside of quotes a line feed does
by_last : (b : Bool) → (if b then Cell else Plain) ≢ Quoted
by_last true = λ is. absurd (cc)
by_last false = λ is. absurd (cc)

past_outside : (d : ℕ) (p : RowPosition) (x : ℕ) → p ≢ Quoted → position_past d p x ≢ Quoted
past_outside d Quoted x other = absurd (other refl)
past_outside d Cell x other = by_last (x == d)
past_outside d Plain x other = by_last (x == d)
past_outside d Closing x other = by_last (x == d)
past_outside d Ended x other = by_last (x == d)

behind_outside : (d : ℕ) (p : RowPosition) (x : ℕ) (b : Bool) → p ≢ Quoted → (if b then p else position_past d p x) ≢ Quoted
behind_outside d p x true other = other
behind_outside d p x false other = past_outside d p x other

ended_by_feed : (d : ℕ) (p : RowPosition) → p ≢ Quoted → position_after (Csv d) p 10 ≡ Ended
unfolding position_after
ended_by_feed d Quoted other = absurd (other refl)
ended_by_feed d Cell other = refl
ended_by_feed d Plain other = refl
ended_by_feed d Closing other = refl
ended_by_feed d Ended other = refl

pub ended_behind : (d : ℕ) (p : RowPosition) (bytes : List ℕ) (at m x : ℕ) → p ≢ Quoted → x ≡ 10 → position_after (Csv d) (position_behind d p bytes at m) x ≡ Ended
ended_behind d p bytes at m x other feed =
    ap (position_after (Csv d) (position_behind d p bytes at m)) feed ∙ ended_by_feed d (position_behind d p bytes at m) (behind_outside d p (get_or bytes (m - 1) 0) (nat_le m at) other)
