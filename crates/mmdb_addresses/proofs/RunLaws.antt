-- Where addresses are in a text.
use Rattle.std.proofs.Common.{◌≡◌, ◌≢◌, ℕ, ◌+◌, ◌-◌, ◌<◌, ◌≤◌, Bool, true, false, not, List, [], length, get_or, take, drop, Option, refl, sym, ap, subst, ◌∙◌, arith}
use Rattle.std.proofs.Math.Logic.{⊎_elim}
use Rattle.std.proofs.Math.ListN.{drop_of_length-le}
use Rattle.std.proofs.lemmas.Bool.{cases_lt}
use Rattle.std.proofs.lemmas.List.{get_or-drop, length-drop, length-take}
use Rattle.std.proofs.lemmas.List.Sums.{prefix_len-le-length, prefix_len-drop_yes, prefix_len_passes, prefix_len_stops}
use Rattle.std.specs.List.{prefix_len}
use Rattle.std.specs.declared.net.ip_addr.IpAddr.{IpAddr}
use Rattle.mmdb_addresses.specs.Addresses.{Finds}
use Rattle.mmdb_addresses.specs.Bytes.{is_run_byte}
use Rattle.mmdb_addresses.specs.Kinds.{has}
use Rattle.mmdb_addresses.specs.Rows.{BeginsRun, StandsAt, IsRun, is_behind_slash, run_at, behind_run}
use Rattle.mmdb_addresses.specs.declared.bytes.AddressKind.TheVariants.{InRun, OffRun}
use Rattle.mmdb_addresses.proofs.FindLaws.{finds_like}

-- ---- a run

pub run_length : (text : List ℕ) (at : ℕ) → length (run_at text at) ≡ prefix_len is_run_byte (drop at text)
run_length text at = omega (arith, length-take (prefix_len is_run_byte (drop at text)) (drop at text), prefix_len-le-length is_run_byte (drop at text))

run_is : (text : List ℕ) (at end : ℕ) → end ≡ at + length (run_at text at) → run_at text at ≡ take (end - at) (drop at text)
run_is text at end is =
    let n : prefix_len is_run_byte (drop at text) ≡ end - at = omega (arith, run_length text at) in ap (λ k. take k (drop at text)) n

some_left : (text : List ℕ) (end : ℕ) → end < length text → drop end text ≢ []
some_left text end l none = omega (arith, ap length none, length-drop end text)

pub finds_at : (text : List ℕ) (goes_on : Bool) (at end : ℕ) (found : Option IpAddr) → BeginsRun text at → end ≡ at + length (run_at text at) → is_behind_slash text at ≡ false
    → (goes_on ≡ true → end < length text) → Finds (IsRun (take (end - at) (drop at text)) (drop end text)) found → Finds (StandsAt text goes_on at) found
finds_at text goes_on at end found begins is free whole finds =
    let rest : behind_run text at ≡ drop end text = ap (λ k. drop k text) (sym is) in
    finds_like (IsRun (take (end - at) (drop at text)) (drop end text)) (StandsAt text goes_on at) found
    (λ a run. record {
      begins = begins;
      free = free;
      whole = λ on none. some_left text end (whole on) (sym rest ∙ none);
      is = subst (λ r. IsRun (run_at text at) r a) (sym rest) (subst (λ r. IsRun r (drop end text) a) (sym (run_is text at end is)) run);
    })
    (λ a stands. subst (λ r. IsRun r (drop end text) a) (run_is text at end is) (subst (λ r. IsRun (run_at text at) r a) rest stands.is))
    finds

-- ---- where runs begin

is_not : (b : Bool) → not b ≡ false → b ≡ true
is_not true e = refl
is_not false e = sym e

no_run : (b : Bool) → not b ≡ true → b ≡ true → ⊥
no_run true e h = cc
no_run false e h = cc

beyond : (text : List ℕ) (at : ℕ) → length text ≤ at → get_or text at 0 ≡ 0
beyond text at over =
    let same : at + 0 ≡ at = omega arith in
    ap (λ k. get_or text k 0) (sym same) ∙ sym (get_or-drop at text 0 0) ∙ ap (λ l. get_or l 0 0) (drop_of_length-le text over)

off_run : (text : List ℕ) (end k : ℕ) → end ≤ k → k < end + prefix_len (has OffRun) (drop end text) → is_run_byte (get_or text k 0) ≡ true → ⊥
off_run text end k from l run =
    let same : end + (k - end) ≡ k = omega arith in
    let less : k - end < prefix_len (has OffRun) (drop end text) = omega arith in
    no_run _ (subst (λ x. not (is_run_byte x) ≡ true) (get_or-drop end text (k - end) 0 ∙ ap (λ i. get_or text i 0) same) (prefix_len_passes (has OffRun) (drop end text) (k - end) 0 less)) run

not_beyond : (text : List ℕ) (k : ℕ) → length text ≤ k → is_run_byte (get_or text k 0) ≡ true → ⊥
not_beyond text k over run =
    let never : is_run_byte 0 ≡ true = subst (λ x. is_run_byte x ≡ true) (beyond text k over) run in cc

-- no run begins from the end of another one on, before the next
pub none_between : (text : List ℕ) (goes_on : Bool) (end at : ℕ) → at ≡ end + prefix_len (has OffRun) (drop end text) → ((k : ℕ) (a : IpAddr) → k < end → StandsAt text goes_on k a → ⊥)
    → (k : ℕ) (a : IpAddr) → k < at → StandsAt text goes_on k a → ⊥
none_between text goes_on end at is before k a l stands =
    ⊎_elim (λ (early : k < end). before k a early stands) (λ (late : end ≤ k). off_run text end k late (omega arith) stands.begins.here) (cases_lt k end)

-- the same of those alone that are after that end
pub none_off : (text : List ℕ) (goes_on : Bool) (end at : ℕ) → at ≡ end + prefix_len (has OffRun) (drop end text) → (k : ℕ) (a : IpAddr) → end ≤ k → k < at → StandsAt text goes_on k a → ⊥
none_off text goes_on end at is k a late l stands = off_run text end k late (omega arith) stands.begins.here

pub none_beyond : (text : List ℕ) (goes_on : Bool) (k : ℕ) (a : IpAddr) → length text ≤ k → StandsAt text goes_on k a → ⊥
none_beyond text goes_on k a over stands = not_beyond text k over stands.begins.here

pub none_at_all : (text : List ℕ) (goes_on : Bool) (at : ℕ) → length text ≤ at → ((k : ℕ) (a : IpAddr) → k < at → StandsAt text goes_on k a → ⊥) → (k : ℕ) (a : IpAddr) → StandsAt text goes_on k a → ⊥
none_at_all text goes_on at over before k a stands =
    ⊎_elim (λ (early : k < at). before k a early stands) (λ (late : at ≤ k). not_beyond text k (omega arith) stands.begins.here) (cases_lt k at)

run_here : (text : List ℕ) (end at : ℕ) → at ≡ end + prefix_len (has OffRun) (drop end text) → at < length text → is_run_byte (get_or text at 0) ≡ true
run_here text end at is l =
    let n = prefix_len (has OffRun) (drop end text) in
    let room : n < length (drop end text) = omega (arith, length-drop end text) in
    is_not _ (subst (λ x. not (is_run_byte x) ≡ false) (get_or-drop end text n 0 ∙ ap (λ i. get_or text i 0) (sym is)) (prefix_len_stops (has OffRun) (drop end text) 0 room))

false_of : (b : Bool) → (b ≡ true → ⊥) → b ≡ false
false_of true h = absurd (h refl)
false_of false h = refl

pub begins_at : (text : List ℕ) (end at : ℕ) → at ≡ end + prefix_len (has OffRun) (drop end text) → at < length text → (0 < end → is_run_byte (get_or text end 0) ≡ false) → BeginsRun text at
begins_at text end at is l border = record {
  here = run_here text end at is l;
  first = λ some. false_of _ (λ run. ⊎_elim
      (λ (further : end < at). off_run text end (at - 1) (omega arith) (omega arith) run)
      (λ (same : at ≤ end).
      let this : at ≡ end = omega arith in
      let off : is_run_byte (get_or text at 0) ≡ false = subst (λ k. is_run_byte (get_or text k 0) ≡ false) (sym this) (border (omega arith)) in
      let on : is_run_byte (get_or text at 0) ≡ true = run_here text end at is l in cc)
      (cases_lt end at));
}

-- ---- after a run

in_run : (text : List ℕ) (at k : ℕ) → at ≤ k → k < at + prefix_len is_run_byte (drop at text) → is_run_byte (get_or text k 0) ≡ true
in_run text at k from l =
    let same : at + (k - at) ≡ k = omega arith in
    let less : k - at < prefix_len is_run_byte (drop at text) = omega arith in
    subst (λ x. is_run_byte x ≡ true) (get_or-drop at text (k - at) 0 ∙ ap (λ i. get_or text i 0) same) (prefix_len_passes is_run_byte (drop at text) (k - at) 0 less)

-- where a run that begins here ends, there is no run byte
pub border_at : (text : List ℕ) (at end : ℕ) → at ≤ length text → end ≡ at + prefix_len (has InRun) (drop at text) → is_run_byte (get_or text end 0) ≡ false
border_at text at end room is =
    let n = prefix_len is_run_byte (drop at text) in
    ⊎_elim
    (λ (l : end < length text).
    let less : n < length (drop at text) = omega (arith, length-drop at text) in
    subst (λ x. is_run_byte x ≡ false) (get_or-drop at text n 0 ∙ ap (λ i. get_or text i 0) (sym is)) (prefix_len_stops is_run_byte (drop at text) 0 less))
    (λ (over : length text ≤ end). ap is_run_byte (beyond text end over))
    (cases_lt end (length text))

pub runs_on : (text : List ℕ) (at end : ℕ) → at < length text → is_run_byte (get_or text at 0) ≡ true → end ≡ at + prefix_len (has InRun) (drop at text) → at < end
runs_on text at end l run is = omega (arith, prefix_len-drop_yes is_run_byte text at 0 l run)

-- no other run begins in a run
pub none_inside : (text : List ℕ) (goes_on : Bool) (at end : ℕ) → end ≡ at + prefix_len (has InRun) (drop at text) → ((k : ℕ) (a : IpAddr) → k < at → StandsAt text goes_on k a → ⊥)
    → ((a : IpAddr) → StandsAt text goes_on at a → ⊥) → (k : ℕ) (a : IpAddr) → k < end → StandsAt text goes_on k a → ⊥
none_inside text goes_on at end is before here k a l stands =
    ⊎_elim (λ (early : k < at). before k a early stands)
    (λ (late : at ≤ k). ⊎_elim
    (λ (further : at < k).
    let on : is_run_byte (get_or text (k - 1) 0) ≡ true = in_run text at (k - 1) (omega arith) (omega arith) in
    let off : is_run_byte (get_or text (k - 1) 0) ≡ false = stands.begins.first (omega arith) in cc)
    (λ (same : k ≤ at). here a (subst (λ i. StandsAt text goes_on i a) (omega arith) stands))
    (cases_lt at k))
    (cases_lt k at)

pub none_further : (text : List ℕ) (goes_on : Bool) (at end : ℕ) → end ≡ at + prefix_len (has InRun) (drop at text) → (k : ℕ) (a : IpAddr) → at < k → k < end → StandsAt text goes_on k a → ⊥
none_further text goes_on at end is k a further l stands =
    let on : is_run_byte (get_or text (k - 1) 0) ≡ true = in_run text at (k - 1) (omega arith) (omega arith) in
    let off : is_run_byte (get_or text (k - 1) 0) ≡ false = stands.begins.first (omega arith) in cc
