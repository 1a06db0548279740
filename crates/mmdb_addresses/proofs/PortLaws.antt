-- Ports and zones.
use Rattle.std.proofs.Common.{◌≡◌, ℕ, ◌+◌, ◌-◌, ◌*◌, ◌<◌, ◌≤◌, true, nat_eq, List, length, get_or, take, drop, All, Decides, sym, ap, subst, zero, suc, ◌∙◌, arith}
use Rattle.std.proofs.lemmas.Bool.{eq-eqb, eqb-true}
use Rattle.std.proofs.lemmas.Int.Digits.{digits_more, digits_value_more}
use Rattle.std.proofs.Math.Seq.{take-length}
use Rattle.std.proofs.lemmas.List.Elements.{All-from_get_or, All-get_or}
use Rattle.std.proofs.lemmas.List.Sums.{prefix_len_is, prefix_len_passes}
use Rattle.std.proofs.lemmas.Str.{digit_value_digit}
use Rattle.std.proofs.lemmas.Str.Parse.{digit_at, digits_value-take-le}
use Rattle.std.specs.Char.{digit_value}
use Rattle.std.specs.List.{prefix_len}
use Rattle.std.specs.Str.Parse.{AllDigits, digits_value}
use Rattle.mmdb_addresses.specs.Bytes.{is_name_byte}
use Rattle.mmdb_addresses.specs.Kinds.{has}
use Rattle.mmdb_addresses.specs.Words.{IsPort, IsZone}
use Rattle.mmdb_addresses.specs.declared.bytes.AddressKind.TheVariants.{Name}

pub value_of_digit : (x : ℕ) → 48 ≤ x → x ≤ 57 → digit_value x ≡ x - 48
value_of_digit x low high = omega (arith, digit_value_digit x (low, high))

pub value_more : (digits : List ℕ) (i port digit : ℕ) → i < length digits → 48 ≤ get_or digits i 0 → get_or digits i 0 ≤ 57 → port ≡ digits_value 10 (take i digits)
    → digit ≡ get_or digits i 0 - 48 → port * 10 + digit ≡ digits_value 10 (take (i + 1) digits)
value_more digits i port digit l low high is this =
    omega (arith, digits_value_more 10 digits i l, value_of_digit (get_or digits i 0) low high)

digits_of : (digits : List ℕ) (i : ℕ) → i ≤ length digits → ((k : ℕ) → k < i → (48 ≤ get_or digits k 0) × (get_or digits k 0 ≤ 57)) → AllDigits 10 (take i digits)
digits_of digits zero l all = tt
digits_of digits (suc i) l all =
    let here = all i (omega arith) in
    let next : i + 1 ≡ suc i = omega arith in
    subst (λ n. AllDigits 10 (take n digits)) next
    (digits_more 10 digits i (omega arith) (digits_of digits i (omega arith) (λ k m. all k (omega arith))) (omega (arith, value_of_digit (get_or digits i 0) here.0 here.1)))

pub is_port_of : (digits : List ℕ) (port : ℕ) → 0 < length digits → length digits ≤ 5 → port ≡ digits_value 10 (take (length digits) digits) → port ≤ 65535
    → ((k : ℕ) → k < length digits → (48 ≤ get_or digits k 0) × (get_or digits k 0 ≤ 57)) → IsPort digits
is_port_of digits port some short is fits all = record {
  numeral = (some, subst (AllDigits 10) (take-length digits) (digits_of digits (length digits) (omega arith) all));
  short = short;
  fits = omega (arith, ap (digits_value 10) (take-length digits));
}

pub other_digit : (digits : List ℕ) (i : ℕ) → i < length digits → ((48 ≤ get_or digits i 0) × (get_or digits i 0 ≤ 57) → ⊥) → IsPort digits → ⊥
other_digit digits i l never port = never (digit_at digits i port.numeral.1 l)

pub too_much : (digits : List ℕ) (i port : ℕ) → port ≡ digits_value 10 (take i digits) → 65535 < port → IsPort digits → ⊥
too_much digits i port is over good = omega (arith, digits_value-take-le 10 digits i (omega arith), good.fits)

-- ---- zones

all_of_run : (name : List ℕ) → prefix_len is_name_byte name ≡ length name → All (λ x. is_name_byte x ≡ true) name
all_of_run name is = All-from_get_or (λ x. is_name_byte x ≡ true) name 0 (λ k l. prefix_len_passes is_name_byte name k 0 (omega arith))

run_of_all : (name : List ℕ) → All (λ x. is_name_byte x ≡ true) name → prefix_len is_name_byte name ≡ length name
run_of_all name all = prefix_len_is is_name_byte name (length name) 0 (omega arith) (λ k l. All-get_or (λ x. is_name_byte x ≡ true) name k 0 l all) (λ over. absurd (omega arith))

pub zone_of : (name : List ℕ) (end : ℕ) → 0 < length name → end ≡ 0 + prefix_len (has Name) (drop 0 name) → Decides (nat_eq end (length name)) (IsZone name)
zone_of name end some is =
    let run : end ≡ prefix_len is_name_byte name = omega (arith, is) in
    ((λ same. record { some = some; plain = all_of_run name (sym run ∙ eqb-true end (length name) same) }), (λ zone. eq-eqb end (length name) (run ∙ run_of_all name zone.plain)))
