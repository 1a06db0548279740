-- An address of IPv4 that a text begins with.
use Rattle.std.proofs.Common.{◌≡◌, ◌≢◌, ℕ, ◌-◌, ◌<◌, ◌≤◌, true, false, not, ◌||◌, ◌==◌, if◌then◌else◌, List, ◌∷◌, ◌++◌, All, length, take, drop, get_or, take_while, decimal, codes, sym, ap, ap₂, subst, ◌∙◌, append_assoc, arith}
use Rattle.std.proofs.Math.Logic.{inl}
use Rattle.std.proofs.lemmas.Bool.{ne_eqb}
use Rattle.std.proofs.lemmas.Fmt.{decimal_is_IsNumeral, decimal_nonempty}
use Rattle.std.proofs.lemmas.List.{get_or-take, length-append, length-drop, length-take-le, take_at}
use Rattle.std.proofs.lemmas.List.Elements.{All-append, All-cons, All-from_get_or, All-get_or}
use Rattle.std.proofs.lemmas.List.Sums.{prefix_len_is}
use Rattle.std.proofs.lemmas.Str.Parse.{digit_at}
use Rattle.std.specs.List.{prefix_len}
use Rattle.std.specs.Net.Addr.{ipv4_octets}
use Rattle.std.specs.Net.Grammar.{IsDotted, IsIpv4Text}
use Rattle.std.specs.Net.Text.{dotted_text}
use Rattle.std.specs.declared.net.ip_addr.IpAddr.TheVariants.{V4}
use Rattle.std.specs.declared.net.ipv4_addr.Ipv4Addr.{Ipv4Addr}
use Rattle.mmdb_addresses.specs.Addresses.{IsAddressIn}
use Rattle.mmdb_addresses.specs.Bytes.{is_blank, ends_word}
use Rattle.mmdb_addresses.specs.Cells.{first_word, unquoted, without_opening, without_closing}
use Rattle.mmdb_addresses.specs.declared.readings.Reading.TheVariants.{First}
use Rattle.mmdb_addresses.specs.Octets.{HasOctet, HasDotAndOctet}

-- what is before an index is what the text has before the rest from there on
front_is : (text front : List ℕ) (end : ℕ) → end ≤ length text → text ≡ front ++ drop end text → take end text ≡ front
front_is text front end high is =
    let long : length front ≡ end = omega (arith, ap length is, length-append front (drop end text), length-drop end text) in
    ap (take end) is ∙ take_at front (drop end text) end long

pub dotted_is : (text : List ℕ) (i j k end a b c d : ℕ) → HasOctet text 0 i a → HasDotAndOctet text i j b → HasDotAndOctet text j k c → HasDotAndOctet text k end d
    → take end text ≡ dotted_text a b c d
dotted_is text i j k end a b c d first second third fourth =
    front_is text (dotted_text a b c d) end fourth.high
    (first.reads ∙ ap (λ r. decimal a ++ r) (second.reads ∙ ap (λ r. 46 ∷ (decimal b ++ r)) (third.reads ∙ ap (λ r. 46 ∷ (decimal c ++ r)) fourth.reads)) ∙ sym (simp append_assoc))

-- ---- its bytes are plain: none is a blank, a comma, a semicolon or a double quote

abbrev pub IsPlainByte : ℕ → Type 0
IsPlainByte x = (46 ≤ x) × (x ≢ 59)

digits_plain : (n : ℕ) → n < 256 → All IsPlainByte (decimal n)
digits_plain n small =
    let digits = (decimal_is_IsNumeral n (omega arith)).0 in
    All-from_get_or IsPlainByte (decimal n) 0 (λ k l. let d = digit_at (decimal n) k digits.1 l in (omega arith, omega arith))

dot_plain : (n : ℕ) (rest : List ℕ) → n < 256 → All IsPlainByte rest → All IsPlainByte (decimal n ++ (codes "." ++ rest))
dot_plain n rest small all = All-append IsPlainByte (decimal n) (codes "." ++ rest) (digits_plain n small) (All-cons IsPlainByte 46 rest (omega arith, omega arith) all)

pub regrouped : (a b c d : ℕ) → dotted_text a b c d ≡ decimal a ++ (codes "." ++ (decimal b ++ (codes "." ++ (decimal c ++ (codes "." ++ decimal d)))))
regrouped a b c d = simp append_assoc

pub dotted_plain : (text octets : List ℕ) → IsDotted text octets → All IsPlainByte text
dotted_plain text octets dotted =
    subst (All IsPlainByte) (sym (dotted.spelled ∙ regrouped dotted.a dotted.b dotted.c dotted.d))
    (dot_plain dotted.a _ dotted.fit.0 (dot_plain dotted.b _ dotted.fit.1 (dot_plain dotted.c _ dotted.fit.2 (digits_plain dotted.d dotted.fit.3))))

dotted_some : (text octets : List ℕ) → IsDotted text octets → 0 < length text
dotted_some text octets dotted =
    let rest = codes "." ++ (decimal dotted.b ++ (codes "." ++ (decimal dotted.c ++ (codes "." ++ decimal dotted.d)))) in
    omega (arith, ap length (dotted.spelled ∙ regrouped dotted.a dotted.b dotted.c dotted.d), length-append (decimal dotted.a) rest, decimal_nonempty dotted.a (omega arith))

not_blank : (x : ℕ) → IsPlainByte x → is_blank x ≡ false
not_blank x plain = ap₂ (λ a b. a || b) (ne_eqb x 32 (λ (e : x ≡ 32). omega arith)) (ne_eqb x 9 (λ (e : x ≡ 9). omega arith))

in_word : (x : ℕ) → IsPlainByte x → ends_word x ≡ false
in_word x plain =
    ap₂ (λ a b. a || b) (ap₂ (λ a b. a || b) (not_blank x plain) (ne_eqb x 44 (λ (e : x ≡ 44). omega arith))) (ne_eqb x 59 (λ (e : x ≡ 59). omega arith))

module _ (text : List ℕ) (end : ℕ) (within : end ≤ length text) (some : 0 < end) (plain : All IsPlainByte (take end text)) where
  long : length (take end text) ≡ end
  long = length-take-le end text within

  plain_at : (k : ℕ) → k < end → IsPlainByte (get_or text k 0)
  plain_at k l = subst IsPlainByte (get_or-take end text k 0 l) (All-get_or IsPlainByte (take end text) k 0 (omega (arith, long)) plain)

  word_is : (end < length text → ends_word (get_or text end 0) ≡ true) → first_word text ≡ take end text
  word_is stops =
      let none : prefix_len is_blank text ≡ 0 = prefix_len_is is_blank text 0 0 (omega arith) (λ k l. absurd (omega arith)) (λ l. not_blank _ (plain_at 0 some)) in
      let run : prefix_len (λ x. not (ends_word x)) text ≡ end = prefix_len_is (λ x. not (ends_word x)) text end 0 within (λ k l. ap not (in_word _ (plain_at k l))) (λ l. ap not (stops l)) in
      ap (λ n. take_while (λ x. not (ends_word x)) (drop n text)) none ∙ ap (λ n. take n text) run

  no_quotes : unquoted (take end text) ≡ take end text
  no_quotes =
      let first : get_or (take end text) 0 0 == 34 ≡ false = ne_eqb (get_or (take end text) 0 0) 34 (λ (e : get_or (take end text) 0 0 ≡ 34). let p = plain_at 0 some in omega (arith, get_or-take end text 0 0 some)) in
      let last : get_or (take end text) (length (take end text) - 1) 0 == 34 ≡ false = ne_eqb (get_or (take end text) (length (take end text) - 1) 0) 34 (λ (e : get_or (take end text) (length (take end text) - 1) 0 ≡ 34). let p = plain_at (end - 1) (omega (arith, some)) in omega (arith, get_or-take end text (end - 1) 0 (omega (arith, some)), ap (λ n. get_or (take end text) (n - 1) 0) long)) in
      let opening : without_opening (take end text) ≡ take end text = ap (λ b. if b then drop 1 (take end text) else take end text) first in
      ap without_closing opening ∙ ap (λ b. if b then take (length (take end text) - 1) (take end text) else take end text) last

  pub word_of_front : (end < length text → ends_word (get_or text end 0) ≡ true) → unquoted (first_word text) ≡ take end text
  word_of_front stops = ap unquoted (word_is stops) ∙ no_quotes

pub first_is : (text : List ℕ) (end : ℕ) (address : Ipv4Addr) → end ≤ length text → IsIpv4Text (take end text) address → (end < length text → ends_word (get_or text end 0) ≡ true) → IsAddressIn First text (V4 address)
first_is text end address within spelled stops =
    let some : 0 < end = omega (arith, dotted_some (take end text) (ipv4_octets address) spelled, length-take-le end text within) in
    inl (inl (subst (λ w. IsIpv4Text w address) (sym (word_of_front text end within some (dotted_plain (take end text) (ipv4_octets address) spelled) stops)) spelled))
