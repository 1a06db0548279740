-- How the texts of addresses begin.
use Rattle.std.proofs.Common.{◌≡◌, ◌⊎◌, ℕ, ◌+◌, ◌-◌, ◌<◌, ◌≤◌, ◌==◌, if◌then◌else◌, Bool, true, false, not, List, [], ◌∷◌, ◌++◌, length, get_or, take, drop, codes, decimal, refl, sym, ap, subst, ◌∙◌, append_assoc, append-nil, arith}
use Rattle.std.proofs.Math.Logic.{inl, inr, ⊎_elim}
use Rattle.std.proofs.Math.ListN.{get_or-append}
use Rattle.std.proofs.lemmas.Bool.{cases_lt, cond_below, cond_above, eqb-true}
use Rattle.std.proofs.lemmas.Fmt.{decimal_is_IsNumeral, length-decimal-le}
use Rattle.std.proofs.lemmas.List.{get_or-take, get_or-append-add, get_or_past, length-take}
use Rattle.std.proofs.lemmas.Str.Parse.{digit_at}
use Rattle.std.specs.Char.{digit_value}
use Rattle.std.specs.Str.Parse.{IsNumeral}
use Rattle.std.specs.Net.Addr.{ipv4_octets, ipv6_segments}
use Rattle.std.specs.Net.Grammar.{IsDotted, IsElided, IsGroups, IsGroupsAfter, IsColonHex, IsIpText}
use Rattle.std.specs.declared.net.ip_addr.IpAddr.{IpAddr}
use Rattle.std.specs.declared.net.ip_addr.IpAddr.TheVariants.{V4, V6}
use Rattle.std.specs.List.{prefix_len}
use Rattle.mmdb_addresses.specs.Bytes.{is_blank, ends_word}
use Rattle.mmdb_addresses.specs.Cells.{first_word, unquoted, without_opening, without_closing}
use Rattle.mmdb_addresses.specs.Openings.{IsHexLetter, HasEarly, Begins, MayBegin}
use Rattle.mmdb_addresses.specs.Words.{HasPort, HasZone, HasBrackets, IsWord, before}
use Rattle.mmdb_addresses.proofs.DottedLaws.{regrouped}

-- ---- hex digits

abbrev pub IsHexStart : ℕ → Type 0
IsHexStart x = ((48 ≤ x) × (x ≤ 57)) ⊎ IsHexLetter x

pub hex_start : (x : ℕ) → digit_value x < 16 → IsHexStart x
hex_start x l = by (cases_lt x 48) (cases_lt x 58) (cases_lt x 65) (cases_lt x 91) (cases_lt x 97) (cases_lt x 123)
  where
    by : (x < 48) ⊎ (48 ≤ x) → (x < 58) ⊎ (58 ≤ x) → (x < 65) ⊎ (65 ≤ x) → (x < 91) ⊎ (91 ≤ x) → (x < 97) ⊎ (97 ≤ x) → (x < 123) ⊎ (123 ≤ x) → IsHexStart x
    by (inl h) _ _ _ _ _ = let e : 36 ≡ digit_value x = cond_below x 48 _ _ h in absurd (omega arith)
    by (inr a) (inl h) _ _ _ _ = inl (a, omega arith)
    by (inr a) (inr b) (inl h) _ _ _ = let e : 36 ≡ digit_value x = cond_above x 48 _ _ _ a (cond_above x 58 _ _ _ b (cond_below x 65 _ _ h)) in absurd (omega arith)
    by (inr a) (inr b) (inr c) (inl h) _ _ = let e : x - 55 ≡ digit_value x = cond_above x 48 _ _ _ a (cond_above x 58 _ _ _ b (cond_above x 65 _ _ _ c (cond_below x 91 _ _ h))) in inr (inl (c, omega arith))
    by (inr a) (inr b) (inr c) (inr d) (inl h) _ = let e : 36 ≡ digit_value x = cond_above x 48 _ _ _ a (cond_above x 58 _ _ _ b (cond_above x 65 _ _ _ c (cond_above x 91 _ _ _ d (cond_below x 97 _ _ h)))) in absurd (omega arith)
    by (inr a) (inr b) (inr c) (inr d) (inr f) (inl h) = let e : x - 87 ≡ digit_value x = cond_above x 48 _ _ _ a (cond_above x 58 _ _ _ b (cond_above x 65 _ _ _ c (cond_above x 91 _ _ _ d (cond_above x 97 _ _ _ f (cond_below x 123 _ _ h))))) in inr (inr (f, omega arith))
    by (inr a) (inr b) (inr c) (inr d) (inr f) (inr g) = let e : 36 ≡ digit_value x = cond_above x 48 _ _ _ a (cond_above x 58 _ _ _ b (cond_above x 65 _ _ _ c (cond_above x 91 _ _ _ d (cond_above x 97 _ _ _ f (cond_above x 123 _ _ _ g refl))))) in absurd (omega arith)

numeral_starts : (group : List ℕ) → IsNumeral 16 group → IsHexStart (get_or group 0 0)
numeral_starts [] numeral = absurd (omega (arith, numeral.0))
numeral_starts (c ∷ cs) numeral = hex_start c numeral.1.0

-- ---- addresses of IPv4

pub dotted_begins : (text octets : List ℕ) → IsDotted text octets → Begins text
dotted_begins text octets dotted =
    let digits = (decimal_is_IsNumeral dotted.a (omega (arith, dotted.fit.0))).0 in
    let digit = digit_at (decimal dotted.a) 0 digits.1 digits.0 in
    let same : get_or text 0 0 ≡ get_or (decimal dotted.a) 0 0 = ap (λ t. get_or t 0 0) (dotted.spelled ∙ regrouped dotted.a dotted.b dotted.c dotted.d) ∙ get_or-append (decimal dotted.a) _ 0 0 digits.0 in
    let short : length (decimal dotted.a) ≤ 3 = length-decimal-le 3 dotted.a (omega arith) (omega (arith, dotted.fit.0)) (omega (arith, dotted.fit.0)) in
    let dot : get_or text (length (decimal dotted.a) + 0) 0 ≡ 46 = ap (λ t. get_or t (length (decimal dotted.a) + 0) 0) (dotted.spelled ∙ regrouped dotted.a dotted.b dotted.c dotted.d) ∙ get_or-append-add (decimal dotted.a) _ 0 0 in
    inr (inr ((omega (arith, same, digit), omega (arith, same, digit)), (length (decimal dotted.a) + 0, omega (arith, short), dot)))

-- ---- addresses of IPv6

group_begins : (text group rest : List ℕ) → text ≡ group ++ rest → IsNumeral 16 group → length group ≤ 4 → get_or rest 0 0 ≡ 58 → Begins text
group_begins text group rest is numeral short colon =
    let same : get_or text 0 0 ≡ get_or group 0 0 = ap (λ t. get_or t 0 0) is ∙ get_or-append group rest 0 0 numeral.0 in
    let here : get_or text (length group + 0) 0 ≡ 58 = ap (λ t. get_or t (length group + 0) 0) is ∙ get_or-append-add group rest 0 0 ∙ colon in
    ⊎_elim
    (λ (digit : (48 ≤ get_or text 0 0) × (get_or text 0 0 ≤ 57)). inr (inl (inl (digit.0, omega (arith, digit.1)), (length group + 0, omega (arith, short), here))))
    (λ (letter : IsHexLetter (get_or text 0 0)). inr (inl (inr letter, (length group + 0, omega (arith, short), here))))
    (subst IsHexStart (sym same) (numeral_starts group numeral))

colon_before : (ipv4 : Bool) (rest : List ℕ) (s : ℕ) (segments : List ℕ) → IsGroupsAfter ipv4 (codes ":") rest (s ∷ segments) → (more : List ℕ) → get_or (rest ++ more) 0 0 ≡ 58
colon_before ipv4 rest s segments (inl groups) more = ap (λ t. get_or (t ++ more) 0 0) groups.2
colon_before ipv4 rest s segments (inr dotted) more = ap (λ t. get_or (t ++ more) 0 0) dotted.3

full_begins : (text segments : List ℕ) → IsGroups true text segments → length segments ≡ 8 → Begins text
full_begins text [] groups eight = absurd (omega arith)
full_begins text (s ∷ []) groups eight = absurd (omega arith)
full_begins text (s ∷ t ∷ more) (inl groups) eight =
    group_begins text groups.0 groups.1 groups.2 groups.3.0.0 groups.3.1 (ap (λ r. get_or r 0 0) (sym (append-nil groups.1)) ∙ colon_before true groups.1 t more groups.4 [])
full_begins text (s ∷ t ∷ more) (inr dotted) eight = subst Begins (sym dotted.3) (dotted_begins dotted.0 dotted.1 dotted.4)

elided_begins : (text segments : List ℕ) → IsElided text segments → Begins text
elided_begins text segments elided = by elided.head_text elided.head elided.head_groups elided.spelled
  where
    by : (front head : List ℕ) → IsGroups false front head → text ≡ front ++ codes "::" ++ elided.tail_text → Begins text
    by front [] none is =
        let colon : get_or text 0 0 ≡ 58 = ap (λ t. get_or t 0 0) (is ∙ ap (λ f. f ++ codes "::" ++ elided.tail_text) none) in
        inr (inl (inl (omega (arith, colon), omega (arith, colon)), (0, omega arith, colon)))
    by front (s ∷ []) (inl groups) is =
        let more : List ℕ = codes "::" ++ elided.tail_text in
        let whole : text ≡ groups.0 ++ (groups.1 ++ more) = is ∙ ap (λ f. f ++ codes "::" ++ elided.tail_text) groups.2 ∙ simp append_assoc in
        group_begins text groups.0 (groups.1 ++ more) whole groups.3.0.0 groups.3.1 (ap (λ r. get_or (r ++ more) 0 0) groups.4)
    by front (s ∷ t ∷ segs) (inl groups) is =
        let more : List ℕ = codes "::" ++ elided.tail_text in
        let whole : text ≡ groups.0 ++ (groups.1 ++ more) = is ∙ ap (λ f. f ++ codes "::" ++ elided.tail_text) groups.2 ∙ simp append_assoc in
        group_begins text groups.0 (groups.1 ++ more) whole groups.3.0.0 groups.3.1 (colon_before false groups.1 t segs groups.4 more)
    by front (s ∷ segs) (inr dotted) is = let never : false ≡ true = dotted.2 in cc

pub ipv6_begins : (text segments : List ℕ) → IsColonHex text segments → Begins text
ipv6_begins text segments is = ⊎_elim (λ full. full_begins text segments full.0 full.1) (elided_begins text segments) is

ip_begins : (text : List ℕ) (address : IpAddr) → IsIpText text address → Begins text
ip_begins text (V4 a) is = dotted_begins text (ipv4_octets a) is
ip_begins text (V6 a) is = ipv6_begins text (ipv6_segments a) is

-- ---- words

-- what a text's first bytes are is what a text that has them in front has too
kept : (n : ℕ) (text : List ℕ) (k x : ℕ) → 0 < x → get_or (take n text) k 0 ≡ x → get_or text k 0 ≡ x
kept n text k x some is =
    ⊎_elim (λ (l : k < n). sym (get_or-take n text k 0 l) ∙ is)
    (λ (over : n ≤ k). absurd (omega (arith, is, get_or_past (take n text) k 0 (omega (arith, length-take n text)))))
    (cases_lt k n)

early_kept : (n : ℕ) (text : List ℕ) (byte : ℕ) → 0 < byte → HasEarly byte (take n text) → HasEarly byte text
early_kept n text byte some early = (early.0, early.1, kept n text early.0 byte some early.2)

begins_kept : (n : ℕ) (text : List ℕ) → Begins (take n text) → Begins text
begins_kept n text = by (get_or (take n text) 0 0) (λ some. kept n text 0 _ some refl)
  where
    by : (x : ℕ) → (0 < x → get_or text 0 0 ≡ x) → (x ≡ 91) ⊎ (((((48 ≤ x) × (x ≤ 58)) ⊎ IsHexLetter x) × HasEarly 58 (take n text)) ⊎ (((48 ≤ x) × (x ≤ 57)) × HasEarly 46 (take n text))) → Begins text
    by x same (inl bracket) = inl (same (omega arith) ∙ bracket)
    by x same (inr (inl (inl digit, colon))) = let e = same (omega arith) in inr (inl (inl (omega (arith, e), omega (arith, e)), early_kept n text 58 (omega arith) colon))
    by x same (inr (inl (inr (inl upper), colon))) = let e = same (omega arith) in inr (inl (inr (inl (omega (arith, e), omega (arith, e))), early_kept n text 58 (omega arith) colon))
    by x same (inr (inl (inr (inr lower), colon))) = let e = same (omega arith) in inr (inl (inr (inr (omega (arith, e), omega (arith, e))), early_kept n text 58 (omega arith) colon))
    by x same (inr (inr (digit, dot))) = let e = same (omega arith) in inr (inr ((omega (arith, e), omega (arith, e)), early_kept n text 46 (omega arith) dot))

port_begins : (word : List ℕ) (address : IpAddr) → HasPort word address → Begins word
port_begins word (V4 a) port = begins_kept _ word (dotted_begins (before 58 word) (ipv4_octets a) port.0)
port_begins word (V6 a) port = absurd port

zone_begins : (word : List ℕ) (address : IpAddr) → HasZone word address → Begins word
zone_begins word (V4 a) zone = absurd zone
zone_begins word (V6 a) zone = begins_kept _ word (ipv6_begins (before 37 word) (ipv6_segments a) zone.0)

pub word_begins : (word : List ℕ) (address : IpAddr) → IsWord word address → Begins word
word_begins word address is =
    ⊎_elim
    (λ (plain : IsIpText word address ⊎ HasPort word address). ⊎_elim (ip_begins word address) (port_begins word address) plain)
    (λ (dressed : HasZone word address ⊎ HasBrackets word address). ⊎_elim (zone_begins word address) (λ (brackets : HasBrackets word address). inl brackets.opens) dressed)
    is

-- ---- cells

without_closing_begins : (word : List ℕ) → Begins (without_closing word) → Begins word
without_closing_begins word = by (get_or word (length word - 1) 0 == 34)
  where
    by : (closed : Bool) → Begins (if closed then take (length word - 1) word else word) → Begins word
    by true begins = begins_kept (length word - 1) word begins
    by false begins = begins

without_opening_begins : (word : List ℕ) → Begins (without_opening word) → MayBegin word
without_opening_begins word = by (get_or word 0 0 == 34) (eqb-true (get_or word 0 0) 34)
  where
    by : (opened : Bool) → (opened ≡ true → get_or word 0 0 ≡ 34) → Begins (if opened then drop 1 word else word) → MayBegin word
    by true quote begins = inl (quote refl)
    by false quote begins = inr begins

may_begin_kept : (n : ℕ) (text : List ℕ) → MayBegin (take n text) → MayBegin text
may_begin_kept n text may = ⊎_elim (λ (quote : get_or (take n text) 0 0 ≡ 34). inl (kept n text 0 34 (omega arith) quote)) (λ (begins : Begins (take n text)). inr (begins_kept n text begins)) may

pub first_begins : (cell : List ℕ) (from : ℕ) → from ≡ 0 + prefix_len is_blank (drop 0 cell) → (MayBegin (drop from cell) → ⊥) → (address : IpAddr) → IsWord (unquoted (first_word cell)) address → ⊥
first_begins cell from is never address found =
    let same : prefix_len is_blank cell ≡ from = omega (arith, is) in
    let may = without_opening_begins (first_word cell) (without_closing_begins (without_opening (first_word cell)) (word_begins (unquoted (first_word cell)) address found)) in
    never (subst (λ n. MayBegin (drop n cell)) same (may_begin_kept (prefix_len (λ x. not (ends_word x)) (drop (prefix_len is_blank cell) cell)) (drop (prefix_len is_blank cell) cell) may))
