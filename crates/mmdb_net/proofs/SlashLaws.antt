-- Where a `/` may be: in no address and in no digits, so that a text of a network has at most one, and is divided there.
use Rattle.std.proofs.Common.{◌≡◌, ◌≢◌, ℕ, zero, suc, ◌<◌, ◌≤◌, Bool, true, false, List, [], ◌∷◌, ◌++◌, length, refl, sym, ap, ◌∙◌, subst, arith, inl, inr, append_assoc, Bor, true≢false}
use Rattle.std.specs.Prelude.{codes, decimal, Option, Some, None, MatchOption, Result, Ok, Err, IsOk, IfOk, MatchResult, IsErrAnd}
use Rattle.std.specs.List.{AllByRecursion}
use Rattle.std.specs.Char.{digit_value, is_ascii_digit}
use Rattle.std.specs.Int.{IsInRange}
use Rattle.std.specs.Str.Parse.{AllDigits}
use Rattle.std.specs.Net.Grammar.{IsDotted, IsGroupsAfter, IsColonHex, IsIpText, Parses}
use Rattle.std.specs.declared.net.ip_addr.IpAddr.{IpAddr}
use Rattle.std.specs.declared.net.ip_addr.IpAddr.TheVariants.{V4, V6}
use Rattle.std.proofs.lemmas.Fmt.{decimal_is_IsNumeral}
use Rattle.std.proofs.NetLemmas.Ipv6.{IsDotted-not_colon_hex}
use Rattle.mmdb_net.specs.Address.{address_width}
use Rattle.mmdb_net.specs.NetworkText.{IsPrefixText, IsNetworkText}
use Rattle.mmdb_net.specs.Working.{LacksSlash, HasSlashes, HasNoPrefix}

-- by cases on the text
abbrev pub NoSlash : List ℕ → Type 0
NoSlash = AllByRecursion (λ b. b ≢ 47)

lacks_slash : (text : List ℕ) → NoSlash text → LacksSlash text
lacks_slash [] h i within same = absurd (omega (arith, within))
lacks_slash (b ∷ text) h zero within same = h.0 same
lacks_slash (b ∷ text) h (suc i) within same = lacks_slash text h.1 i (omega (arith, within)) same

no_slash : (text : List ℕ) → LacksSlash text → NoSlash text
no_slash [] h = tt
no_slash (b ∷ text) h = (h 0 (omega arith), no_slash text (λ i within. h (suc i) (omega (arith, within))))

joined : (a b : List ℕ) → NoSlash a → NoSlash b → NoSlash (a ++ b)
joined [] b first second = second
joined (x ∷ a) b first second = (first.0, joined a b first.1 second)

digits_have_none : (radix : ℕ) (ds : List ℕ) → radix ≤ 36 → AllDigits radix ds → NoSlash ds
digits_have_none radix [] most digits = tt
digits_have_none radix (d ∷ ds) most digits =
    ((λ same. let value : digit_value d ≡ 36 = ap digit_value same in omega (arith, digits.0, value)), digits_have_none radix ds most digits.1)

decimal_has_none : (n : ℕ) → n < 256 → NoSlash (decimal n)
decimal_has_none n small = digits_have_none 10 (decimal n) (omega arith) (decimal_is_IsNumeral n (omega arith)).0.1

dot_has_none : NoSlash (codes ".")
dot_has_none = ((λ same. omega (arith, same)), tt)

colon_has_none : NoSlash (codes ":")
colon_has_none = ((λ same. omega (arith, same)), tt)

colons_have_none : NoSlash (codes "::")
colons_have_none = ((λ same. omega (arith, same)), ((λ same. omega (arith, same)), tt))

with_dot : (a b : List ℕ) → NoSlash a → NoSlash b → NoSlash (a ++ codes "." ++ b)
with_dot a b first second = joined (a ++ codes ".") b (joined a (codes ".") first dot_has_none) second

dotted_has_none : (text octets : List ℕ) → IsDotted text octets → NoSlash text
dotted_has_none text octets h =
    let (a, b, c, d) = h.fit in
    let two = with_dot (decimal h.a) (decimal h.b) (decimal_has_none h.a a) (decimal_has_none h.b b) in
    let three = with_dot (decimal h.a ++ codes "." ++ decimal h.b) (decimal h.c) two (decimal_has_none h.c c) in
    let four = with_dot (decimal h.a ++ codes "." ++ decimal h.b ++ codes "." ++ decimal h.c) (decimal h.d) three (decimal_has_none h.d d) in
    subst NoSlash (sym h.spelled) four

groups_have_none : (ipv4 : Bool) (lead text segments : List ℕ) → NoSlash lead → IsGroupsAfter ipv4 lead text segments → NoSlash text
groups_have_none ipv4 lead text [] first h = subst NoSlash (sym h) tt
groups_have_none ipv4 lead text (s ∷ segments) first (inl (group, rest, spelled, digits, more)) =
    subst NoSlash (sym spelled) (joined (lead ++ group) rest (joined lead group first (digits_have_none 16 group (omega arith) digits.0.0.1)) (groups_have_none ipv4 (codes ":") rest segments colon_has_none more))
groups_have_none ipv4 lead text (s ∷ segments) first (inr (last, octets, is, spelled, dotted, value)) =
    subst NoSlash (sym spelled) (joined lead last first (dotted_has_none last octets dotted))

colon_hex_has_none : (text segments : List ℕ) → IsColonHex text segments → NoSlash text
colon_hex_has_none text segments (inl groups) = groups_have_none true [] text segments tt groups.0
colon_hex_has_none text segments (inr e) =
    let head = groups_have_none false [] e.head_text e.head tt e.head_groups in
    let tail = groups_have_none true [] e.tail_text e.tail tt e.tail_groups in
    subst NoSlash (sym e.spelled) (joined (e.head_text ++ codes "::") e.tail_text (joined e.head_text (codes "::") head colons_have_none) tail)

address_has_none : (text : List ℕ) (ip : IpAddr) → IsIpText text ip → NoSlash text
address_has_none text (V4 a) h = dotted_has_none text _ h
address_has_none text (V6 a) h = colon_hex_has_none text _ h

-- the first `/` of a text divides it in one way
one_split : (a b x y : List ℕ) → NoSlash a → NoSlash x → a ++ 47 ∷ b ≡ x ++ 47 ∷ y → (a ≡ x) × (b ≡ y)
one_split [] b [] y first second same = let tails : b ≡ y = cc in (refl, tails)
one_split [] b (c ∷ x) y first second same = let head : c ≡ 47 = cc in absurd (second.0 head)
one_split (c ∷ a) b [] y first second same = let head : c ≡ 47 = cc in absurd (first.0 head)
one_split (c ∷ a) b (d ∷ x) y first second same =
    let heads : c ≡ d = cc in
    let tails : a ++ 47 ∷ b ≡ x ++ 47 ∷ y = cc in
    let rest = one_split a b x y first.1 second.1 tails in
    let (front, back) = rest in
    let whole : c ∷ a ≡ d ∷ x = cc in
    (whole, back)

-- a text without a `/` is not one with it
not_split : (a x y : List ℕ) → NoSlash a → a ≡ x ++ 47 ∷ y → ⊥
not_split [] [] y first same = omega (arith, ap length same)
not_split [] (d ∷ x) y first same = omega (arith, ap length same)
not_split (c ∷ a) [] y first same = let head : c ≡ 47 = cc in first.0 head
not_split (c ∷ a) (d ∷ x) y first same = let tails : a ≡ x ++ 47 ∷ y = cc in not_split a x y first.1 tails

divided : (text a b : List ℕ) → text ≡ a ++ codes "/" ++ b → text ≡ a ++ 47 ∷ b
divided text a b same = same ∙ append_assoc a (codes "/") b

-- a text with more than one `/` is one of no network
pub slashes_spell_none : (text : List ℕ) (ip : IpAddr) (prefix : ℕ) → HasSlashes text → IsNetworkText text ip prefix → ⊥
slashes_spell_none text ip prefix (front, back, spelled, lacks, has) (address, is_address, inl (same, whole)) =
    not_split address front back (address_has_none address ip is_address) (sym same ∙ divided text front back spelled)
slashes_spell_none text ip prefix (front, back, spelled, lacks, has) (address, is_address, inr (digits, other, written)) =
    let parts = one_split address digits front back (address_has_none address ip is_address) (no_slash front lacks) (sym (divided text address digits other) ∙ divided text front back spelled) in
    has (subst LacksSlash parts.1 (lacks_slash digits (digits_have_none 10 digits (omega arith) written.0.0.1)))

-- what a text of a network has before its first `/` and after it
pub parts_of : (text front : List ℕ) (back : Option (Bor (List ℕ))) (ip : IpAddr) (prefix : ℕ) → MatchOption back (text ≡ front) (λ digits. text ≡ front ++ codes "/" ++ digits.now) → LacksSlash front → IsNetworkText text ip prefix
    → IsIpText front ip × MatchOption back (prefix ≡ address_width ip) (λ digits. IsPrefixText digits.now prefix)
parts_of text front None ip prefix parts lacks (address, is_address, inl (same, whole)) = (subst (λ t. IsIpText t ip) (sym same ∙ parts) is_address, whole)
parts_of text front None ip prefix parts lacks (address, is_address, inr (digits, other, written)) =
    absurd (not_split front address digits (no_slash front lacks) (sym parts ∙ divided text address digits other))
parts_of text front (Some back) ip prefix parts lacks (address, is_address, inl (same, whole)) =
    absurd (not_split address front back.now (address_has_none address ip is_address) (sym same ∙ divided text front back.now parts))
parts_of text front (Some back) ip prefix parts lacks (address, is_address, inr (digits, other, written)) =
    let same = one_split address digits front back.now (address_has_none address ip is_address) (no_slash front lacks) (sym (divided text address digits other) ∙ divided text front back.now parts) in
    (subst (λ t. IsIpText t ip) same.0 is_address, subst (λ t. IsPrefixText t prefix) same.1 written)

-- a text of two addresses is of one width
pub same_width : (text : List ℕ) (a b : IpAddr) → IsIpText text a → IsIpText text b → address_width a ≡ address_width b
same_width text (V4 a) (V4 b) first second = refl
same_width text (V4 a) (V6 b) first second = absurd (IsDotted-not_colon_hex text _ _ first second)
same_width text (V6 a) (V4 b) first second = absurd (IsDotted-not_colon_hex text _ _ second first)
same_width text (V6 a) (V6 b) first second = refl

width_small : (ip : IpAddr) → address_width ip < 256
width_small (V4 a) = omega arith
width_small (V6 a) = omega arith

-- where the prefix can't be read, no network is spelled
pub no_prefix_spells_none : (text front : List ℕ) (back : Option (Bor (List ℕ))) (ip : IpAddr) (prefix : ℕ) → MatchOption back (text ≡ front) (λ digits. text ≡ front ++ codes "/" ++ digits.now) → LacksSlash front → HasNoPrefix back
    → prefix ≤ address_width ip → IsNetworkText text ip prefix → ⊥
no_prefix_spells_none text front None ip prefix parts lacks fails within spelled = fails
no_prefix_spells_none text front (Some back) ip prefix parts lacks fails within spelled =
    fails prefix (omega (arith, within, width_small ip)) (parts_of text front (Some back) ip prefix parts lacks spelled).1

-- the prefix that a text gives is one
one_prefix : (back : Option (Bor (List ℕ))) (whole a b : ℕ) → MatchOption back (a ≡ whole) (λ digits. IsPrefixText digits.now a) → MatchOption back (b ≡ whole) (λ digits. IsPrefixText digits.now b) → a ≡ b
one_prefix None whole a b first second = first ∙ sym second
one_prefix (Some back) whole a b first second = sym first.0.1 ∙ second.0.1

-- a prefix that was read is within the width of the address that was read, where the text is one of a network
pub read_within : (text front : List ℕ) (back : Option (Bor (List ℕ))) (ip read_ip : IpAddr) (prefix read : ℕ) → MatchOption back (text ≡ front) (λ digits. text ≡ front ++ codes "/" ++ digits.now) → LacksSlash front
    → IsIpText front read_ip → MatchOption back (read ≡ address_width read_ip) (λ digits. IsPrefixText digits.now read) → prefix ≤ address_width ip → IsNetworkText text ip prefix → read ≤ address_width read_ip
read_within text front back ip read_ip prefix read parts lacks is_read written within spelled =
    let (is_ip, own) = parts_of text front back ip prefix parts lacks spelled in
    let width = same_width front ip read_ip is_ip is_read in
    let same = one_prefix back (address_width read_ip) prefix read (subst (λ w. MatchOption back (prefix ≡ w) (λ digits. IsPrefixText digits.now prefix)) width own) written in
    omega (arith, within, width, same)

pub not_ok : {A E : Type 0} (r : Result A E) (e : E) → r ≡ Err e → IsOk r → ⊥
not_ok r e was ok = true≢false (sym (subst IsOk was ok))

-- what was read and turned into another error spells nothing
pub unparsed-mapped : {A E F : Type 0} (Spells : List ℕ → A → Type 0) (text : List ℕ) (read : Result A E) (mapped : Result A F) (f : F) (Q : E → F → Type 0) → Parses Spells text read → MatchResult read (λ y. mapped ≡ Ok y) (λ e. IsErrAnd mapped (Q e)) → mapped ≡ Err f
    → (a : A) → ¬ Spells text a
unparsed-mapped Spells text (Ok y) mapped f Q spelled same was = absurd (not_ok mapped f was (subst IsOk (sym same) refl))
unparsed-mapped Spells text (Err e) mapped f Q spelled same was = spelled

-- a text is read where it is one, and else fails
pub parses-from : {A E : Type 0} (Spells : List ℕ → A → Type 0) (text : List ℕ) (r : Result A E) → IfOk r (Spells text) → ((e : E) → r ≡ Err e → (a : A) → ¬ Spells text a) → Parses Spells text r
parses-from Spells text (Ok x) ok err = ok
parses-from Spells text (Err e) ok err = err e refl

pub digit_is_digit : (c : ℕ) → IsInRange 48 57 c → is_ascii_digit c ≡ true
digit_is_digit c within = search (arith, within)
