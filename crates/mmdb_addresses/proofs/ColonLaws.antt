-- An address of IPv6 that is a whole cell.
use Rattle.std.proofs.Common.{◌≡◌, ℕ, ◌<◌, Bool, true, false, List, [], ◌∷◌, ◌++◌, All, length, take, codes, sym, subst, ◌∙◌, arith}
use Rattle.std.proofs.Math.Logic.{inl, inr}
use Rattle.std.proofs.Math.Seq.{take-length}
use Rattle.std.proofs.lemmas.List.Elements.{All-append, All-cons, All-from_get_or}
use Rattle.std.specs.Net.Addr.{ipv6_segments}
use Rattle.std.specs.Net.Grammar.{IsElided, IsGroupsAfter, IsColonHex, IsIpv6Text}
use Rattle.std.specs.Str.Parse.{AllDigits}
use Rattle.std.specs.declared.net.ip_addr.IpAddr.TheVariants.{V6}
use Rattle.std.specs.declared.net.ipv6_addr.Ipv6Addr.{Ipv6Addr}
use Rattle.mmdb_addresses.specs.Addresses.{IsAddressIn}
use Rattle.mmdb_addresses.specs.Openings.{Begins}
use Rattle.mmdb_addresses.specs.declared.readings.Reading.TheVariants.{First}
use Rattle.mmdb_addresses.proofs.DottedLaws.{IsPlainByte, dotted_plain, word_of_front}
use Rattle.mmdb_addresses.proofs.OpeningLaws.{IsHexStart, hex_start, ipv6_begins}

-- ---- its bytes are plain

hex_plain : (x : ℕ) → IsHexStart x → IsPlainByte x
hex_plain x (inl digit) = (omega arith, omega arith)
hex_plain x (inr (inl upper)) = (omega arith, omega arith)
hex_plain x (inr (inr lower)) = (omega arith, omega arith)

nothing_plain : All IsPlainByte []
nothing_plain = All-from_get_or IsPlainByte [] 0 (λ k l. absurd (omega arith))

group_plain : (group : List ℕ) → AllDigits 16 group → All IsPlainByte group
group_plain [] digits = nothing_plain
group_plain (c ∷ cs) digits = All-cons IsPlainByte c cs (hex_plain c (hex_start c digits.0)) (group_plain cs digits.1)

colon_plain : All IsPlainByte (codes ":")
colon_plain = All-cons IsPlainByte 58 [] (omega arith, omega arith) nothing_plain

groups_plain : (ipv4 : Bool) (lead text segments : List ℕ) → All IsPlainByte lead → IsGroupsAfter ipv4 lead text segments → All IsPlainByte text
groups_plain ipv4 lead text [] before none = subst (All IsPlainByte) (sym none) nothing_plain
groups_plain ipv4 lead text (s ∷ segments) before (inl groups) =
    subst (All IsPlainByte) (sym groups.2)
    (All-append IsPlainByte (lead ++ groups.0) groups.1 (All-append IsPlainByte lead groups.0 before (group_plain groups.0 groups.3.0.0.1)) (groups_plain ipv4 (codes ":") groups.1 segments colon_plain groups.4))
groups_plain ipv4 lead text (s ∷ segments) before (inr dotted) =
    subst (All IsPlainByte) (sym dotted.3) (All-append IsPlainByte lead dotted.0 before (dotted_plain dotted.0 dotted.1 dotted.4))

elided_plain : (text segments : List ℕ) → IsElided text segments → All IsPlainByte text
elided_plain text segments elided =
    subst (All IsPlainByte) (sym elided.spelled)
    (All-append IsPlainByte (elided.head_text ++ codes "::") elided.tail_text
    (All-append IsPlainByte elided.head_text (codes "::") (groups_plain false [] elided.head_text elided.head nothing_plain elided.head_groups) (All-cons IsPlainByte 58 (codes ":") (omega arith, omega arith) colon_plain))
    (groups_plain true [] elided.tail_text elided.tail nothing_plain elided.tail_groups))

ipv6_plain : (text segments : List ℕ) → IsColonHex text segments → All IsPlainByte text
ipv6_plain text segments (inl full) = groups_plain true [] text segments nothing_plain full.0
ipv6_plain text segments (inr elided) = elided_plain text segments elided

-- ---- it is the first word

begins_some : (text : List ℕ) → Begins text → 0 < length text
begins_some [] (inl bracket) = absurd (omega (arith, bracket))
begins_some [] (inr (inl (inl digit, colon))) = absurd (omega (arith, digit.0))
begins_some [] (inr (inl (inr (inl upper), colon))) = absurd (omega (arith, upper.0))
begins_some [] (inr (inl (inr (inr lower), colon))) = absurd (omega (arith, lower.0))
begins_some [] (inr (inr (digit, dot))) = absurd (omega (arith, digit.0))
begins_some (c ∷ cs) begins = omega arith

pub whole_is : (text : List ℕ) (address : Ipv6Addr) → IsIpv6Text text address → IsAddressIn First text (V6 address)
whole_is text address is =
    let all : take (length text) text ≡ text = take-length text in
    let word = word_of_front text (length text) (omega arith) (begins_some text (ipv6_begins text (ipv6_segments address) is)) (subst (All IsPlainByte) (sym all) (ipv6_plain text (ipv6_segments address) is)) (λ l. absurd (omega arith)) in
    inl (inl (subst (λ w. IsIpv6Text w address) (sym (word ∙ all)) is))
