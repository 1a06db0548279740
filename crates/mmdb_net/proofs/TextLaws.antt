-- The texts of networks.
use Rattle.std.proofs.Common.{◌≡◌, ℕ, ◌+◌, ◌-◌, ◌*◌, ◌/◌, ◌%◌, ◌^◌, ◌<◌, ◌≤◌, false, List, [], ◌∷◌, ◌++◌, length, get_or, take, refl, ap, append_assoc, arith, sym, ◌∙◌}
use Rattle.std.specs.Prelude.{codes, decimal}
use Rattle.std.specs.Int.{w32, w128, to_be_bytes}
use Rattle.std.specs.Fmt.{digits, padded_integral, format_spec}
use Rattle.std.specs.Net.Addr.{ipv4_bits, ipv6_bits, ipv4_octets, ipv6_segments, IsIpv4OfBits, IsIpv6OfBits, segments_of}
use Rattle.std.specs.Net.Text.{ipv4_text}
use Rattle.std.specs.declared.net.ipv4_addr.Ipv4Addr.{Ipv4Addr}
use Rattle.std.specs.declared.net.ipv6_addr.Ipv6Addr.{Ipv6Addr}
use Rattle.std.proofs.lemmas.Fmt.{hex_byte, decimal_digit, decimal_step}
use Rattle.std.proofs.lemmas.List.{length-take-le}
use Rattle.std.proofs.Math.Nat.{mod-eq_of_lt}
use Rattle.std.specs.Prelude.{Option, None, Some, MatchOption, Result, Ok, Err, IfOk, MatchResult, IsErrAnd}
use Rattle.std.specs.declared.net.ip_addr.IpAddr.{IpAddr}
use Rattle.std.specs.Net.Grammar.{IsIpText, Parses}
use Rattle.std.proofs.Common.{Bor, inl, inr, subst}
use Rattle.mmdb_net.specs.declared.network.IpNetwork.{IpNetwork}
use Rattle.mmdb_net.specs.Address.{address_width}
use Rattle.std.specs.declared.net.ip_addr.IpAddr.TheVariants as Ip
use Rattle.mmdb_net.specs.declared.network.Ipv4Network.{Ipv4Network}
use Rattle.mmdb_net.specs.declared.network.Ipv6Network.{Ipv6Network}
use Rattle.mmdb_net.specs.Network.{ip_of, prefix_of, ipv4_ip_of, ipv4_prefix_of, ipv6_ip_of, ipv6_prefix_of}
use Rattle.mmdb_net.specs.NetworkText.{IsPrefixText, IsNetworkText, IsIpv4TextOf, IsIpv6TextOf}
use Rattle.mmdb_net.specs.Bits.{bits_of, zero_bits, number_of}
use Rattle.mmdb_net.specs.FullText.{hex_group, groups_text, prefix_text, ipv4_full_text, ipv6_full_text}
use Rattle.mmdb_net.proofs.BitLaws.{length-bits_of, bits_of-masked, number_of-bits_of, number_of-filled}
use Rattle.mmdb_net.proofs.AddressLaws.{masked-le}

-- ---- hexadecimal digits

-- what `{:02x}{:02x}` writes of the two octets of a segment
pub hex_octets : (n high low : ℕ) → n < 2 ^ 16 → high ≡ n / 256 % 256 → low ≡ n % 256
    → padded_integral (format_spec 32 0 4 2 (2 ^ 64 - 1)) false [] (digits 16 false high) ++ padded_integral (format_spec 32 0 4 2 (2 ^ 64 - 1)) false [] (digits 16 false low) ≡ hex_group n
hex_octets n high low small high_is low_is =
    let first : high / 16 ≡ n / 4096 = omega arith in
    let second : high % 16 ≡ n / 256 % 16 = omega arith in
    let third : low / 16 ≡ n / 16 % 16 = omega arith in
    let fourth : low % 16 ≡ n % 16 = omega arith in
    rw (hex_byte false high (omega arith), hex_byte false low (omega arith), first, second, third, fourth) refl

-- ---- decimal digits

pub decimal_one : (n : ℕ) → n < 10 → decimal n ≡ (48 + n % 10) ∷ []
decimal_one n small = let same : n % 10 ≡ n = omega arith in rw same (decimal_digit n small)

pub decimal_two : (n : ℕ) → 10 ≤ n → n < 100 → decimal n ≡ (48 + n / 10 % 10) ∷ (48 + n % 10) ∷ []
decimal_two n large small =
    let first : decimal (n / 10) ≡ (48 + n / 10 % 10) ∷ [] = decimal_one (n / 10) (omega arith) in
    decimal_step n large (omega arith) ∙ ap (λ (ds : List ℕ). ds ++ ((48 + n % 10) ∷ [])) first

pub decimal_three : (n : ℕ) → 100 ≤ n → n < 1000 → decimal n ≡ (48 + n / 100) ∷ (48 + n / 10 % 10) ∷ (48 + n % 10) ∷ []
decimal_three n large small =
    let hundreds : n / 10 / 10 % 10 ≡ n / 100 = omega arith in
    let first : decimal (n / 10) ≡ (48 + n / 10 / 10 % 10) ∷ (48 + n / 10 % 10) ∷ [] = decimal_two (n / 10) (omega arith) (omega arith) in
    decimal_step n (omega arith) (omega arith) ∙ ap (λ (ds : List ℕ). ds ++ ((48 + n % 10) ∷ [])) (first ∙ ap (λ (d : ℕ). (48 + d) ∷ (48 + n / 10 % 10) ∷ []) hundreds)

-- ---- the full text

-- the bits of a block spell the masked number
pub number_of-block : (prefix width n : ℕ) → prefix ≤ width → n < 2 ^ width → number_of width (take prefix (bits_of width n)) ≡ n / 2 ^ (width - prefix) * 2 ^ (width - prefix)
number_of-block prefix width n within fits =
    let masked : ℕ = n / 2 ^ (width - prefix) * 2 ^ (width - prefix) in
    let below : masked < 2 ^ width = omega (arith, fits, masked-le n (width - prefix)) in
    let spelled : take prefix (bits_of width n) ++ zero_bits (width - prefix) ≡ bits_of width masked = sym (bits_of-masked prefix (width - prefix) width n (omega arith)) in
    sym (number_of-filled width (width - prefix) (take prefix (bits_of width n))) ∙ ap (number_of width) spelled ∙ number_of-bits_of width masked ∙ mod-eq_of_lt below

pub ipv4_full_text-masked : (a masked : Ipv4Addr) (prefix : ℕ) → prefix ≤ 32 → ipv4_bits a < 2 ^ 32 → IsIpv4OfBits masked (ipv4_bits a / 2 ^ (32 - prefix) * 2 ^ (32 - prefix))
    → ipv4_full_text (take prefix (bits_of 32 (ipv4_bits a))) ≡ ipv4_text (ipv4_octets masked) ++ prefix_text prefix
unfolding ipv4_full_text IsIpv4OfBits
ipv4_full_text-masked a masked prefix within fits made =
    let long : length (take prefix (bits_of 32 (ipv4_bits a))) ≡ prefix = length-take-le prefix (bits_of 32 (ipv4_bits a)) (omega (arith, length-bits_of 32 (ipv4_bits a))) in
    let number = number_of-block prefix 32 (ipv4_bits a) within fits in
    ap (λ (m : ℕ). ipv4_text (to_be_bytes w32 m) ++ prefix_text (length (take prefix (bits_of 32 (ipv4_bits a))))) number
    ∙ ap (λ (k : ℕ). ipv4_text (to_be_bytes w32 (ipv4_bits a / 2 ^ (32 - prefix) * 2 ^ (32 - prefix))) ++ prefix_text k) long
    ∙ ap (λ (octets : List ℕ). ipv4_text octets ++ prefix_text prefix) (sym made)

pub ipv6_full_text-masked : (a masked : Ipv6Addr) (prefix : ℕ) → prefix ≤ 128 → ipv6_bits a < 2 ^ 128 → IsIpv6OfBits masked (ipv6_bits a / 2 ^ (128 - prefix) * 2 ^ (128 - prefix))
    → ipv6_full_text (take prefix (bits_of 128 (ipv6_bits a))) ≡ groups_text (ipv6_segments masked) ++ prefix_text prefix
unfolding ipv6_full_text IsIpv6OfBits
ipv6_full_text-masked a masked prefix within fits made =
    let long : length (take prefix (bits_of 128 (ipv6_bits a))) ≡ prefix = length-take-le prefix (bits_of 128 (ipv6_bits a)) (omega (arith, length-bits_of 128 (ipv6_bits a))) in
    let number = number_of-block prefix 128 (ipv6_bits a) within fits in
    ap (λ (m : ℕ). groups_text (segments_of (to_be_bytes w128 m)) ++ prefix_text (length (take prefix (bits_of 128 (ipv6_bits a))))) number
    ∙ ap (λ (k : ℕ). groups_text (segments_of (to_be_bytes w128 (ipv6_bits a / 2 ^ (128 - prefix) * 2 ^ (128 - prefix)))) ++ prefix_text k) long
    ∙ ap (λ (segments : List ℕ). groups_text segments ++ prefix_text prefix) (sym made)

-- eight groups, as a format writes them before a tail
pub eight_groups : (xs tail : List ℕ) → length xs ≡ 8 → hex_group (get_or xs 0 0) ++ (codes ":" ++ (hex_group (get_or xs 1 0) ++ (codes ":" ++ (hex_group (get_or xs 2 0) ++ (codes ":" ++ (hex_group (get_or xs 3 0) ++ (codes ":" ++ (hex_group (get_or xs 4 0) ++ (codes ":" ++ (hex_group (get_or xs 5 0) ++ (codes ":" ++ (hex_group (get_or xs 6 0) ++ (codes ":" ++ (hex_group (get_or xs 7 0) ++ tail)))))))))))))) ≡ groups_text xs ++ tail
unfolding groups_text
eight_groups [] tail eight = absurd (omega arith)
eight_groups (a ∷ []) tail eight = absurd (omega arith)
eight_groups (a ∷ b ∷ []) tail eight = absurd (omega arith)
eight_groups (a ∷ b ∷ c ∷ []) tail eight = absurd (omega arith)
eight_groups (a ∷ b ∷ c ∷ d ∷ []) tail eight = absurd (omega arith)
eight_groups (a ∷ b ∷ c ∷ d ∷ e ∷ []) tail eight = absurd (omega arith)
eight_groups (a ∷ b ∷ c ∷ d ∷ e ∷ f ∷ []) tail eight = absurd (omega arith)
eight_groups (a ∷ b ∷ c ∷ d ∷ e ∷ f ∷ g ∷ []) tail eight = absurd (omega arith)
eight_groups (a ∷ b ∷ c ∷ d ∷ e ∷ f ∷ g ∷ h ∷ []) tail eight = refl
eight_groups (a ∷ b ∷ c ∷ d ∷ e ∷ f ∷ g ∷ h ∷ i ∷ xs) tail eight = absurd (omega arith)

-- eight groups, appended one after another
pub eight_put : (old xs : List ℕ) → length xs ≡ 8 → (((((((old ++ hex_group (get_or xs 0 0)) ++ (codes ":" ++ hex_group (get_or xs 1 0))) ++ (codes ":" ++ hex_group (get_or xs 2 0))) ++ (codes ":" ++ hex_group (get_or xs 3 0))) ++ (codes ":" ++ hex_group (get_or xs 4 0))) ++ (codes ":" ++ hex_group (get_or xs 5 0))) ++ (codes ":" ++ hex_group (get_or xs 6 0))) ++ (codes ":" ++ hex_group (get_or xs 7 0)) ≡ old ++ groups_text xs
unfolding groups_text
eight_put old [] eight = absurd (omega arith)
eight_put old (a ∷ []) eight = absurd (omega arith)
eight_put old (a ∷ b ∷ []) eight = absurd (omega arith)
eight_put old (a ∷ b ∷ c ∷ []) eight = absurd (omega arith)
eight_put old (a ∷ b ∷ c ∷ d ∷ []) eight = absurd (omega arith)
eight_put old (a ∷ b ∷ c ∷ d ∷ e ∷ []) eight = absurd (omega arith)
eight_put old (a ∷ b ∷ c ∷ d ∷ e ∷ f ∷ []) eight = absurd (omega arith)
eight_put old (a ∷ b ∷ c ∷ d ∷ e ∷ f ∷ g ∷ []) eight = absurd (omega arith)
eight_put old (a ∷ b ∷ c ∷ d ∷ e ∷ f ∷ g ∷ h ∷ []) eight = simp append_assoc refl
eight_put old (a ∷ b ∷ c ∷ d ∷ e ∷ f ∷ g ∷ h ∷ i ∷ xs) eight = absurd (omega arith)

-- ---- reading

-- an address and a prefix that were read from the parts of a text are what the text spells
pub network_text-parts : (text address : List ℕ) (suffix : Option (Bor (List ℕ))) (ip : IpAddr) (prefix : ℕ) → MatchOption suffix (text ≡ address) (λ digits. text ≡ address ++ codes "/" ++ digits.now) → IsIpText address ip
    → MatchOption suffix (prefix ≡ address_width ip) (λ digits. IsPrefixText digits.now prefix) → IsNetworkText text ip prefix
network_text-parts text address None ip prefix parts spelled whole = (address, spelled, inl (parts, whole))
network_text-parts text address (Some digits) ip prefix parts spelled written = (address, spelled, inr (digits.now, parts, written))

-- and so is a network that was made of them
pub network_text-made : {E : Type 0} (made : Result IpNetwork E) (text : List ℕ) (ip : IpAddr) (prefix : ℕ) → IfOk made (λ n. ip_of n ≡ ip) → IfOk made (λ n. prefix_of n ≡ prefix) → IsNetworkText text ip prefix
    → IfOk made (λ n. IsNetworkText text (ip_of n) (prefix_of n))
network_text-made (Ok n) text ip prefix same_ip same_prefix spelled =
    let P : IpAddr → Type 0 = λ a. IsNetworkText text a (prefix_of n) in
    let Q : ℕ → Type 0 = λ k. IsNetworkText text ip k in
    subst P (sym same_ip) (subst Q (sym same_prefix) spelled)
network_text-made (Err e) text ip prefix same_ip same_prefix spelled = tt

pub ipv4_text-made : {E : Type 0} (made : Result Ipv4Network E) (text : List ℕ) (ip : Ipv4Addr) (prefix : ℕ) → IfOk made (λ n. ipv4_ip_of n ≡ ip) → IfOk made (λ n. ipv4_prefix_of n ≡ prefix) → IsNetworkText text (Ip.V4 ip) prefix
    → IfOk made (IsIpv4TextOf text)
ipv4_text-made (Ok n) text ip prefix same_ip same_prefix spelled =
    subst (λ a. IsNetworkText text (Ip.V4 a) (ipv4_prefix_of n)) (sym same_ip) (subst (λ k. IsNetworkText text (Ip.V4 ip) k) (sym same_prefix) spelled)
ipv4_text-made (Err e) text ip prefix same_ip same_prefix spelled = tt

pub ipv6_text-made : {E : Type 0} (made : Result Ipv6Network E) (text : List ℕ) (ip : Ipv6Addr) (prefix : ℕ) → IfOk made (λ n. ipv6_ip_of n ≡ ip) → IfOk made (λ n. ipv6_prefix_of n ≡ prefix) → IsNetworkText text (Ip.V6 ip) prefix
    → IfOk made (IsIpv6TextOf text)
ipv6_text-made (Ok n) text ip prefix same_ip same_prefix spelled =
    subst (λ a. IsNetworkText text (Ip.V6 a) (ipv6_prefix_of n)) (sym same_ip) (subst (λ k. IsNetworkText text (Ip.V6 ip) k) (sym same_prefix) spelled)
ipv6_text-made (Err e) text ip prefix same_ip same_prefix spelled = tt

-- what is read from a text, with its error turned into another, is what the text spells
pub parsed-mapped : {A E F : Type 0} (Spells : List ℕ → A → Type 0) (text : List ℕ) (read : Result A E) (mapped : Result A F) (x : A) (Q : E → F → Type 0) → Parses Spells text read → MatchResult read (λ y. mapped ≡ Ok y) (λ e. IsErrAnd mapped (Q e)) → mapped ≡ Ok x
    → Spells text x
parsed-mapped Spells text (Ok y) mapped x Q spelled same was = let e : y ≡ x = cc in subst (Spells text) e spelled
parsed-mapped {A = A} {F = F} Spells text (Err e) mapped x Q spelled same was = let P : Result A F → Type 0 = λ r. IsErrAnd r (Q e) in absurd (subst P was same)
