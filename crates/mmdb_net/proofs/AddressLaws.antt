-- Addresses as numbers and as bit strings.
use Rattle.std.proofs.Common.{◌≡◌, ℕ, ◌+◌, ◌-◌, ◌*◌, ◌/◌, ◌%◌, ◌^◌, ◌<◌, ◌≤◌, ◌↔◌, Bool, List, ◌++◌, length, take, nat_eq, IsTrue, eq-eqb, refl, ap, arith, sym, ◌∙◌}
use Rattle.std.specs.Int.{w32, w128, to_be_bytes, from_be_bytes}
use Rattle.std.proofs.lemmas.Nat.{from_be_bytes-to_be_bytes_4, div-mul-add, mod-mul-add, mod_below, div_below, pow-add, pow_pos, div-add-mod'}
use Rattle.std.proofs.lemmas.Bool.{eqb-true}
use Rattle.std.proofs.lemmas.List.{take_all, length-take-le}
use Rattle.std.proofs.Math.Nat.{div-div-eq-div-mul}
use Rattle.std.specs.declared.net.ip_addr.IpAddr.{IpAddr}
use Rattle.std.specs.declared.net.ip_addr.IpAddr.TheVariants.{V4, V6}
use Rattle.std.specs.declared.net.ipv4_addr.Ipv4Addr.{Ipv4Addr}
use Rattle.std.specs.declared.net.ipv6_addr.Ipv6Addr.{Ipv6Addr}
use Rattle.std.specs.Net.Addr.{ipv4_bits, ipv6_bits, IsIpv4OfBits, IsIpv6OfBits, octets_of, segments_of}
use Rattle.mmdb_net.specs.Bits.{bits_of, zero_bits, IsPrefix}
use Rattle.mmdb_net.specs.Address.{address_width, bits_of_address, IsMaskedIp}
use Rattle.mmdb_net.proofs.BitLaws.{length-bits_of, take-bits_of, bits_of-masked, same_from_bits_of, IsPrefix-take, take-IsPrefix, append-none}

-- an IPv4 address is the number that it was made of
pub ipv4_bits-of : (a : Ipv4Addr) (n : ℕ) → n < 2 ^ 32 → IsIpv4OfBits a n → ipv4_bits a ≡ n
unfolding ipv4_bits IsIpv4OfBits
ipv4_bits-of a n fits made = ap (from_be_bytes w32) made ∙ from_be_bytes-to_be_bytes_4 n fits

-- a segment gives its two octets back
pair_high : (a b : ℕ) → (a * 256 + b % 256) / 256 ≡ a
pair_high a b = div-mul-add a 256 (b % 256) (mod_below b 256 (omega arith))

pair_low : (a b : ℕ) → (a * 256 + b % 256) % 256 ≡ b % 256
pair_low a b = mod-mul-add a 256 (b % 256) (mod_below b 256 (omega arith))

octets_of-segments_of : (n : ℕ) → octets_of (segments_of (to_be_bytes w128 n)) ≡ to_be_bytes w128 n
octets_of-segments_of n = simp (pair_high, pair_low)

-- the bytes of a number from one on, with that one
high_step : (n p : ℕ) → n / (p * 256) * (p * 256) + n / p % 256 * p ≡ n / p * p
high_step n p =
    let parts : n / p ≡ n / p % 256 + n / (p * 256) * 256 = omega (arith, div-div-eq-div-mul n p 256) in
    let turned : n / (p * 256) * (p * 256) ≡ n / (p * 256) * 256 * p = grind arith in
    turned-sum n p (n / p) (n / p % 256) (n / (p * 256)) parts
  where
    turned-sum : (n p a b c : ℕ) → a ≡ b + c * 256 → c * (p * 256) + b * p ≡ a * p
    turned-sum n p a b c e = rw e (grind arith)

-- sixteen bytes of a number give it back
pub from_be_bytes-to_be_bytes_16 : (n : ℕ) → n < 2 ^ 128 → from_be_bytes w128 (to_be_bytes w128 n) ≡ n
from_be_bytes-to_be_bytes_16 n fits =
    let top : n / 1329227995784915872903807060280344576 % 256 ≡ n / 1329227995784915872903807060280344576 = omega arith in
    let last : n / 256 * 256 + n % 256 ≡ n = omega arith in
    rw (top, high_step n 5192296858534827628530496329220096, high_step n 20282409603651670423947251286016, high_step n 79228162514264337593543950336, high_step n 309485009821345068724781056, high_step n 1208925819614629174706176, high_step n 4722366482869645213696, high_step n 18446744073709551616, high_step n 72057594037927936, high_step n 281474976710656, high_step n 1099511627776, high_step n 4294967296, high_step n 16777216, high_step n 65536, high_step n 256, last) refl

-- an IPv6 address is the number that it was made of
pub ipv6_bits-of : (a : Ipv6Addr) (n : ℕ) → n < 2 ^ 128 → IsIpv6OfBits a n → ipv6_bits a ≡ n
unfolding ipv6_bits IsIpv6OfBits
ipv6_bits-of a n fits made =
    ap (λ (s : List ℕ). from_be_bytes w128 (octets_of s)) made ∙ ap (from_be_bytes w128) (octets_of-segments_of n) ∙ from_be_bytes-to_be_bytes_16 n fits

-- ---- masks

-- a number shifted right and left is no larger
pub masked-le : (n shift : ℕ) → n / 2 ^ shift * 2 ^ shift ≤ n
masked-le n shift = omega (arith, div-add-mod' n (2 ^ shift))

pub masked_ipv4 : (a masked : Ipv4Addr) (prefix : ℕ) → prefix ≤ 32 → ipv4_bits a < 2 ^ 32 → IsIpv4OfBits masked (ipv4_bits a / 2 ^ (32 - prefix) * 2 ^ (32 - prefix)) → IsMaskedIp (V4 a) prefix (V4 masked)
masked_ipv4 a masked prefix within fits made =
    let number = ipv4_bits-of masked _ (omega (arith, fits, masked-le (ipv4_bits a) (32 - prefix))) made in
    record { same_kind = refl; bits = ap (bits_of 32) number ∙ bits_of-masked prefix (32 - prefix) 32 (ipv4_bits a) (omega arith) }

pub masked_ipv6 : (a masked : Ipv6Addr) (prefix : ℕ) → prefix ≤ 128 → ipv6_bits a < 2 ^ 128 → IsIpv6OfBits masked (ipv6_bits a / 2 ^ (128 - prefix) * 2 ^ (128 - prefix)) → IsMaskedIp (V6 a) prefix (V6 masked)
masked_ipv6 a masked prefix within fits made =
    let number = ipv6_bits-of masked _ (omega (arith, fits, masked-le (ipv6_bits a) (128 - prefix))) made in
    record { same_kind = refl; bits = ap (bits_of 128) number ∙ bits_of-masked prefix (128 - prefix) 128 (ipv6_bits a) (omega arith) }

-- as many bits as its width says
pub length-bits_of_address : (a : IpAddr) → length (bits_of_address a) ≡ address_width a
length-bits_of_address (V4 a) = length-bits_of 32 (ipv4_bits a)
length-bits_of_address (V6 a) = length-bits_of 128 (ipv6_bits a)

-- a prefix of the whole address clears nothing
pub masked_whole : (a : IpAddr) (prefix : ℕ) → address_width a ≤ prefix → IsMaskedIp a prefix a
masked_whole a prefix long =
    let none : address_width a - prefix ≡ 0 = omega arith in
    let all : take prefix (bits_of_address a) ≡ bits_of_address a = take_all prefix (bits_of_address a) (omega (arith, length-bits_of_address a)) in
    record { same_kind = refl; bits = sym (ap (λ (xs : List Bool). xs ++ zero_bits (address_width a - prefix)) all ∙ ap (λ (k : ℕ). bits_of_address a ++ zero_bits k) none ∙ append-none (bits_of_address a)) }

-- ---- the first bits

pub first_bits-lt : (prefix shift width n : ℕ) → width ≡ prefix + shift → n < 2 ^ width → n / 2 ^ shift < 2 ^ prefix
first_bits-lt prefix shift width n sum fits =
    let whole : 2 ^ width ≡ 2 ^ prefix * 2 ^ shift = ap (λ (e : ℕ). 2 ^ e) sum ∙ pow-add 2 prefix shift in
    div_below n (2 ^ shift) (2 ^ prefix) (pow_pos shift) (omega (arith, whole, fits))

-- the first bits of two numbers are equal exactly where the one begins the other
pub same_first_bits : (prefix shift width a b : ℕ) → width ≡ prefix + shift → a < 2 ^ width → b < 2 ^ width → (a / 2 ^ shift ≡ b / 2 ^ shift) ↔ IsPrefix (take prefix (bits_of width a)) (bits_of width b)
same_first_bits prefix shift width a b sum a_fits b_fits =
    let a_first = take-bits_of prefix width shift a sum in
    let b_first = take-bits_of prefix width shift b sum in
    let long : length (take prefix (bits_of width a)) ≡ prefix = length-take-le prefix (bits_of width a) (omega (arith, length-bits_of width a)) in (
      λ same. rw (a_first ∙ ap (bits_of prefix) same ∙ sym b_first) (IsPrefix-take prefix (bits_of width b)),
      λ begins. same_from_bits_of prefix (a / 2 ^ shift) (b / 2 ^ shift) (first_bits-lt prefix shift width a sum a_fits) (first_bits-lt prefix shift width b sum b_fits)
          (sym a_first ∙ sym (take-IsPrefix (take prefix (bits_of width a)) (bits_of width b) begins) ∙ ap (λ (k : ℕ). take k (bits_of width b)) long ∙ b_first),
    )

-- so the test of their equality says whether the one begins the other
pub same_first_bits-test : (prefix shift width a b x y : ℕ) → width ≡ prefix + shift → a < 2 ^ width → b < 2 ^ width → x ≡ a / 2 ^ shift → y ≡ b / 2 ^ shift
    → IsTrue (nat_eq x y) ↔ IsPrefix (take prefix (bits_of width a)) (bits_of width b)
same_first_bits-test prefix shift width a b x y sum a_fits b_fits x_is y_is =
    let same = same_first_bits prefix shift width a b sum a_fits b_fits in (
      λ test. same.0 (sym x_is ∙ eqb-true x y test ∙ y_is),
      λ begins. eq-eqb x y (x_is ∙ same.1 begins ∙ sym y_is),
    )
