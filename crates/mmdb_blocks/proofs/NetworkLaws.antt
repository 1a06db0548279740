-- The first address of a network as the first of a block.
use Rattle.std.proofs.Common.{◌≡◌, ℕ, ◌+◌, ◌-◌, ◌/◌, ◌%◌, ◌^◌, ◌<◌, ◌≤◌, Bool, List, [], ◌++◌, length, take, drop, refl, ap, arith, sym, ◌∙◌}
use Rattle.std.proofs.lemmas.List.{length-take-le}
use Rattle.std.proofs.Math.Seq.{take-append_seam, take-append-add, drop-append_seam}
use Rattle.std.specs.declared.net.ip_addr.IpAddr.TheVariants.{V4, V6}
use Rattle.std.specs.declared.net.ipv4_addr.Ipv4Addr.{Ipv4Addr}
use Rattle.std.specs.declared.net.ipv6_addr.Ipv6Addr.{Ipv6Addr}
use Rattle.std.specs.Net.Addr.{ipv4_bits, ipv6_bits}
use Rattle.mmdb_net.specs.Bits.{bits_of, zero_bits, number_of}
use Rattle.mmdb_net.specs.Address.{IsMaskedIp}
use Rattle.mmdb_net.proofs.BitLaws.{length-bits_of, length-zero_bits, drop-bits_of, bits_of-split, bits_of-zero, number_of-bits_of, number_of-filled}
use Rattle.mmdb_blocks.specs.Blocks.{IsBlock}

-- zeros after the prefix are those of a multiple
pub low_zeros : (width prefix n : ℕ) (bits : List Bool) → prefix ≤ width → bits_of width n ≡ take prefix bits ++ zero_bits (width - prefix) → length bits ≡ width → n % 2 ^ (width - prefix) ≡ 0
low_zeros width prefix n bits within same long =
    let first : List Bool = take prefix bits in
    let len : length first ≡ prefix = length-take-le prefix bits (omega (arith, long)) in
    let zeros : drop (length first) (first ++ zero_bits (width - prefix)) ≡ zero_bits (width - prefix) = drop-append_seam first (zero_bits (width - prefix)) in
    let low : bits_of (width - prefix) n ≡ zero_bits (width - prefix) = sym (drop-bits_of width n prefix) ∙ ap (λ (k : ℕ). drop k (bits_of width n)) (sym len) ∙ ap (drop (length first)) same ∙ zeros in
    sym (number_of-bits_of (width - prefix) n) ∙ ap (number_of (width - prefix)) low ∙ number_of-filled (width - prefix) (width - prefix) []

-- the first bits are those that were kept
pub first_bits : (width prefix n : ℕ) (bits : List Bool) → prefix ≤ width → bits_of width n ≡ take prefix bits ++ zero_bits (width - prefix) → length bits ≡ width → take prefix (bits_of width n) ≡ take prefix bits
first_bits width prefix n bits within same long =
    let first : List Bool = take prefix bits in
    let len : length first ≡ prefix = length-take-le prefix bits (omega (arith, long)) in
    ap (take prefix) same ∙ ap (λ (k : ℕ). take k (first ++ zero_bits (width - prefix))) (sym len) ∙ take-append_seam first (zero_bits (width - prefix))

-- a number of 32 bits has 96 zeros before them
pub wide_bits : (n prefix : ℕ) → n < 2 ^ 32 → take (96 + prefix) (bits_of 128 n) ≡ zero_bits 96 ++ take prefix (bits_of 32 n)
wide_bits n prefix small =
    let none : n / 2 ^ 32 ≡ 0 = omega (arith, small) in
    let split : bits_of 128 n ≡ zero_bits 96 ++ bits_of 32 n = bits_of-split 96 32 128 n refl ∙ ap (λ (k : ℕ). bits_of 96 k ++ bits_of 32 n) none ∙ ap (λ (xs : List Bool). xs ++ bits_of 32 n) (bits_of-zero 96) in
    let count : 96 + prefix ≡ length (zero_bits 96) + prefix = omega (arith, length-zero_bits 96) in
    ap (λ (k : ℕ). take k (bits_of 128 n)) count ∙ ap (take (length (zero_bits 96) + prefix)) split ∙ take-append-add (zero_bits 96) (bits_of 32 n) prefix

-- so the masked address of an IPv6 network begins a block of its prefix, with its bits
pub ipv6_is_block : (first prefix : ℕ) (a masked : Ipv6Addr) → prefix ≤ 128 → first ≡ ipv6_bits masked → first < 2 ^ 128 → IsMaskedIp (V6 a) prefix (V6 masked) → IsBlock (record { first = first; prefix = prefix })
ipv6_is_block first prefix a masked within is fits m =
    let bits : bits_of 128 first ≡ take prefix (bits_of 128 (ipv6_bits a)) ++ zero_bits (128 - prefix) = ap (bits_of 128) is ∙ m.bits in
    record { prefix = within; first = fits; aligned = low_zeros 128 prefix first (bits_of 128 (ipv6_bits a)) within bits (length-bits_of 128 (ipv6_bits a)) }

pub ipv6_has_bits : (first prefix : ℕ) (a masked : Ipv6Addr) → prefix ≤ 128 → first ≡ ipv6_bits masked → IsMaskedIp (V6 a) prefix (V6 masked) → take prefix (bits_of 128 first) ≡ zero_bits (128 - 128) ++ take prefix (bits_of 128 (ipv6_bits a))
unfolding zero_bits
ipv6_has_bits first prefix a masked within is m =
    let bits : bits_of 128 first ≡ take prefix (bits_of 128 (ipv6_bits a)) ++ zero_bits (128 - prefix) = ap (bits_of 128) is ∙ m.bits in
    first_bits 128 prefix first (bits_of 128 (ipv6_bits a)) within bits (length-bits_of 128 (ipv6_bits a))

-- and that of an IPv4 network one after 96 zeros
pub ipv4_is_block : (first prefix : ℕ) (a masked : Ipv4Addr) → prefix ≤ 32 → first ≡ ipv4_bits masked → first < 2 ^ 32 → IsMaskedIp (V4 a) prefix (V4 masked) → IsBlock (record { first = first; prefix = 96 + prefix })
ipv4_is_block first prefix a masked within is fits m =
    let bits : bits_of 32 first ≡ take prefix (bits_of 32 (ipv4_bits a)) ++ zero_bits (32 - prefix) = ap (bits_of 32) is ∙ m.bits in
    let low : first % 2 ^ (32 - prefix) ≡ 0 = low_zeros 32 prefix first (bits_of 32 (ipv4_bits a)) within bits (length-bits_of 32 (ipv4_bits a)) in
    let after : 128 - (96 + prefix) ≡ 32 - prefix = omega arith in
    record { prefix = omega (arith, within); first = omega (arith, fits); aligned = ap (λ (k : ℕ). first % 2 ^ k) after ∙ low }

pub ipv4_has_bits : (first prefix : ℕ) (a masked : Ipv4Addr) → prefix ≤ 32 → first ≡ ipv4_bits masked → first < 2 ^ 32 → IsMaskedIp (V4 a) prefix (V4 masked) → take (96 + prefix) (bits_of 128 first) ≡ zero_bits 96 ++ take prefix (bits_of 32 (ipv4_bits a))
ipv4_has_bits first prefix a masked within is fits m =
    let bits : bits_of 32 first ≡ take prefix (bits_of 32 (ipv4_bits a)) ++ zero_bits (32 - prefix) = ap (bits_of 32) is ∙ m.bits in
    wide_bits first prefix fits ∙ ap (λ (xs : List Bool). zero_bits 96 ++ xs) (first_bits 32 prefix first (bits_of 32 (ipv4_bits a)) within bits (length-bits_of 32 (ipv4_bits a)))
