-- Addresses as numbers.
use Rattle.std.proofs.Common.{◌≡◌, ℕ, ◌≤◌, ◌<◌, ◌^◌, ◌+◌, ◌-◌, ◌*◌, ◌/◌, ◌++◌, inl, inr, List, Bool, true, false, take, nat_eq, refl, ap, sym, subst, ◌∙◌, arith}
use Rattle.std.specs.declared.net.ip_addr.IpAddr.{IpAddr}
use Rattle.std.specs.declared.net.ip_addr.IpAddr.TheVariants.{V4, V6}
use Rattle.std.specs.declared.net.ipv4_addr.Ipv4Addr.{Ipv4Addr}
use Rattle.std.specs.declared.net.ipv6_addr.Ipv6Addr.{Ipv6Addr}
use Rattle.std.specs.Net.Addr.{is_ipv4, ipv4_bits, ipv6_bits}
use Rattle.mmdb_reader.specs.declared.lookup_result.NumberedAddress.{NumberedAddress}
use Rattle.std.proofs.Math.Nat.{mul-div_cancel}
use Rattle.std.proofs.lemmas.Nat.{pow_pos}
use Rattle.std.proofs.lemmas.Bool.{cases_Bool, eqb-true}
use Rattle.mmdb_net.proofs.BitLaws.{take-bits_of}
use Rattle.mmdb_net.specs.Bits.{bits_of}
use Rattle.mmdb_net.specs.Address.{address_width, IsMaskedIp}
use Rattle.mmdb_net.specs.Network.{ip_of, prefix_of}
use Rattle.mmdb_net.specs.declared.network.IpNetwork.{IpNetwork}
use Rattle.mmdb_reader.specs.Lookup.{block_at}
use Rattle.mmdb_reader.specs.Shown.{IsShownBy}
use Rattle.mmdb_reader.proofs.NetworkLemmas.{IsShownBy-masked}
use Rattle.mmdb_reader.specs.File.{Database, before_ipv4}
use Rattle.mmdb_reader.specs.Numbered.{numbered_block}

-- the block of an IPv4 address that is this number
pub short_block : (db : Database) (width bits a prefix : ℕ) → width ≡ 32 → a ≡ bits → before_ipv4 db ++ take prefix (bits_of 32 a) ≡ numbered_block db width bits prefix
short_block db width bits a prefix w same = rw (w, same) refl

-- and of an IPv6 address
pub long_block : (db : Database) (width bits a prefix : ℕ) → nat_eq width 32 ≡ false → a ≡ bits → take prefix (bits_of 128 a) ≡ numbered_block db width bits prefix
long_block db width bits a prefix w same = rw (w, same) refl

-- the first bits of a number whose last ones were cleared
same-front : (prefix width shift n : ℕ) → width ≡ prefix + shift → take prefix (bits_of width (n / 2 ^ shift * 2 ^ shift)) ≡ take prefix (bits_of width n)
same-front prefix width shift n sum =
    let back : n / 2 ^ shift * 2 ^ shift / 2 ^ shift ≡ n / 2 ^ shift = mul-div_cancel (n / 2 ^ shift) (pow_pos shift) in
    take-bits_of prefix width shift (n / 2 ^ shift * 2 ^ shift) sum ∙ (ap (bits_of prefix) back ∙ sym (take-bits_of prefix width shift n sum))

-- the block stays where the bits after it are cleared
pub cleared_block : (db : Database) (width bits prefix : ℕ) → (nat_eq width 32 ≡ false → width ≡ 128) → prefix ≤ width
    → numbered_block db width (bits / 2 ^ (width - prefix) * 2 ^ (width - prefix)) prefix ≡ numbered_block db width bits prefix
cleared_block db width bits prefix long within = elim (cases_Bool (nat_eq width 32)) [
  | inl short ↦
      let w : width ≡ 32 = eqb-true width 32 short in
      rw w (ap (λ (front : List Bool). before_ipv4 db ++ front) (same-front prefix 32 (32 - prefix) bits (omega (arith, within, w))))
  | inr other ↦
      let w : width ≡ 128 = long other in
      rw w (same-front prefix 128 (128 - prefix) bits (omega (arith, within, w)))
]

-- the network of a masked address shows the block of the number
pub shown_numbered : (db : Database) (a b : IpAddr) (width bits prefix : ℕ) (network : IpNetwork) → address_width a ≡ width → is_ipv4 a ≡ nat_eq width 32 → block_at db a prefix ≡ numbered_block db width bits prefix → prefix ≤ width → IsMaskedIp a prefix b → ip_of network ≡ b → prefix_of network ≡ prefix → IsShownBy db (numbered_block db width bits prefix) (nat_eq width 32) network
shown_numbered db a b width bits prefix network wide kind block within m ip same =
    let h = IsShownBy-masked db a b prefix network (omega (arith, wide, within)) m ip same in
    record { kind = h.kind ∙ kind; block = h.block ∙ block; masked = h.masked }

-- ---- numbers made of addresses

module _ (address : NumberedAddress) (bits prefix : ℕ) (is : address ≡ record { bits = bits; width = 32 }) where
  pub short_width : nat_eq address.width 32 ≡ true
  short_width = ap (λ (n : NumberedAddress). nat_eq n.width 32) is

  -- what the fields of a leaf promise of an IPv4 address
  pub short_fields : bits < 2 ^ 32 → prefix ≤ 32 → (nat_eq address.width 32 ≡ false → address.width ≡ 128) × ((address.bits < 2 ^ address.width) × (prefix ≤ address.width))
  short_fields small few =
      let Q : NumberedAddress → Type 0 = λ n. (nat_eq n.width 32 ≡ false → n.width ≡ 128) × ((n.bits < 2 ^ n.width) × (prefix ≤ n.width)) in
      subst Q (sym is) ((λ other. absurd (cc)), (small, few))

  -- a fact of its block
  pub short_at : (db : Database) (P : List Bool → Type 0) (a : Ipv4Addr) → bits ≡ ipv4_bits a → P (block_at db (V4 a) prefix) → P (numbered_block db address.width address.bits prefix)
  short_at db P a same p =
      let Q : NumberedAddress → Type 0 = λ n. P (numbered_block db n.width n.bits prefix) in
      subst Q (sym is) (subst P (short_block db 32 bits (ipv4_bits a) prefix refl (sym same)) p)

module _ (address : NumberedAddress) (bits prefix : ℕ) (is : address ≡ record { bits = bits; width = 128 }) where
  pub long_width : nat_eq address.width 32 ≡ false
  long_width = ap (λ (n : NumberedAddress). nat_eq n.width 32) is

  -- and of an IPv6 address
  pub long_fields : bits < 2 ^ 128 → prefix ≤ 128 → (nat_eq address.width 32 ≡ false → address.width ≡ 128) × ((address.bits < 2 ^ address.width) × (prefix ≤ address.width))
  long_fields small few =
      let Q : NumberedAddress → Type 0 = λ n. (nat_eq n.width 32 ≡ false → n.width ≡ 128) × ((n.bits < 2 ^ n.width) × (prefix ≤ n.width)) in
      subst Q (sym is) ((λ other. refl), (small, few))

  pub long_at : (db : Database) (P : List Bool → Type 0) (a : Ipv6Addr) → bits ≡ ipv6_bits a → P (block_at db (V6 a) prefix) → P (numbered_block db address.width address.bits prefix)
  long_at db P a same p =
      let Q : NumberedAddress → Type 0 = λ n. P (numbered_block db n.width n.bits prefix) in
      subst Q (sym is) (subst P (long_block db 128 bits (ipv6_bits a) prefix refl (sym same)) p)
