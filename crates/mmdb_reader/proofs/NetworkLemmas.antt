-- The networks that are shown for leaves.
use Rattle.std.proofs.Common.{◌≡◌, ℕ, ◌-◌, ◌≤◌, Bool, true, false, ltb, ◌&&◌, ◌||◌, not, List, [], ◌∷◌, ◌++◌, length, take, refl, ap, arith, sym, ◌∙◌, subst, inl, inr}
use Rattle.std.proofs.lemmas.Bool.{cases_lt, lt-ltb, both_ways}
use Rattle.std.proofs.lemmas.List.{length-take-le}
use Rattle.std.proofs.Math.Seq.{take-append_seam}
use Rattle.std.specs.declared.net.ip_addr.IpAddr.{IpAddr}
use Rattle.std.specs.declared.net.ip_addr.IpAddr.TheVariants.{V4, V6}
use Rattle.std.specs.declared.net.ipv6_addr.Ipv6Addr.{Ipv6Addr}
use Rattle.std.specs.Net.Addr.{is_ipv4, ipv6_bits}
use Rattle.mmdb_net.specs.Bits.{bits_of, zero_bits}
use Rattle.mmdb_net.specs.Address.{address_width, bits_of_address, IsMaskedIp}
use Rattle.mmdb_net.specs.Network.{ip_of, prefix_of}
use Rattle.mmdb_net.specs.declared.network.IpNetwork.{IpNetwork}
use Rattle.mmdb_net.specs.declared.network.IpNetwork.TheVariants as Net
use Rattle.mmdb_net.proofs.BitLaws.{length-bits_of, length-zero_bits, take-zero_bits, bits_of-zero}
use Rattle.mmdb_net.proofs.AddressLaws.{length-bits_of_address}
use Rattle.mmdb_reader.specs.File.{Database, has_ipv6, before_ipv4}
use Rattle.mmdb_reader.specs.Lookup.{address_bits, block_at}
use Rattle.mmdb_reader.specs.Shown.{ipv4_start, has_ipv4_subtree, block_in, IsShownBy}
use Rattle.mmdb_reader.specs.Laws.{Ipv4WithoutSubtree}
use Rattle.mmdb_reader.proofs.LeafLemmas.{IsLeafAt-none, depth-le, ipv6_bits-unspecified}
use Rattle.mmdb_reader.proofs.LawLemmas.{one_leaf}

same_width : (a b : IpAddr) → is_ipv4 b ≡ is_ipv4 a → address_width b ≡ address_width a
same_width (V4 a) (V4 b) e = refl
same_width (V6 a) (V6 b) e = refl
same_width (V4 a) (V6 b) e = cc
same_width (V6 a) (V4 b) e = cc

-- masking keeps the first bits
kept : (a b : IpAddr) (prefix : ℕ) → prefix ≤ address_width a → IsMaskedIp a prefix b → take prefix (bits_of_address b) ≡ take prefix (bits_of_address a)
kept a b prefix within m =
    let first : List Bool = take prefix (bits_of_address a) in
    let len : length first ≡ prefix = length-take-le prefix (bits_of_address a) (omega (arith, length-bits_of_address a)) in
    let seam : take (length first) (first ++ zero_bits (address_width a - prefix)) ≡ first = take-append_seam first (zero_bits (address_width a - prefix)) in
    ap (take prefix) m.bits ∙ ap (λ (n : ℕ). take n (first ++ zero_bits (address_width a - prefix))) (sym len) ∙ seam

-- and so the block of addresses
block-kept : (db : Database) (a b : IpAddr) (prefix : ℕ) → is_ipv4 b ≡ is_ipv4 a → take prefix (bits_of_address b) ≡ take prefix (bits_of_address a) → block_at db b prefix ≡ block_at db a prefix
block-kept db (V4 a) (V4 b) prefix e same = ap (λ (xs : List Bool). before_ipv4 db ++ xs) same
block-kept db (V6 a) (V6 b) prefix e same = same
block-kept db (V4 a) (V6 b) prefix e same = cc
block-kept db (V6 a) (V4 b) prefix e same = cc

-- a masked address is its own masked one
masked-again : (a b : IpAddr) (prefix : ℕ) → prefix ≤ address_width a → IsMaskedIp a prefix b → IsMaskedIp b prefix b
masked-again a b prefix within m = record {
  same_kind = refl;
  bits = m.bits ∙ ap (λ (xs : List Bool). xs ++ zero_bits (address_width a - prefix)) (sym (kept a b prefix within m)) ∙ ap (λ (n : ℕ). take prefix (bits_of_address b) ++ zero_bits (n - prefix)) (sym (same_width a b m.same_kind));
}

pub IsShownBy-masked : (db : Database) (a b : IpAddr) (prefix : ℕ) (network : IpNetwork) → prefix ≤ address_width a → IsMaskedIp a prefix b → ip_of network ≡ b → prefix_of network ≡ prefix → IsShownBy db (block_at db a prefix) (is_ipv4 a) network
IsShownBy-masked db a b prefix network within m ip same =
    let P : IpAddr → Type 0 = λ x. IsMaskedIp x (prefix_of network) x in
    let Q : ℕ → Type 0 = λ n. IsMaskedIp b n b in
    record {
      kind = ap is_ipv4 ip ∙ m.same_kind;
      block = ap (λ x. block_at db x (prefix_of network)) ip ∙ ap (block_at db b) same ∙ block-kept db a b prefix m.same_kind (kept a b prefix within m);
      masked = subst P (sym ip) (subst Q (sym same) (masked-again a b prefix within m));
    }

-- ---- without an IPv4 subtree

no_subtree : (db : Database) → has_ipv6 db ≡ true → has_ipv4_subtree db ≡ false → db.metadata.node_count ≤ ipv4_start db
no_subtree db six none = elim (cases_lt (ipv4_start db) db.metadata.node_count) [
  | inr out ↦ out
  | inl on ↦
      let test : ltb (ipv4_start db) db.metadata.node_count ≡ true = lt-ltb _ _ on in
      let both : has_ipv4_subtree db ≡ true = ap (λ b. b && ltb (ipv4_start db) db.metadata.node_count) six ∙ test in
      absurd (both_ways _ none both)
]

prefix-of_zeros : (db : Database) (network : IpNetwork) (depth : ℕ) → is_ipv4 (ip_of network) ≡ false → block_in db network ≡ zero_bits depth → prefix_of network ≡ depth
prefix-of_zeros db (Net.V4 n) depth other zeros = cc
prefix-of_zeros db (Net.V6 n) depth other zeros =
    let fits : n.prefix ≤ 128 = n.is_prefix in
    let len : length (take n.prefix (bits_of 128 (ipv6_bits n.address))) ≡ n.prefix = length-take-le n.prefix _ (omega (arith, length-bits_of 128 (ipv6_bits n.address))) in
    sym len ∙ ap length zeros ∙ length-zero_bits depth

unless : (x y : Bool) → x ≡ true → y ≡ false → (not x || y) ≡ false
unless true y p q = q
unless false y p q = sym p

pub ipv4_without_subtree : Ipv4WithoutSubtree
ipv4_without_subtree db a leaf outcome network depth six none d answer shown =
    let off = no_subtree db six none in
    let zero_address : Ipv6Addr = record { segments = 0 ∷ 0 ∷ 0 ∷ 0 ∷ 0 ∷ 0 ∷ 0 ∷ 0 ∷ [] } in
    let at = IsLeafAt-none db (ipv4_start db) depth d a zero_address off ipv6_bits-unspecified in
    let same = one_leaf db (address_bits db (V4 a)) leaf _ answer.is_leaf at.is_leaf answer.on_address at.on_address in
    let few = depth-le db (ipv4_start db) depth d in
    let block : block_at db (V6 zero_address) depth ≡ zero_bits depth = ap (λ (n : ℕ). take depth (bits_of 128 n)) ipv6_bits-unspecified ∙ ap (take depth) (bits_of-zero 128) ∙ take-zero_bits depth 128 (omega arith) in
    let zeros = shown.block ∙ same ∙ block in
    record { zeros = zeros; prefix_is = prefix-of_zeros db network depth (shown.kind ∙ unless (has_ipv6 db) (has_ipv4_subtree db) six none) zeros }
