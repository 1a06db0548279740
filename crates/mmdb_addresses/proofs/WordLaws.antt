-- The address of a word.
use Rattle.std.proofs.Common.{◌≡◌, ℕ, ◌+◌, List, take, drop, ap, subst, arith}
use Rattle.std.specs.List.{prefix_len}
use Rattle.std.specs.Net.Grammar.{IsIpv4Text, IsIpv6Text}
use Rattle.std.specs.declared.net.ip_addr.IpAddr.{IpAddr}
use Rattle.std.specs.declared.net.ip_addr.IpAddr.TheVariants.{V4, V6}
use Rattle.std.specs.declared.net.ipv4_addr.Ipv4Addr.{Ipv4Addr}
use Rattle.std.specs.declared.net.ipv6_addr.Ipv6Addr.{Ipv6Addr}
use Rattle.mmdb_addresses.specs.Kinds.{has}
use Rattle.mmdb_addresses.specs.Words.{HasPort, HasZone, before}
use Rattle.mmdb_addresses.specs.declared.bytes.AddressKind.TheVariants.{Not}

pub front_at : (word : List ℕ) (byte end : ℕ) → end ≡ 0 + prefix_len (has (Not byte)) (drop 0 word) → before byte word ≡ take end word
front_at word byte end is =
    let same : prefix_len (has (Not byte)) word ≡ end = omega (arith, is) in ap (λ n. take n word) same

pub no_port : (word : List ℕ) (colon : ℕ) → colon ≡ 0 + prefix_len (has (Not 58)) (drop 0 word) → ((a : Ipv4Addr) → IsIpv4Text (take colon word) a → ⊥) → (address : IpAddr) → HasPort word address → ⊥
no_port word colon is none (V4 a) port = none a (subst (λ t. IsIpv4Text t a) (front_at word 58 colon is) port.0)
no_port word colon is none (V6 a) port = port

pub no_zone : (word : List ℕ) (percent : ℕ) → percent ≡ 0 + prefix_len (has (Not 37)) (drop 0 word) → ((a : Ipv6Addr) → IsIpv6Text (take percent word) a → ⊥) → (address : IpAddr) → HasZone word address → ⊥
no_zone word percent is none (V4 a) zone = zone
no_zone word percent is none (V6 a) zone = none a (subst (λ t. IsIpv6Text t a) (front_at word 37 percent is) zone.0)
