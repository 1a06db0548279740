use Rattle.std.proofs.Common.{◌≡◌, ℕ, ◌+◌, ◌-◌, ◌≤◌, ◌++◌, ap, sym, ◌∙◌, arith, take, subst}
use Rattle.std.specs.declared.net.ip_addr.IpAddr.{IpAddr}
use Rattle.std.specs.declared.net.ip_addr.IpAddr.TheVariants.{V4}
use Rattle.std.specs.Net.Addr.{ipv4_bits}
use Rattle.mmdb_net.specs.Address.{address_width}
use Rattle.mmdb_net.specs.Bits.{bits_of}
use Rattle.mmdb_net.specs.Network.{ip_of, prefix_of}
use Rattle.mmdb_reader.specs.File.{width, before_ipv4}
use Rattle.mmdb_reader.specs.Lookup.{block_at, CanAsk}
use Rattle.mmdb_reader.proofs.ShownLemmas.{take-ipv4, width-ge}
use Rattle.mmdb_reader.proofs.reader.Reader.range_of.Goals as goal

pub returns-in-V4 : goal.returns-in-V4
returns-in-V4 g c =
    let db = c.args.self.now in
    let ip : ip_of c.args.network ≡ V4 c.in-V4.address = sym c.ip.ensures ∙ c.in-V4.is in
    let prefix : c.prefix-prefix.result ≡ prefix_of c.args.network = c.prefix-prefix.ensures.value in
    let w : c.width.result ≡ width db = c.width.ensures.value in
    let number : c.from.result ≡ ipv4_bits c.in-V4.address = c.from.ensures ∙ c.to_bits.ensures in
    let small : c.from.result ≤ 4294967295 = omega (arith, c.from.ensures, c.to_bits.type_inv) in
    let kind : address_width (ip_of c.args.network) ≡ 32 = ap address_width ip in
    let within : c.prefix-prefix.result ≤ address_width (ip_of c.args.network) = c.prefix-prefix.ensures.within in
    let least = width-ge db in
    let bits = take-ipv4 db c.from.result c.prefix-prefix.result (omega (arith, small)) in
    let block : before_ipv4 db ++ take c.prefix-prefix.result (bits_of 32 c.from.result) ≡ block_at db (ip_of c.args.network) (prefix_of c.args.network) =
    ap (λ (n : ℕ). before_ipv4 db ++ take c.prefix-prefix.result (bits_of 32 n)) number ∙ ap (λ (n : ℕ). before_ipv4 db ++ take n (bits_of 32 (ipv4_bits c.in-V4.address))) prefix ∙ ap (λ (a : IpAddr). block_at db a (prefix_of c.args.network)) (sym ip)
    in
    record {
      can_ask = let P : IpAddr → Type 0 = λ a. CanAsk db a in subst P (sym ip) tt;
      block = ap (λ (n : ℕ). take (n - 32 + c.prefix-prefix.result) (bits_of (width db) c.from.result)) w ∙ bits ∙ block;
      within = omega (arith, w, kind, within, least);
      positions = omega (arith, w, kind, within, least, prefix);
    }
