use Rattle.std.proofs.Common.{◌≡◌, List, ℕ, subst, sym, arith, rules, IfOk}
use Rattle.std.specs.String.{string_bytes}
use Rattle.mmdb_net.specs.Network.{ipv4_ip_of, ipv4_prefix_of}
use Rattle.mmdb_net.proofs.TextLaws.{ipv4_full_text-masked}
use Rattle.mmdb_net.proofs.network.Ipv4Network.full_text.Goals as goal

pub returns : goal.returns
returns c =
    let masked = c.mask_ipv4-address.ensures in
    let written = ipv4_full_text-masked (ipv4_ip_of c.args.self.now) c.mask_ipv4-address.result (ipv4_prefix_of c.args.self.now) (omega arith) masked.fits masked.made in
    let P : List ℕ → Type 0 = λ bytes. IfOk c.format.result (λ text. string_bytes text ≡ bytes) in
    subst P (sym written) (search rules)
