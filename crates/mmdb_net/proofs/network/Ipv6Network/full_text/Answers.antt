use Rattle.std.proofs.Common.{◌≡◌, List, ℕ, length, subst, sym, ◌∙◌, ap, arith, rules, IfOk}
use Rattle.std.specs.String.{string_bytes}
use Rattle.mmdb_net.specs.FullText.{groups_text, prefix_text}
use Rattle.std.specs.Prelude.{◌++◌}
use Rattle.mmdb_net.specs.Network.{ipv6_ip_of, ipv6_prefix_of}
use Rattle.mmdb_net.proofs.TextLaws.{ipv6_full_text-masked, eight_groups}
use Rattle.mmdb_net.proofs.network.Ipv6Network.full_text.Goals as goal

pub returns : goal.returns
returns c =
    let masked = c.mask_ipv6.ensures in
    let prefix = ipv6_prefix_of c.args.self.now in
    let written = ipv6_full_text-masked (ipv6_ip_of c.args.self.now) c.mask_ipv6.result prefix (omega arith) masked.fits masked.made in
    let eight : length c.segments.result ≡ 8 = search rules in
    let groups = eight_groups c.segments.result (prefix_text prefix) eight ∙ ap (λ (xs : List ℕ). groups_text xs ++ prefix_text prefix) c.segments.ensures in
    let P : List ℕ → Type 0 = λ bytes. IfOk c.format.result (λ text. string_bytes text ≡ bytes) in
    subst P (groups ∙ sym written) c.format.ensures.ok
