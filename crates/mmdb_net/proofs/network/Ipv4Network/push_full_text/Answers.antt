use Rattle.std.proofs.Common.{◌≡◌, ◌++◌, List, ℕ, OnOk, append_assoc, arith, subst, ap, sym, ◌∙◌}
use Rattle.std.specs.Net.Text.{ipv4_text}
use Rattle.mmdb_net.specs.FullText.{prefix_text}
use Rattle.mmdb_net.specs.Network.{ipv4_ip_of, ipv4_prefix_of}
use Rattle.mmdb_net.proofs.TextLaws.{ipv4_full_text-masked}
use Rattle.mmdb_net.proofs.network.Ipv4Network.push_full_text.Goals as goal

pub returns : goal.returns
returns c =
    let masked = c.mask_ipv4.ensures in
    let prefix = ipv4_prefix_of c.args.self.now in
    let written = ipv4_full_text-masked (ipv4_ip_of c.args.self.now) c.mask_ipv4.result prefix (omega arith) masked.fits masked.made in
    let old = c.args.out.now.items in
    let address = ap ipv4_text c.octets.ensures in
    let front = c.in_ok-put_octets.ensures ∙ ap (λ (text : List ℕ). old ++ text) address in
    let all = ap (λ (text : List ℕ). text ++ prefix_text prefix) front ∙ append_assoc old _ (prefix_text prefix) ∙ ap (λ (text : List ℕ). old ++ text) (sym written) in
    let P : List ℕ → Type 0 = λ bytes. OnOk c.put_prefix.result (c.put_prefix.new.out.items ≡ bytes) in
    subst P all c.put_prefix.ensures
