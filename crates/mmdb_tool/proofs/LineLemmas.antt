-- The lines of networks and of leaves.
use Rattle.std.proofs.Common.{◌≡◌, ℕ, Bool, List, ◌++◌, length, drop, Option, codes, ap, sym, ◌∙◌, subst}
use Rattle.std.proofs.Math.Seq.{drop-append_seam}
use Rattle.mmdb_net.specs.declared.network.IpNetwork.{IpNetwork}
use Rattle.mmdb_net.specs.declared.network.IpNetwork.TheVariants.{V4, V6}
use Rattle.mmdb_net.specs.Network.{full_text_of, ipv4_block_of, ipv6_block_of}
use Rattle.mmdb_net.specs.FullText.{ipv4_full_text, ipv6_full_text}
use Rattle.mmdb_reader.specs.File.{Database, before_ipv4}
use Rattle.mmdb_reader.specs.Shown.{IsShownBy}
use Rattle.mmdb_reader.specs.Items.{Network}
use Rattle.mmdb_tool.specs.Lines.{leaf_text, leaf_line, offset_text, line_of}
use Rattle.mmdb_tool.specs.Working.{network_line}

drop-front : (xs ys : List Bool) → drop (length xs) (xs ++ ys) ≡ ys
drop-front xs ys = drop-append_seam xs ys

-- the full text of the network that shows a leaf is the leaf's
pub shown_text : (db : Database) (leaf : List Bool) (as_ipv4 : Bool) (network : IpNetwork) → IsShownBy db leaf as_ipv4 network → full_text_of network ≡ leaf_text db leaf as_ipv4
shown_text db leaf as_ipv4 (V4 n) h =
    let P : Bool → Type 0 = λ k. ipv4_full_text (ipv4_block_of n) ≡ leaf_text db leaf k in
    let block : ipv4_block_of n ≡ drop (length (before_ipv4 db)) leaf = sym (drop-front (before_ipv4 db) (ipv4_block_of n)) ∙ ap (drop (length (before_ipv4 db))) h.block in
    subst P h.kind (ap ipv4_full_text block)
shown_text db leaf as_ipv4 (V6 n) h =
    let P : Bool → Type 0 = λ k. ipv6_full_text (ipv6_block_of n) ≡ leaf_text db leaf k in
    subst P h.kind (ap ipv6_full_text h.block)

-- and so is its line
pub shown_line : (db : Database) (leaf : List Bool) (as_ipv4 : Bool) (network : IpNetwork) (offset : Option ℕ) → IsShownBy db leaf as_ipv4 network → network_line network offset ≡ leaf_line db leaf offset as_ipv4
shown_line db leaf as_ipv4 network offset h = ap (λ text. text ++ (codes " " ++ (offset_text offset ++ codes "\n"))) (shown_text db leaf as_ipv4 network h)

-- the line of an item that is a network
pub line_of_shown : (db asked : Database) (leaf : List Bool) (offset : Option ℕ) (as_ipv4 : Bool) (network : IpNetwork) (text : List ℕ)
    → asked ≡ db → IsShownBy asked leaf as_ipv4 network → text ≡ network_line network offset → text ≡ line_of db (Network leaf offset as_ipv4)
unfolding line_of
line_of_shown db asked leaf offset as_ipv4 network text same shown is =
    let P : Database → Type 0 = λ d. IsShownBy d leaf as_ipv4 network in
    is ∙ shown_line db leaf as_ipv4 network offset (subst P same shown)
