use Rattle.std.proofs.Common.{◌≡◌, Bool, List, ◌∙◌, ap, subst}
use Rattle.mmdb_net.specs.declared.network.IpNetwork.{IpNetwork}
use Rattle.mmdb_reader.specs.File.{Database}
use Rattle.mmdb_reader.specs.Found.{leaf_of, offset_found}
use Rattle.mmdb_reader.specs.Shown.{IsShownBy}
use Rattle.mmdb_tool.specs.Working.{network_line}
use Rattle.mmdb_tool.proofs.LineLemmas.{shown_line}
use Rattle.mmdb_tool.proofs.line.lookup_line.Goals as goal

shown_by : (asked db : Database) (leaf : List Bool) (as_ipv4 kind : Bool) (network : IpNetwork) → asked ≡ db → as_ipv4 ≡ kind → IsShownBy asked leaf as_ipv4 network → IsShownBy db leaf kind network
shown_by asked db leaf as_ipv4 kind network same same_kind shown =
    let P : Database → Type 0 = λ d. IsShownBy d leaf as_ipv4 network in
    let Q : Bool → Type 0 = λ k. IsShownBy db leaf k network in
    subst Q same_kind (subst P same shown)

pub returns-clause-line : goal.returns-clause-line
returns-clause-line g c =
    let shows = shown_by _ c.args.reader.now _ _ _ _ c.in_ok-found.ensures.database c.in_ok-found.ensures.shown c.in_ok-network.ensures in
    record {
      leaf = leaf_of c.in_ok-found.found;
      offset = offset_found c.in_ok-found.found;
      answers = c.in_ok-found.ensures.answered;
      text_is = c.in_ok-line.ensures ∙ ap (network_line c.in_ok-network.network) c.offset.ensures ∙ shown_line _ _ _ _ (offset_found c.in_ok-found.found) shows;
    }
