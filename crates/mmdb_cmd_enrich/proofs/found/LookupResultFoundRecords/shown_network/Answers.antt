use Rattle.std.proofs.Common.{rules, ◌≡◌, [], ◌∷◌, Some, Bool, true, false, ◌||◌, is_some, sym, ap}
use Rattle.mmdb_reader.specs.Found.{database_asked, leaf_of, offset_found, shown_as_ipv4}
use Rattle.mmdb_reader.specs.Shown.{IsShownBy}
use Rattle.mmdb_cmd_enrich.specs.Networks.{shown_of}
use Rattle.mmdb_cmd_enrich.proofs.found.LookupResultFoundRecords.shown_network.Goals as goal

pub returns-then-is_some : goal.returns-then-is_some
returns-then-is_some g c =
    let found = c.args.self.now in
    let network = c.unwrap-network.result in
    let is : IsShownBy (database_asked found) (leaf_of found) (shown_as_ipv4 found) network = search rules in
    let there : is_some (offset_found found) ≡ true = search rules in
    (Some network ∷ [], (is, tt), ap (λ (b : Bool). shown_of (b || false) (Some network ∷ [])) (sym there))

pub returns-else-is_some : goal.returns-else-is_some
returns-else-is_some g c =
    let found = c.args.self.now in
    let network = c.unwrap-network.result in
    let is : IsShownBy (database_asked found) (leaf_of found) (shown_as_ipv4 found) network = search rules in
    let none : is_some (offset_found found) ≡ false = search rules in
    (Some network ∷ [], (is, tt), ap (λ (b : Bool). shown_of (b || false) (Some network ∷ [])) (sym none))
