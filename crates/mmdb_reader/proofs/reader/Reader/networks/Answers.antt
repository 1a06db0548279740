use Rattle.std.proofs.Common.{◌≡◌, List, Bool, [], IfOk, sym, ◌∙◌, subst}
use Rattle.mmdb_reader.specs.Items.{items_of}
use Rattle.mmdb_reader.specs.Listing.{listed}
use Rattle.mmdb_reader.specs.Shown.{block_in}
use Rattle.mmdb_reader.specs.Enumeration.{items_to_come, ListsRange}
use Rattle.mmdb_reader.proofs.ShownLemmas.{whole-ipv4, whole-ipv6}
use Rattle.mmdb_reader.proofs.reader.Reader.networks.Goals as goal
use Rattle.mmdb_reader.proofs.reader.Reader.networks.Goals.{then-width-eq32, else-width-eq32}

whole_block : (g : _) (c : goal.After-within g) → block_in c.args.self.now c.in_ok-new.field-0 ≡ []
whole_block g c = elim c.if-width-eq32.branch [
  | then-width-eq32 w ↦ whole-ipv4 c.args.self.now _ _ _ (sym c.width.ensures.value ∙ w.if-width-eq32.true) (c.in_ok-new.ensures.ip ∙ w.whole-is) c.in_ok-new.ensures.prefix
  | else-width-eq32 w ↦ whole-ipv6 c.args.self.now _ _ _ (c.in_ok-new.ensures.ip ∙ w.whole-is) c.in_ok-new.ensures.prefix
]

pub returns-clause-listing : goal.returns-clause-listing
returns-clause-listing g c =
    let P : List Bool → Type 0 = λ block. IfOk c.within.result (λ w. ListsRange w c.args.options block) in
    subst P (whole_block g c) c.within.ensures.listing

pub returns-clause-listed : goal.returns-clause-listed
returns-clause-listed g c =
    let P : List Bool → Type 0 = λ block. IfOk c.within.result (λ w. items_to_come w ≡ items_of c.args.self.now (listed c.args.self.now c.args.options block)) in
    subst P (whole_block g c) c.within.ensures.listed
