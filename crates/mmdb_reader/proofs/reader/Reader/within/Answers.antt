use Rattle.std.proofs.Common.{◌≡◌, List, Bool, take, ap, sym, subst, ◌∙◌, arith}
use Rattle.mmdb_net.specs.Bits.{bits_of}
use Rattle.mmdb_reader.specs.File.{Database, width}
use Rattle.mmdb_reader.specs.Items.{items_of}
use Rattle.mmdb_reader.specs.Listing.{Listed, IsListing, listed}
use Rattle.mmdb_reader.specs.Positions.{listed_of_stack}
use Rattle.mmdb_reader.specs.Shown.{block_in}
use Rattle.mmdb_reader.specs.Enumeration.{items_to_come}
use Rattle.mmdb_reader.proofs.ListingLemmas.{range_walk_lists}
use Rattle.mmdb_reader.proofs.RangeLemmas.{length-range}
use Rattle.mmdb_reader.proofs.StackLemmas.{IsStack-none, IsStack-one, lists-one, lists-none}
use Rattle.mmdb_reader.proofs.reader.Reader.within.Goals as goal
use Rattle.mmdb_reader.proofs.reader.Reader.within.Goals.{in-Some-start, in_default-start}

pub invariant_of-result : goal.invariant_of-result
invariant_of-result g c =
    let db = c.walker-walker.result.reader.now in
    let range = c.in-Some.range in
    let same : width db ≡ width c.args.self.now = ap width c.walker-walker.ensures in
    let within = c.in-Some.ensures.within in
    let len = length-range (width db) range.prefix range.address (omega (arith, same, within)) in
    let w = c.width.ensures.value in
    record {
      placed = elim c.match-start.branch [
        | in-Some-start s ↦ rw s.stack-is (IsStack-one db _ _ _ c.in_ok-stack.stack.items s.in-Some-start.position s.push_reserved.ensures.items c.in_ok-stack.ensures.items (omega (arith, len, same, w, s.push_reserved.ensures.capacity, c.in_ok-stack.ensures.exact, c.from.ensures)) s.in-Some-start.ensures.placed)
        | in_default-start s ↦ rw s.stack-is (IsStack-none db _ _ c.in_ok-stack.ensures.items)
      ];
      hides = c.hidden_number-hidden.ensures;
    }

-- the positions that the list begins with give what is listed for the range
from_start : (g : _) (c : goal.After-result-1 g) → listed_of_stack c.walker-walker.result.reader.now c.args.options c.match-start.stack.items ≡ listed c.walker-walker.result.reader.now c.args.options (take c.in-Some.range.prefix (bits_of (width c.walker-walker.result.reader.now) c.in-Some.range.address))
from_start g c =
    let db = c.walker-walker.result.reader.now in
    let options = c.args.options in
    elim c.match-start.branch [
      | in-Some-start s ↦ ap (λ v. listed_of_stack db options v.items) s.stack-is
          ∙ lists-one db options _ c.in_ok-stack.stack.items s.in-Some-start.position _ s.push_reserved.ensures.items c.in_ok-stack.ensures.items s.in-Some-start.ensures.lists
      | in_default-start s ↦ ap (λ v. listed_of_stack db options v.items) s.stack-is
          ∙ lists-none db options _ _ c.in_ok-stack.ensures.items s.in_default-start.ensures
    ]

pub returns-clause-listed : goal.returns-clause-listed
unfolding items_to_come
returns-clause-listed g c =
    let walked = c.walker-walker.result.reader.now in
    let db = c.args.self.now in
    let options = c.args.options in
    let P : Database → Type 0 = λ d. items_of walked (listed_of_stack walked options c.match-start.stack.items) ≡ items_of d (listed d options (take c.in-Some.range.prefix (bits_of (width d) c.in-Some.range.address))) in
    subst P c.walker-walker.ensures (ap (items_of walked) (from_start g c))
    ∙ ap (λ (bits : List Bool). items_of db (listed db options bits)) c.in-Some.ensures.block

pub returns-clause-listing : goal.returns-clause-listing
returns-clause-listing g c =
    let db = c.args.self.now in
    let options = c.args.options in
    let range : List Bool = block_in db c.args.network in
    let list : List Listed = listed db options range in
    let P : Database → Type 0 = λ d. IsListing d options range list in
    record {
      list = list;
      is_listing = subst P (sym c.walker-walker.ensures) (range_walk_lists db options range);
      comes = returns-clause-listed g c ∙ ap (λ (d : Database). items_of d list) (sym c.walker-walker.ensures);
    }
