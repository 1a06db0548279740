use Rattle.std.proofs.Common.{rules, ◌≡◌, ◌++◌, ◌∷◌, [], Some, None, List, Option, ℕ, length, sym, ap, ◌∙◌, refl, subst, arith}
use Rattle.std.specs.Vec.{vec_capacity}
use Rattle.std.proofs.lemmas.List.{nil_from_length}
use Rattle.mmdb_reader.specs.declared.options.WithinOptions.{WithinOptions}
use Rattle.mmdb_reader.specs.declared.positions.Position.{Position}
use Rattle.mmdb_reader.specs.File.{Database}
use Rattle.mmdb_tree.specs.declared.record.TreeRecord.{TreeRecord}
use Rattle.mmdb_reader.specs.Items.{items_of, item_view}
use Rattle.mmdb_reader.specs.Working.{finding_of_answer}
use Rattle.mmdb_reader.specs.Positions.{IsStack, bits_to, listed_of_stack}
use Rattle.mmdb_reader.specs.Enumeration.{items_to_come}
use Rattle.mmdb_reader.proofs.ItemLemmas.{items-first}
use Rattle.mmdb_reader.proofs.StackLemmas.{left-placed, lowest-at, lowest-smaller, lowest-lists}
use Rattle.mmdb_reader.proofs.within.WithinIterator.next.Goals as goal

nothing : (db : Database) (options : WithinOptions) → items_of db (listed_of_stack db options []) ≡ []
unfolding listed_of_stack
nothing db options = refl

pub go_down-below-requires-clause-placed : goal.go_down-below-requires-clause-placed
go_down-below-requires-clause-placed g c =
    let db = c.loop-position.self.walker.reader.now in
    let popped = subst (IsStack db (vec_capacity c.loop-position.self.stack)) c.in-Some.ensures.items c.loop-position.self.placed in
    subst (λ (n : ℕ). IsStack db n (c.pop.new.self.items ++ c.in-Some.position ∷ [])) (sym c.in-Some.ensures.capacity) popped

pub invariant_of-self : goal.invariant_of-self
invariant_of-self g c = record {
  placed = left-placed c.loop-position.self.walker.reader.now c.loop-position.self.options _ _ _ c.go_down-below.new.stack.items c.go_down-below.result c.go_down-below.ensures.lowest (sym c.go_down-below.ensures.capacity);
  hides = c.loop-position.self.hides;
}

pub loop-position-smaller-in_default-below : goal.loop-position-smaller-in_default-below
loop-position-smaller-in_default-below g c =
    let less = c.in_default-below.ensures.lowest.left in
    rw (c.in-Some.ensures.items) less

pub loop-position-preserved-in_default-below : goal.loop-position-preserved-in_default-below
unfolding items_to_come
loop-position-preserved-in_default-below g c =
    let db = c.loop-position.self.walker.reader.now in
    let options = c.loop-position.self.options in
    let popped = ap (listed_of_stack db options) c.in-Some.ensures.items in
    record {
      items = ap (items_of db) (c.in_default-below.ensures.lowest.lists ∙ sym popped) ∙ c.loop-position.invariant.items;
      reader = c.loop-position.invariant.reader;
      reserved = c.in_default-below.ensures.capacity ∙ c.in-Some.ensures.capacity ∙ c.loop-position.invariant.reserved;
    }

pub item-requires-clause-at : goal.item-requires-clause-at
item-requires-clause-at g c =
    lowest-at c.loop-position.self.walker.reader.now c.loop-position.self.options _ _ c.go_down-below.new.stack.items c.in-Some-below.leaf c.in-Some-below.ensures.lowest

-- what the stack held gives the leaf's own item, and what is left
first_item : (g : _) (c : goal.After-item g) → items_to_come c.args.self.now ≡ item_view c.item.result ∷ items_of c.loop-position.self.walker.reader.now (listed_of_stack c.loop-position.self.walker.reader.now c.loop-position.self.options c.go_down-below.new.stack.items)
unfolding items_to_come
first_item g c =
    let db = c.loop-position.self.walker.reader.now in
    let options = c.loop-position.self.options in
    let found : Option TreeRecord = finding_of_answer (Some c.in-Some-finding.finding) in
    let same = lowest-lists db options _ _ c.go_down-below.new.stack.items c.in-Some-below.leaf c.in-Some-below.ensures.lowest found c.in-Some-finding.ensures.value in
    let popped = ap (listed_of_stack db options) c.in-Some.ensures.items in
    sym c.loop-position.invariant.items ∙ ap (items_of db) (popped ∙ same) ∙ items-first db (bits_to db c.in-Some-below.leaf) found _ (listed_of_stack db options c.go_down-below.new.stack.items) c.item.ensures.value

pub returns-in-Some-finding-clause-steps : goal.returns-in-Some-finding-clause-steps
unfolding items_to_come
returns-in-Some-finding-clause-steps g c =
    (first_item g c, (c.loop-position.invariant.reader, rw (← c.loop-position.invariant.reader) c.item.ensures.database, c.in-Some-below.ensures.capacity ∙ c.in-Some.ensures.capacity ∙ c.loop-position.invariant.reserved))

pub returns-in-Some-finding-clause-goes : goal.returns-in-Some-finding-clause-goes
unfolding items_to_come
returns-in-Some-finding-clause-goes g c =
    let shorter = ap length (first_item g c) in
    search rules

pub loop-position-smaller : goal.loop-position-smaller
loop-position-smaller g c =
    let less = lowest-smaller c.loop-position.self.walker.reader.now c.loop-position.self.options _ _ c.go_down-below.new.stack.items c.in-Some-below.leaf c.in-Some-below.ensures.lowest in
    rw (c.in-Some.ensures.items) less

pub loop-position-preserved : goal.loop-position-preserved
unfolding items_to_come
loop-position-preserved g c =
    let db = c.loop-position.self.walker.reader.now in
    let options = c.loop-position.self.options in
    let same = lowest-lists db options _ _ c.go_down-below.new.stack.items c.in-Some-below.leaf c.in-Some-below.ensures.lowest None c.in_default-finding.ensures.value in
    let popped = ap (listed_of_stack db options) c.in-Some.ensures.items in
    record {
      items = ap (items_of db) (sym (popped ∙ same)) ∙ c.loop-position.invariant.items;
      reader = c.loop-position.invariant.reader;
      reserved = c.in-Some-below.ensures.capacity ∙ c.in-Some.ensures.capacity ∙ c.loop-position.invariant.reserved;
    }

pub returns-clause-steps : goal.returns-clause-steps
unfolding items_to_come
returns-clause-steps g c =
    let db = c.loop-position.self.walker.reader.now in
    let options = c.loop-position.self.options in
    let old : c.loop-position.self.stack.items ≡ [] = nil_from_length c.loop-position.self.stack.items (omega (arith, c.in_default.ensures.cases.0, c.loop-position.self.stack.ok.0)) in
    let new : c.pop.new.self.items ≡ [] = nil_from_length c.pop.new.self.items (omega (arith, c.in_default.ensures.cases.1, c.pop.new.self.ok.0)) in
    ((sym c.loop-position.invariant.items ∙ ap (λ (s : List Position). items_of db (listed_of_stack db options s)) old ∙ nothing db options, ap (λ (s : List Position). items_of db (listed_of_stack db options s)) new ∙ nothing db options), (c.loop-position.invariant.reader, tt, c.pop.ensures.capacity ∙ c.loop-position.invariant.reserved))
