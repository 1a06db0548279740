use Rattle.std.proofs.Common.{◌≡◌, ◌<◌, ◌≤◌, ◌∷◌, ◌++◌, [], List, true, false, sym, ◌∙◌, refl, subst, arith, inl, inr}
use Rattle.std.specs.Vec.{vec_capacity}
use Rattle.mmdb_reader.specs.declared.positions.Position.{Position}
use Rattle.mmdb_reader.specs.File.{width}
use Rattle.mmdb_reader.specs.Working.{ListsSame, half_of}
use Rattle.mmdb_reader.proofs.PositionLemmas.{hidden-node, shown-off}
use Rattle.mmdb_reader.proofs.StackLemmas.{goes_on-start, goes_on-hidden, goes_on-node, goes_on-leaf, top-placed}
use Rattle.mmdb_reader.proofs.walked.DatabaseWalker.go_down.Goals as goal

pub loop-position-init : goal.loop-position-init
loop-position-init g c = record {
  on = goes_on-start c.args.self.now.reader.now c.args.options (vec_capacity c.args.stack.now) _ c.requires.placed;
  capacity = refl;
}

pub half-requires-clause-at : goal.half-requires-clause-at
half-requires-clause-at g c =
    (top-placed c.args.self.now.reader.now c.args.options (vec_capacity c.args.stack.now) _ c.loop-position.stack.items c.loop-position.position c.loop-position.invariant.on).at

pub half-position-requires-clause-at : goal.half-position-requires-clause-at
half-position-requires-clause-at g c =
    (top-placed c.args.self.now.reader.now c.args.options (vec_capacity c.args.stack.now) _ c.loop-position.stack.items c.loop-position.position c.loop-position.invariant.on).at

pub push_reserved-requires : goal.push_reserved-requires
push_reserved-requires g c =
    let top = top-placed c.args.self.now.reader.now c.args.options (vec_capacity c.args.stack.now) _ c.loop-position.stack.items c.loop-position.position c.loop-position.invariant.on in
    omega (arith, top.room, c.loop-position.stack.ok.0, c.loop-position.invariant.capacity)

pub returns-then-is_high_at-clause-lowest : goal.returns-then-is_high_at-clause-lowest
returns-then-is_high_at-clause-lowest g c =
    let db = c.args.self.now.reader.now in
    let p = c.loop-position.position in
    let top = top-placed db c.args.options (vec_capacity c.args.stack.now) _ c.loop-position.stack.items p c.loop-position.invariant.on in
    let on : p.number < db.metadata.node_count = omega (arith, c.loop-position-test.true, c.args.self.now.are.count) in
    goes_on-hidden db c.args.options (vec_capacity c.args.stack.now) _ c.loop-position.stack.items p c.loop-position.invariant.on
    (sym (hidden-node db c.args.options c.args.hidden p c.is_high_at.result c.requires.hides top.at on c.is_high_at.ensures) ∙ c.if-is_high_at.true)

pub returns-then-position-self-clause-lowest : goal.returns-then-position-self-clause-lowest
returns-then-position-self-clause-lowest g c =
    let db = c.args.self.now.reader.now in
    let p = c.loop-position.position in
    let top = top-placed db c.args.options (vec_capacity c.args.stack.now) _ c.loop-position.stack.items p c.loop-position.invariant.on in
    let on : p.number < db.metadata.node_count = omega (arith, c.loop-position-test.true, c.args.self.now.are.count) in
    goes_on-leaf db c.args.options (vec_capacity c.args.stack.now) _ c.loop-position.stack.items p c.loop-position.invariant.on
    (sym (hidden-node db c.args.options c.args.hidden p c.is_high_at.result c.requires.hides top.at on c.is_high_at.ensures) ∙ c.if-is_high_at.false)
    (inl (omega (arith, c.if-position-self.true, c.args.self.now.are.width)))

pub loop-position-preserved : goal.loop-position-preserved
loop-position-preserved g c =
    let db = c.args.self.now.reader.now in
    let p = c.loop-position.position in
    let xs = c.loop-position.stack.items in
    let cap = vec_capacity c.args.stack.now in
    let old : List Position = c.args.stack.now.items ++ c.args.start ∷ [] in
    let top = top-placed db c.args.options cap old xs p c.loop-position.invariant.on in
    let on : p.number < db.metadata.node_count = omega (arith, c.loop-position-test.true, c.args.self.now.are.count) in
    let inner : p.prefix < width db = omega (arith, c.if-position-self.false, c.args.self.now.are.width) in
    let next = goes_on-node db c.args.options cap old xs p c.loop-position.invariant.on
    (sym (hidden-node db c.args.options c.args.hidden p c.is_high_at.result c.requires.hides top.at on c.is_high_at.ensures) ∙ c.if-is_high_at.false) (on, inner) in
    let two : (xs ++ half_of db p true ∷ []) ++ half_of db p false ∷ [] ≡ c.push_reserved.new.self.items ++ c.half-position.result ∷ [] = cc (c.push_reserved.ensures.items, c.half.ensures, c.half-position.ensures) in
    record {
      on = subst (ListsSame db c.args.options cap old) two next;
      capacity = c.push_reserved.ensures.capacity ∙ c.loop-position.invariant.capacity;
    }

pub returns-clause-lowest : goal.returns-clause-lowest
returns-clause-lowest g c =
    let db = c.args.self.now.reader.now in
    let p = c.loop-position.position in
    let top = top-placed db c.args.options (vec_capacity c.args.stack.now) _ c.loop-position.stack.items p c.loop-position.invariant.on in
    let off : db.metadata.node_count ≤ p.number = omega (arith, c.loop-position-test.false, c.args.self.now.are.count) in
    goes_on-leaf db c.args.options (vec_capacity c.args.stack.now) _ c.loop-position.stack.items p c.loop-position.invariant.on
    (shown-off db c.args.options p top.at off) (inr off)
