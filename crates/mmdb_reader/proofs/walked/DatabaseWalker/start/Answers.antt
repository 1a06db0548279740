use Rattle.std.proofs.Common.{◌≡◌, ◌-◌, ◌<◌, ◌≤◌, sym, ap, ◌∙◌, subst, arith, take, inr}
use Rattle.mmdb_net.specs.Bits.{bits_of, bit_of}
use Rattle.mmdb_reader.specs.File.{width}
use Rattle.mmdb_reader.proofs.PositionLemmas.{hidden-node, shown-off, width-le}
use Rattle.mmdb_reader.proofs.RangeLemmas.{IsOnWay, way-root, way-hidden, way-step, way-ends, way-there, length-range, range-bit}
use Rattle.mmdb_reader.proofs.walked.DatabaseWalker.start.Goals as goal

pub loop-position-init : goal.loop-position-init
loop-position-init g c = way-root _ _ _

pub returns-then-position-self : goal.returns-then-position-self
returns-then-position-self g c =
    let db = c.args.self.now.reader.now in
    let p = c.loop-position.position in
    let len = length-range (width db) c.args.range.prefix c.args.range.address c.requires.within in
    let off : db.metadata.node_count ≤ p.number = omega (arith, c.if-position-self.true, c.args.self.now.are.count) in
    way-ends db c.args.options _ p (omega (arith, len, c.requires.within)) c.loop-position.invariant (shown-off db c.args.options p c.loop-position.invariant.at off) (inr off)

pub returns-then-is_high_at : goal.returns-then-is_high_at
returns-then-is_high_at g c =
    let db = c.args.self.now.reader.now in
    let p = c.loop-position.position in
    let len = length-range (width db) c.args.range.prefix c.args.range.address c.requires.within in
    let on : p.number < db.metadata.node_count = omega (arith, c.if-position-self.false, c.args.self.now.are.count) in
    way-hidden db c.args.options _ p (omega (arith, len, c.requires.within)) c.loop-position.invariant
    (sym (hidden-node db c.args.options c.args.hidden p c.is_high_at.result c.requires.hides c.loop-position.invariant.at on c.is_high_at.ensures) ∙ c.if-is_high_at.true)

pub has_bit-right-requires : goal.has_bit-right-requires
has_bit-right-requires g c = omega (arith, width-le c.args.self.now.reader.now, c.args.self.now.are.width)

pub half-position-requires-clause-at : goal.half-position-requires-clause-at
half-position-requires-clause-at g c = c.loop-position.invariant.at

pub half-position-requires-clause-halves : goal.half-position-requires-clause-halves
half-position-requires-clause-halves g c =
    let inner : c.loop-position.position.prefix < c.args.range.prefix = subst (λ n. c.loop-position.position.prefix < n) c.from.ensures c.loop-position-test.true in
    (omega (arith, c.if-position-self.false, c.args.self.now.are.count), omega (arith, inner, c.requires.within))

pub loop-position-preserved : goal.loop-position-preserved
loop-position-preserved g c =
    let db = c.args.self.now.reader.now in
    let p = c.loop-position.position in
    let len = length-range (width db) c.args.range.prefix c.args.range.address c.requires.within in
    let inner : p.prefix < c.args.range.prefix = subst (λ n. p.prefix < n) c.from.ensures c.loop-position-test.true in
    let on : p.number < db.metadata.node_count = omega (arith, c.if-position-self.false, c.args.self.now.are.count) in
    let bit : c.has_bit-right.result ≡ bit_of c.args.range.address (width db - p.prefix - 1) = c.has_bit-right.ensures ∙ ap (λ w. bit_of c.args.range.address (w - p.prefix - 1)) c.args.self.now.are.width in
    let shown = sym (hidden-node db c.args.options c.args.hidden p c.is_high_at.result c.requires.hides c.loop-position.invariant.at on c.is_high_at.ensures) ∙ c.if-is_high_at.false in
    let step = way-step db c.args.options _ p (omega (arith, len, c.requires.within)) c.loop-position.invariant shown (on, omega (arith, inner, c.requires.within)) (omega (arith, len, inner)) c.has_bit-right.result (bit ∙ sym (range-bit (width db) c.args.range.prefix c.args.range.address p.prefix c.requires.within inner)) in
    subst (IsOnWay db c.args.options (take c.args.range.prefix (bits_of (width db) c.args.range.address))) (sym c.half-position.ensures) step

pub returns : goal.returns
returns g c =
    let len = length-range (width c.args.self.now.reader.now) c.args.range.prefix c.args.range.address c.requires.within in
    let there = c.loop-position-test.false in
    way-there c.args.self.now.reader.now c.args.options _ c.loop-position.position (omega (arith, len, c.requires.within)) c.loop-position.invariant (omega (arith, len, there))
