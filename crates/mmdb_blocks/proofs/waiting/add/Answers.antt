use Rattle.std.proofs.Common.{◌∙◌, refl, ap, arith}
use Rattle.std.proofs.lemmas.Bool.{false≢true}
use Rattle.mmdb_blocks.proofs.JoinLaws.{room-of, ready-alone, ready-after, joins-alone, joins-after}
use Rattle.mmdb_blocks.proofs.waiting.add.Goals as goal
use Rattle.mmdb_blocks.proofs.waiting.add.Goals.{then-not-is_smaller, else-not-is_smaller}

pub push_reserved-requires : goal.push_reserved-requires
push_reserved-requires c = elim c.if-not-is_smaller.branch [
  | then-not-is_smaller w ↦ (
      let same = w.waiting-is ∙ w.swap.ensures.x_after in
      rw same (omega (arith, c.clear.ensures.len, c.clear.ensures.capacity, c.requires.room.1)))
  | else-not-is_smaller w ↦ (
      let few = room-of c.join_halves-joined.new.waiting.items c.deref.result.now c.join_halves-joined.result c.deref.ensures.value c.join_halves-joined.ensures.ready c.join_halves-joined.ensures.block (w.if-not-is_smaller.ensures.0 refl) in
      rw w.waiting-is (omega (arith, few, c.deref.ensures.len, c.join_halves-joined.ensures.capacity, c.requires.room.0)))
]

pub returns-clause-ready : goal.returns-clause-ready
returns-clause-ready c = elim c.if-not-is_smaller.branch [
  | then-not-is_smaller w ↦ (
      let none = ap (λ t. t.items) (w.waiting-is ∙ w.swap.ensures.x_after) ∙ c.clear.ensures.items in
      ready-alone c.if-not-is_smaller.waiting.items c.push_reserved.new.self.items c.join_halves-joined.result none c.push_reserved.ensures.items c.join_halves-joined.ensures.block)
  | else-not-is_smaller w ↦ (
      let kept = ap (λ t. t.items) w.waiting-is in
      ready-after c.join_halves-joined.new.waiting.items c.deref.result.now c.if-not-is_smaller.waiting.items c.push_reserved.new.self.items c.join_halves-joined.result c.deref.ensures.value kept c.push_reserved.ensures.items c.join_halves-joined.ensures.ready c.join_halves-joined.ensures.block (w.if-not-is_smaller.ensures.0 refl))
]

pub returns-clause-joining : goal.returns-clause-joining
returns-clause-joining c = λ pushed handed h.
    let pending = c.join_halves-joined.ensures.pending pushed handed h in
    elim c.if-not-is_smaller.branch [
      | then-not-is_smaller w ↦ (
          let none = ap (λ t. t.items) (w.waiting-is ∙ w.swap.ensures.x_after) ∙ c.clear.ensures.items in
          let given = ap (λ t. t.items) (w.settled-is ∙ w.swap.ensures.y_after) in
          joins-alone pushed handed c.join_halves-joined.new.waiting.items c.deref.result.now c.if-not-is_smaller.waiting.items c.if-not-is_smaller.settled.items c.push_reserved.new.self.items c.join_halves-joined.result
          c.deref.ensures.value none given c.push_reserved.ensures.items c.join_halves-joined.ensures.ready c.join_halves-joined.ensures.block pending c.join_halves-joined.ensures.apart
          (λ last. absurd (false≢true (w.if-not-is_smaller.ensures.1 last))))
      | else-not-is_smaller w ↦ (
          let kept = ap (λ t. t.items) w.waiting-is in
          let none = ap (λ t. t.items) w.settled-is ∙ c.clear.ensures.items in
          joins-after pushed handed c.join_halves-joined.new.waiting.items c.if-not-is_smaller.waiting.items c.if-not-is_smaller.settled.items c.push_reserved.new.self.items c.join_halves-joined.result
          kept none c.push_reserved.ensures.items pending c.join_halves-joined.ensures.apart)
    ]
