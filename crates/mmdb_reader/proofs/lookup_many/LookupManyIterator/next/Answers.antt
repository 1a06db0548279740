use Rattle.std.proofs.Common.{◌≡◌, ◌<◌, ◌∷◌, length, arith}
use Rattle.mmdb_reader.proofs.ManyLemmas.{IsGroup-new, IsGroup-used, IsGroup-first, IsGroup-rest, not_both}
use Rattle.mmdb_reader.proofs.lookup_many.LookupManyIterator.next.Goals as goal
use Rattle.mmdb_reader.proofs.lookup_many.LookupManyIterator.next.Goals.{then-self, else-self, then-self-2, else-self-2}

pub answer_found-requires : goal.answer_found-requires
answer_found-requires g c =
    let db = c.self.inside.reader.now in
    let left = c.self.inside.left.now in
    let first = c.in_ok-first.first.now in
    let rest = c.in_ok-first.rest.now in
    let is : left ≡ first ∷ rest = c.in_ok-first.ensures.cases.0 in
    elim c.if-self.branch [
      | then-self w ↦ rw w.found-is w.walk_one-found.ensures.found
      | else-self w ↦ rw (w.found-is, w.at-found.ensures) (elim w.if-self-2.branch [
        | then-self-2 u ↦
            let found = u.find_group-self-inside in
            let some : 0 < length left = rw is (omega arith) in
            rw u.self-inside-is (IsGroup-first db left found.new.leaves 0 found.result (IsGroup-new db left found.new.leaves found.result found.ensures.few found.ensures.within found.ensures.found) (found.ensures.some some) first rest is _)
        | else-self-2 u ↦
            let more : c.self.inside.next < c.self.inside.count = let ordered = c.self.invariant.1.ordered in let unlike = u.if-self-2.false in omega (arith, ordered, unlike) in
            rw u.self-inside-is (IsGroup-first db left c.self.inside.leaves c.self.inside.next c.self.inside.count c.self.invariant.1 more first rest is _)
      ])
    ]

pub invariant_of-self : goal.invariant_of-self
invariant_of-self g c =
    let db = c.self.inside.reader.now in
    let left = c.self.inside.left.now in
    let first = c.in_ok-first.first.now in
    let rest = c.in_ok-first.rest.now in
    let is : left ≡ first ∷ rest = c.in_ok-first.ensures.cases.0 in
    elim c.if-self.branch [
      | then-self w ↦
          let all = c.self.invariant.0 w.if-self.true in
          rw w.self-inside-is (λ _. all, IsGroup-used db rest c.self.inside.leaves c.self.inside.next c.self.inside.count all c.self.invariant.1.few)
      | else-self w ↦ rw w.self-inside-is (elim w.if-self-2.branch [
        | then-self-2 u ↦
            let found = u.find_group-self-inside in
            let some : 0 < length left = rw is (omega arith) in
            rw u.self-inside-is (λ one. not_both _ _ w.if-self.false one, IsGroup-rest db left found.new.leaves 0 found.result (IsGroup-new db left found.new.leaves found.result found.ensures.few found.ensures.within found.ensures.found) (found.ensures.some some) first rest is)
        | else-self-2 u ↦
            let more : c.self.inside.next < c.self.inside.count = let ordered = c.self.invariant.1.ordered in let unlike = u.if-self-2.false in omega (arith, ordered, unlike) in
            rw u.self-inside-is (λ one. not_both _ _ w.if-self.false one, IsGroup-rest db left c.self.inside.leaves c.self.inside.next c.self.inside.count c.self.invariant.1 more first rest is)
      ])
    ]
