use Rattle.std.proofs.Common.{◌⊎◌, inl, inr, Bool, ℕ, sym, ap, subst}
use Rattle.std.proofs.lemmas.Result.{on_ok_weaker}
use Rattle.mmdb_cmd_diff.specs.Showing.{Showing}
use Rattle.mmdb_cmd_diff.specs.Lines.{AreWaiting, waiting_in, with_stretch}
use Rattle.mmdb_cmd_diff.proofs.Telling.{tells-as, tells-then}
use Rattle.mmdb_cmd_diff.proofs.changes.Changes.push.Goals as goal

pub returns-clause-told : goal.returns-clause-told
returns-clause-told g c both h there =
    let waiting = subst (λ (z : Showing). AreWaiting z both c.turn_to.new.self) (sym c.turn_to.ensures.shown) (c.in_ok-turn_to.ensures.waiting both h) in
    on_ok_weaker c.add.result
    (λ t. tells-then c.args.pairs.now.layout.now c.args.pairs.now.shown both _ _ _ _ _ _ _ _ (λ is_ipv4 address due. due_of is_ipv4 address due) (λ is_ipv4 address waits. inl (inl waits))
    (c.in_ok-turn_to.ensures.told both h)
    (tells-as c.args.pairs.now.layout.now c.turn_to.new.pairs.layout.now c.args.pairs.now.shown c.turn_to.new.pairs.shown both _ _ _ _ (ap (λ l. l.now) c.turn_to.ensures.layout) c.turn_to.ensures.shown t))
    (c.add.ensures.told both waiting there) where
      due_of : (is_ipv4 : Bool) (address : ℕ) → with_stretch c.args.stretch (waiting_in c.args.self.now) is_ipv4 address
          → waiting_in c.args.self.now is_ipv4 address ⊎ with_stretch c.args.stretch (waiting_in c.turn_to.new.self) is_ipv4 address
      due_of is_ipv4 address (inl waited) = inl waited
      due_of is_ipv4 address (inr is) = inr (inr is)
