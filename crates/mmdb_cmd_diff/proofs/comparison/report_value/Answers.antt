use Rattle.std.proofs.Common.{rules, ap, sym, subst}
use Rattle.std.proofs.lemmas.Result.{on_ok_weaker}
use Rattle.mmdb_cmd_diff.specs.Lines.{waiting_in}
use Rattle.mmdb_cmd_diff.specs.declared.changes.Changes.{Changes}
use Rattle.mmdb_cmd_diff.proofs.Gathering.{ready-as, fault-told}
use Rattle.mmdb_cmd_diff.proofs.Telling.{tells-same}
use Rattle.mmdb_cmd_diff.proofs.comparison.report_value.Goals as goal

pub returns-clause-told : goal.returns-clause-told
returns-clause-told g c both ready =
    on_ok_weaker c.report_fault.result
    (λ t. fault-told both c.args.so_far.now c.is_new_fault.new.self c.report_fault.new.so_far.changes _ _ c.is_new_fault.ensures.same c.is_new_fault.ensures.changes t)
    (c.report_fault.ensures.told both
    (ready-as both c.args.so_far.now c.is_new_fault.new.self (ap (λ p. p.shown) c.is_new_fault.ensures.pairs) (ap (λ p. p.kept) c.is_new_fault.ensures.pairs) c.is_new_fault.ensures.changes ready))

pub returns-then-not-is_new_fault : goal.returns-then-not-is_new_fault
returns-then-not-is_new_fault g c =
    let now = c.args.so_far.now in
    let noted = c.is_new_fault.ensures in
    record {
      told = λ both ready. tells-same now.pairs.layout.now now.pairs.shown both (waiting_in now.changes) (waiting_in c.is_new_fault.new.self.changes) _
          (λ is_ipv4 address h. subst (λ (k : Changes). waiting_in k is_ipv4 address) (sym noted.changes) h);
      ready = λ both ready. ready-as both now c.is_new_fault.new.self (ap (λ p. p.shown) noted.pairs) (ap (λ p. p.kept) noted.pairs) noted.changes ready;
      read = search rules;
      same = noted.same;
      waiting = noted.waiting;
    }
