use Rattle.std.proofs.Common.{refl, sym, subst}
use Rattle.std.specs.List.{AllByRecursion}
use Rattle.std.proofs.lemmas.Bool.{false≢true}
use Rattle.mmdb_nodes.specs.Entries.{IsEntry}
use Rattle.mmdb_writer.proofs.entries.put_in_order.Goals as goal

pub returns-then-all_fit-clause-ok : goal.returns-then-all_fit-clause-ok
returns-then-all_fit-clause-ok c = record {
  ordered = c.in_ok-sort.ensures.ordered;
  fit = subst (AllByRecursion (IsEntry c.args.version c.args.data_len)) c.deref.ensures.value (c.if-all_fit.ensures.0 refl);
  stable = c.in_ok-sort.ensures.stable;
}

pub returns-else-all_fit-clause-not_meant : goal.returns-else-all_fit-clause-not_meant
returns-else-all_fit-clause-not_meant c = λ is. record {
  entries = c.sort.new.entries.items;
  order = c.in_ok-sort.ensures;
  no_fit = λ all. false≢true (c.if-all_fit.ensures.1 (subst (AllByRecursion (IsEntry c.args.version c.args.data_len)) (sym c.deref.ensures.value) all));
}
