use Rattle.std.proofs.Common.{None, refl}
use Rattle.std.proofs.lemmas.Bool.{false≢true}
use Rattle.std.proofs.lemmas.List.Elements.{All-get_or, All-from_recursion}
use Rattle.mmdb_nodes.specs.declared.entry.NodeEntry.{NodeEntry}
use Rattle.mmdb_nodes.specs.Entries.{IsEntry}
use Rattle.mmdb_nodes.proofs.EntryLemmas.{one_more_holds}
use Rattle.mmdb_nodes.proofs.entry.all_fit.Goals as goal

abbrev none : NodeEntry
none = record { first = 0; prefix = 0; offset = None }

pub returns-then-not-fits : goal.returns-then-not-fits
returns-then-not-fits c = (
  λ h. absurd (false≢true h),
  λ all. c.if-not-fits.ensures.1 (All-get_or (IsEntry c.args.version c.args.data_len) c.args.entries.now c.loop-entry.entry-index none c.loop-entry-test.true (All-from_recursion (IsEntry c.args.version c.args.data_len) c.args.entries.now all)),
)

pub loop-entry-preserved : goal.loop-entry-preserved
loop-entry-preserved c =
    one_more_holds (IsEntry c.args.version c.args.data_len) c.args.entries.now c.loop-entry.entry-index none c.loop-entry.invariant c.loop-entry-test.true (c.if-not-fits.ensures.0 refl)
