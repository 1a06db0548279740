use Rattle.std.proofs.Common.{take}
use Rattle.std.specs.List.{AllByRecursion}
use Rattle.mmdb_nodes.specs.Entries.{IsEntry}
use Rattle.mmdb_nodes.proofs.entry.all_fit.Given as goal

-- the entries so far fit
abbrev pub invariant-loop-entry : goal.invariant-loop-entry
invariant-loop-entry l = AllByRecursion (IsEntry l.version l.data_len) (take l.entry-index l.entries)
