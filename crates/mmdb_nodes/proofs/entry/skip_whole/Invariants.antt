use Rattle.std.proofs.Common.{◌≡◌, ◌<◌, ◌^◌, ◌+◌, ℕ, drop}
use Rattle.std.specs.List.{AllByRecursion}
use Rattle.std.specs.Option.{IfSome}
use Rattle.mmdb_nodes.specs.Entries.{offset_after}
use Rattle.mmdb_nodes.specs.Working.{IsInside, HasOffsetBelow, IsUnder}
use Rattle.mmdb_nodes.proofs.entry.skip_whole.Given as goal

-- the entries that are left say the same
abbrev pub invariant-loop-i : goal.invariant-loop-i
invariant-loop-i l = record {
  value : (first a : ℕ) → AllByRecursion (IsInside first l.free) l.entries → a < 2 ^ l.free → offset_after l.found (drop l.i l.entries) (first + a) ≡ offset_after l.fn.found l.entries (first + a);
  bounded : (bound : ℕ) → AllByRecursion (HasOffsetBelow bound) l.entries → IfSome l.fn.found (IsUnder bound) → IfSome l.found (IsUnder bound);
}
