-- How networks that changed are counted.
use Rattle.std.specs.Prelude.{◌≡◌, ◌+◌, ◌-◌, ◌^◌, min, Bool, true, false}
use Rattle.mmdb_cmd_diff.specs.declared.counts.ChangeCounts.{ChangeCounts}
use Rattle.mmdb_cmd_diff.specs.declared.counts.NetworkTally.{NetworkTally}
use Rattle.mmdb_cmd_diff.specs.declared.counts.Presence.{Presence}

-- one more, as far as 64 bits go
abbrev pub IsOneMore : NetworkTally → NetworkTally → Type 0
IsOneMore before after = after.networks ≡ min (before.networks + 1) (2 ^ 64 - 1)

-- By whether the old database has a record, and the new one: one more was added, removed or changed, and no more of the others.
abbrev pub IsCountedBy : Bool → Bool → ChangeCounts → ChangeCounts → Type 0
IsCountedBy false in_new before after = IsOneMore before.added after.added × (after.removed ≡ before.removed) × (after.changed ≡ before.changed)
IsCountedBy true false before after = IsOneMore before.removed after.removed × (after.added ≡ before.added) × (after.changed ≡ before.changed)
IsCountedBy true true before after = IsOneMore before.changed after.changed × (after.added ≡ before.added) × (after.removed ≡ before.removed)

abbrev pub IsCounted : Presence → ChangeCounts → ChangeCounts → Type 0
IsCounted presence before after = IsCountedBy presence.in_old presence.in_new before after

-- none was counted
abbrev pub HasNone : ChangeCounts → Type 0
HasNone counts = (counts.added.networks ≡ 0) × (counts.removed.networks ≡ 0) × (counts.changed.networks ≡ 0)
