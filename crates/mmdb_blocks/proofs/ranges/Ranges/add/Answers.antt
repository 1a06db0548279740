use Rattle.std.proofs.Common.{ℕ, ◌⊎◌, ◌↔◌, List, OnOk, subst}
use Rattle.mmdb_blocks.specs.Ranges.{IsOfRange, IsAmong}
use Rattle.mmdb_blocks.specs.declared.ranges.BlockRange.{BlockRange}
use Rattle.mmdb_blocks.proofs.ranges.Ranges.add.Goals as goal

pub returns : goal.returns
returns c =
    let P : List BlockRange → Type 0 = λ s. OnOk c.add.result ((address : ℕ) → IsAmong address c.add.new.items.items ↔ (IsAmong address s ⊎ IsOfRange address c.args.range)) in
    subst P c.self.view_is c.add.ensures
