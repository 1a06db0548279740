use Rattle.std.proofs.Common.{◌↔◌, ◌⊎◌, ◌≤◌, subst}
use Rattle.mmdb_blocks.specs.Blocks.{IsIn}
use Rattle.mmdb_blocks.specs.Ranges.{IsAmong, IsListed}
use Rattle.mmdb_cmd_export.specs.Gathered.{IsMapped}
use Rattle.mmdb_cmd_export.proofs.GatheredLaws.{mapped_in, with_others, read_of}
use Rattle.mmdb_cmd_export.proofs.gathering.Adjustment.also_ipv4.Goals as goal

pub returns : goal.returns
returns c = read_of c.ranges_of_blocks-2.result c.ranges_of_blocks-2.ensures (λ all same address small.
    let chosen = c.args.chosen.now in
    let nothing = c.new-nothing.result in
    let beyond = c.add.new.self in
    let mapped = mapped_in chosen nothing beyond c.in_ok-mapped.mapped.items address small c.new-nothing.ensures
    (subst (λ before. IsAmong address beyond ↔ (IsAmong address before ⊎ ((4294967296 ≤ address) × (address ≤ 340282366920938463463374607431768211455)))) c.new-beyond.ensures (c.in_ok-add.ensures address))
    (subst (λ ranges. IsIn address c.in_ok-mapped.mapped.items ↔ IsListed address ranges nothing beyond) c.ipv6.ensures (c.in_ok-mapped.ensures.exact address)) in
    let ranges = subst (λ blocks. IsAmong address c.in_ok-mapped-2.mapped ↔ IsIn address blocks) c.as_slice.ensures.value (c.in_ok-mapped-2.ensures address) in
    with_others c.in_ok-mapped-2.mapped c.args.self.now.also.ipv4 nothing c.in_ok-all.all.items all address (IsMapped chosen address) c.new-nothing.ensures
    ((λ among. mapped.0 (ranges.0 among)), (λ is. ranges.1 (mapped.1 is)))
    (c.in_ok-all.ensures.exact address)
    (subst (λ blocks. IsAmong address all ↔ IsIn address blocks) c.as_slice-2.ensures.value (same address)))
