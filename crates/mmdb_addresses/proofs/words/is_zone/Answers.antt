use Rattle.std.proofs.Common.{rules}
use Rattle.mmdb_addresses.proofs.PortLaws.{zone_of}
use Rattle.mmdb_addresses.proofs.words.is_zone.Goals as goal

pub returns-then-not-is_empty : goal.returns-then-not-is_empty
returns-then-not-is_empty c = zone_of c.args.name.now c.end_of.result (search rules) c.end_of.ensures.end
