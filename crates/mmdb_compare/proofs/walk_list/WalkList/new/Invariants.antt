use Rattle.std.proofs.Common.{◌≡◌, map, take}
use Rattle.std.specs.List.{All}
use Rattle.mmdb_net.specs.Network.{ip_of}
use Rattle.mmdb_reader.specs.Lookup.{CanAsk}
use Rattle.mmdb_compare.specs.Listed.{all_of}
use Rattle.mmdb_compare.specs.Walks.{left_of}
use Rattle.mmdb_compare.specs.WalkList.{databases_of}
use Rattle.mmdb_compare.proofs.walk_list.WalkList.new.Given as goal

-- the walks of the databases so far
abbrev pub invariant-loop-place : goal.invariant-loop-place
invariant-loop-place g l = record {
  left : map left_of l.walks.items ≡ map (λ d. all_of d.reader.now d.range) (take l.place l.databases);
  databases : databases_of l.walks.items ≡ map (λ d. d.reader.now) (take l.place l.databases);
  asked : All (λ d. CanAsk d.reader.now (ip_of d.range)) (take l.place l.databases);
}
