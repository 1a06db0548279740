use Rattle.std.proofs.Common.{subst}
use Rattle.mmdb_query.specs.Had.{IsNetworkOf}
use Rattle.mmdb_query.proofs.SegmentLaws.{same_truth}
use Rattle.mmdb_query.proofs.segment.SegmentAnswer.network.Goals as goal

pub returns : goal.returns
returns g c =
    let made = c.network_of_block in
    let self = c.args.self.now in
    record {
      kind = same_truth _ self.at.is_ipv4 (λ is. (made.ensures.kind.0 is).0) (λ is. let there = self.lies_there is in made.ensures.kind.1 (is, there.0, there.1));
      bits = made.ensures.bits;
      masked = made.ensures.masked;
    }
