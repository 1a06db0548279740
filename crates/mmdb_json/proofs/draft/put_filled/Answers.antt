use Rattle.mmdb_json.proofs.Drafting.{behind_more, behind_extended}
use Rattle.mmdb_json.proofs.draft.put_filled.Goals as goal

pub returns-clause-behind : goal.returns-clause-behind
returns-clause-behind c =
    let (bound, same, behind) = c.loop-hole.invariant in
    behind_more c.args.out.now.items c.loop-hole.out.items c.extend_from_slice-2.new.self.items behind (behind_extended c.extend_from_slice-2.result c.loop-hole.out.items c.extend_from_slice-2.new.self.items c.split_at.result.1.now c.extend_from_slice-2.ensures.items)
