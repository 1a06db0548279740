use Rattle.std.proofs.Common.{rules}
use Rattle.mmdb_json.proofs.Drafting.{hole_grows_in}
use Rattle.mmdb_json.proofs.draft.Draft.put_last.Goals as goal

pub returns : goal.returns
returns c = hole_grows_in c.args.self.now c.self.inside.text.items c.self.inside.holes.items c.push.new.self.items (record { at = c.len-at.result; later = c.args.later }) c.self.view_is c.self.invariant c.in_ok-push.ensures.items (search rules)
