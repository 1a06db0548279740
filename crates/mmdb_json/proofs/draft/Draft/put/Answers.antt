use Rattle.mmdb_json.proofs.Drafting.{grew_in}
use Rattle.mmdb_json.proofs.draft.Draft.put.Goals as goal

pub returns : goal.returns
returns c = grew_in c.extend_from_slice.result c.args.self.now c.self.inside.text.items c.extend_from_slice.new.self.items c.args.bytes.now c.self.inside.holes.items c.self.view_is c.self.invariant c.extend_from_slice.ensures.items
