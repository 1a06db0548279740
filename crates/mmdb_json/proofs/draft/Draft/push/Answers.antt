use Rattle.std.proofs.Common.{◌∷◌, []}
use Rattle.mmdb_json.proofs.Drafting.{grows_in}
use Rattle.mmdb_json.proofs.draft.Draft.push.Goals as goal

pub returns : goal.returns
returns c = grows_in c.args.self.now c.self.inside.text.items c.push.new.self.items (c.args.byte ∷ []) c.self.inside.holes.items c.self.view_is c.self.invariant c.in_ok-push.ensures.items
