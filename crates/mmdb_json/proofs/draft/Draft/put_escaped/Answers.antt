use Rattle.std.proofs.Common.{◌∙◌}
use Rattle.json.specs.Print.{quoted}
use Rattle.mmdb_json.proofs.Drafting.{string_grew_in}
use Rattle.mmdb_json.proofs.draft.Draft.put_escaped.Goals as goal

pub returns : goal.returns
returns c = string_grew_in c.put_string.result c.args.self.now c.self.inside.text.items c.put_string.new.out.items (quoted c.args.text.now) c.self.inside.holes.items (c.self.view_is ∙ c.may_be_at_once.ensures) c.self.invariant c.put_string.ensures.put
