use Rattle.std.proofs.Common.{◌∙◌}
use Rattle.json.specs.Print.{quoted}
use Rattle.base64.specs.GeneralPurpose.{encode_of}
use Rattle.base64.specs.Engines.{standard}
use Rattle.mmdb_json.proofs.Drafting.{string_grew_in}
use Rattle.mmdb_json.proofs.draft.Draft.put_bytes.Goals as goal

pub returns : goal.returns
returns c = string_grew_in c.put_bytes.result c.args.self.now c.self.inside.text.items c.put_bytes.new.out.items (quoted (encode_of standard c.args.bytes.now)) c.self.inside.holes.items (c.self.view_is ∙ c.may_be_at_once.ensures) c.self.invariant c.put_bytes.ensures.put
