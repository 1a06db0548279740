use Rattle.std.proofs.Common.{◌≡◌, ◌++◌, OnOk, subst}
use Rattle.json.specs.Print.{quoted}
use Rattle.mmdb_json.proofs.Drafting.{string_grew_in}
use Rattle.mmdb_json.proofs.draft.Draft.put_string.Goals as goal

pub returns : goal.returns
returns c =
    let put = subst (λ l. OnOk c.put_plain.result (c.put_plain.new.out.items ≡ c.self.inside.text.items ++ quoted l)) c.as_bytes-2.ensures.value c.put_plain.ensures.put in
    string_grew_in c.put_plain.result c.args.self.now c.self.inside.text.items c.put_plain.new.out.items (quoted c.args.text.now) c.self.inside.holes.items c.self.view_is c.self.invariant put
