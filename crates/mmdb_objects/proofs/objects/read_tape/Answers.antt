use Rattle.std.proofs.Common.{rules, ◌≡◌, Some, is_some, true, refl, sym, subst}
use Rattle.std.specs.Str.{IsUtf8}
use Rattle.json.specs.Find.{BeginsWith}
use Rattle.json.specs.Json.{document}
use Rattle.mmdb_objects.proofs.ObjectLaws.{some_read}
use Rattle.mmdb_objects.proofs.objects.read_tape.Goals as goal

pub returns-in-Ok : goal.returns-in-Ok
returns-in-Ok c =
    let text = c.args.text.now in
    let utf8 : IsUtf8 text = search rules in
    let some : is_some (document text) ≡ true = c.in-Ok.ensures.ok.1 in
    let root : c.root.result ≡ c.in-Ok.tape = search rules in
    some_read c.args.reading text c.args.path.now c.args.name.now c.args.behind c.line_of.result (document text) refl some utf8 c.requires
    (λ j is. c.line_of.ensures j (subst (λ t. BeginsWith t j) (sym root) (c.in-Ok.ensures.value j is)))
