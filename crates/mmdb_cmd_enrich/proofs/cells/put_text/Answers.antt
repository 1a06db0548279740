use Rattle.std.proofs.Common.{◌≡◌, true, OnOk, arith, subst, sym}
use Rattle.std.proofs.lemmas.Result.{on_ok_weaker}
use Rattle.mmdb_format.specs.Contents.{text as text_content}
use Rattle.mmdb_format.specs.Unfolding.{scalar}
use Rattle.mmdb_cmd_enrich.specs.Cells.{is_plain as spec_is_plain}
use Rattle.mmdb_cmd_enrich.specs.Working.{PutsShown}
use Rattle.mmdb_cmd_enrich.proofs.ShownLaws.{plain_put, extended}
use Rattle.mmdb_cmd_enrich.proofs.cells.put_text.Goals as goal

pub returns-in-Lines : goal.returns-in-Lines
returns-in-Lines c =
    let is = c.as_bytes-in-Lines.ensures.value in
    let plain : spec_is_plain c.in-Lines.delimiter c.args.text.now ≡ true = grind (arith, c.is_plain.ensures, c.if-is_plain.true, is) in
    subst (λ r. OnOk c.extend_from_slice.result (PutsShown r (scalar (text_content c.args.text.now)) c.args.out.now.items c.extend_from_slice.new.self.items)) (sym c.in-Lines.is)
    (on_ok_weaker c.extend_from_slice.result (λ put. plain_put c.in-Lines.delimiter c.args.text.now c.args.out.now.items c.extend_from_slice.new.self.items plain (grind (arith, put, is))) (extended c.extend_from_slice.result c.args.out.now.items c.as_bytes-in-Lines.result.now c.extend_from_slice.new.self.items c.extend_from_slice.ensures.items))
