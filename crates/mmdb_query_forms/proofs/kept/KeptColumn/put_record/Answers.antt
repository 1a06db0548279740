use Rattle.std.proofs.Common.{[], arith, sym, subst}
use Rattle.mmdb_query_forms.specs.Kept.{AreAllKept}
use Rattle.mmdb_query_forms.proofs.KeptLaws.{kept_of_place}
use Rattle.mmdb_query_forms.proofs.kept.KeptColumn.put_record.Goals as goal

pub put_record_at-requires-clause-kept : goal.put_record_at-requires-clause-kept
put_record_at-requires-clause-kept g c =
    let form = c.args.printer.form in
    let sections = g.A.Answer.sections c.args.answer.now in
    kept_of_place form [] sections c.self.inside.caches.items c.args.place c.index_mut.result.now (subst (AreAllKept form [] sections) (sym c.self.view_is) c.requires.kept) (omega arith) c.index_mut.ensures.value
