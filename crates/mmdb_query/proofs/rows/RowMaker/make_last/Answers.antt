use Rattle.std.proofs.Common.{◌++◌, ◌∙◌, ap, sym, subst}
use Rattle.mmdb_query.proofs.KeptLaws.{last_kept}
use Rattle.mmdb_query.proofs.rows.RowMaker.make_last.Goals as goal

pub keep_last-requires-clause-fits : goal.keep_last-requires-clause-fits
keep_last-requires-clause-fits g c =
    let is_tail = g.T.Template.is_tail c.args.self.now.template.now in
    let s = g.A.Answer.sections c.args.answer.now in
    let offsets = (g.A.Answer.had c.args.answer.now).offsets in
    let (made, is, grown) = c.in_ok-put_tail.ensures.tail in
    let tail = subst (is_tail s offsets) (sym (grown ∙ ap (λ before. before ++ made) c.clear.ensures.items)) is in
    record {
      tails = c.requires.tails;
      last = last_kept is_tail s offsets c.key-self.result c.put_tail.new.out.items c.key-self.ensures tail;
      scratch = c.in_ok-put_tail.ensures.fits;
    }
