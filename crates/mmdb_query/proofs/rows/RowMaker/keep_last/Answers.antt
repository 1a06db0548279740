use Rattle.std.proofs.Common.{◌∙◌, sym, subst}
use Rattle.mmdb_query.proofs.KeptLaws.{more_tails}
use Rattle.mmdb_query.proofs.rows.RowMaker.keep_last.Goals as goal

pub returns-in-Ok-clause-fits : goal.returns-in-Ok-clause-fits
returns-in-Ok-clause-fits g c =
    let is_tail = g.T.Template.is_tail c.args.self.now.template.now in
    let s = g.A.Answer.sections c.args.answer.now in
    let offsets = (g.A.Answer.had c.args.answer.now).offsets in
    let tail = subst (is_tail s offsets) (sym (c.in-Ok.ensures.items ∙ c.as_slice.ensures.value)) c.requires.tail in
    record {
      tails = more_tails is_tail s offsets c.args.self.now.kept c.put.new.self c.in-Some.key c.len-bytes.result c.in-Ok.tail c.in-Some.ensures tail c.put.ensures c.requires.fits.tails;
      last = c.requires.fits.last;
      scratch = c.requires.fits.scratch;
    }
