use Rattle.std.proofs.lemmas.Result.{err_from_is_err_and}
use Rattle.mmdb_reader.specs.Whole.{IsWhole}
use Rattle.mmdb_reader.proofs.Sources.{apart}
use Rattle.mmdb_reader.proofs.AliasedLookups.{whole_files_answer}
use Rattle.mmdb_reader.proofs.reader.Reader.verify_whole.Goals as goal

whole : (g : _) (c : goal.In_ok-verify_values g) → IsWhole c.args.self.now
whole g c = record {
  metadata = c.in_ok-verify_metadata.ensures.ok;
  tree = c.in_ok-set.ensures.ok.0;
  separated = c.in_ok-verify_separator.ensures.ok;
  values = c.in_ok-verify_values.ensures.ok;
}

pub returns-in_err-set-clause-rejected : goal.returns-in_err-set-clause-rejected
returns-in_err-set-clause-rejected g c =
    let p = err_from_is_err_and c.from_residual-in_err-set.result c.from_residual-in_err-set.ensures.1 in
    rw (p.1, p.2) (apart c.in_err-set.field-0.0 _ _ (λ no is. no is.tree) c.in_err-set.ensures.err)

pub returns-clause-whole : goal.returns-clause-whole
returns-clause-whole g c = whole g c

pub returns-clause-answers : goal.returns-clause-answers
returns-clause-answers g c = whole_files_answer c.args.self.now (whole g c)
