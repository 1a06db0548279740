use Rattle.std.proofs.Common.{rules}
use Rattle.mmdb_reader.proofs.LawLemmas.{not_rejected}
use Rattle.mmdb_reader.proofs.reader.Reader.answer_of.Goals as goal

pub returns : goal.returns
returns g c =
    let found = rw c.in-Some.is at c.requires.found in
    let shown = rw c.in-Some.is at c.requires.shown in
    record {
      answered = search rules;
      shown = search rules;
      database = search rules;
      of_input = search rules;
      of_database = (λ none. absurd none, λ at. not_rejected c.args.self.now c.args.address.now _ _ _ found c.in_ok-offset.ensures at);
      no_other = search rules;
    }
