use Rattle.mmdb_writer.proofs.metadata.push_languages.Given as goal

abbrev pub invariant-loop-language : goal.invariant-loop-language
invariant-loop-language l = Unit {0}
