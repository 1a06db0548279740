use Rattle.mmdb_writer.proofs.metadata.push_description.Given as goal

abbrev pub invariant-loop-language : goal.invariant-loop-language
invariant-loop-language l = (goal.iterator-loop-language).can_next l.language-iterator × (goal.iterator-loop-language).is_finite l.language-iterator
