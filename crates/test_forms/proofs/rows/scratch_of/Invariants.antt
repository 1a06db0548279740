use Rattle.std.proofs.Common.{◌≡◌, map, take}
use Rattle.mmdb_query_forms.specs.Fitting.{ScratchFits}
use Rattle.test_forms.proofs.rows.scratch_of.Given as goal

-- the sections so far
abbrev pub invariant-loop-section : goal.invariant-loop-section
invariant-loop-section l = record {
  texts : l.scratch.texts.items ≡ map (λ s. s.now) (take l.section-index l.sections);
  fits : ScratchFits l.columns l.scratch.texts.items l.scratch;
}
