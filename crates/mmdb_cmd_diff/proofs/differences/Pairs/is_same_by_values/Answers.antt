use Rattle.std.proofs.Common.{ap, sym, subst}
use Rattle.mmdb_compare.specs.declared.pairs.KnownPairs.{KnownPairs}
use Rattle.mmdb_cmd_diff.specs.Alike.{AreKeptAlike}
use Rattle.mmdb_cmd_diff.proofs.Liking.{alike-for, alike-keep}
use Rattle.mmdb_cmd_diff.proofs.differences.Pairs.is_same_by_values.Goals as goal
use Rattle.mmdb_cmd_diff.proofs.differences.Pairs.is_same_by_values.Goals.{in-Some, in_default}

pub returns-clause-kept : goal.returns-clause-kept
returns-clause-kept c found all =
    let now = c.args.self.now in
    let compared = c.in_ok-is_same.ensures in
    elim c.match-offsets.branch [
      | in-Some w ↦ subst (λ (k : KnownPairs). AreKeptAlike now.shown k) (sym (ap (λ p. p.kept) w.self-is))
          (alike-keep now.shown w.in-Some.offsets c.in_ok-is_same.is_same now.kept _ w.keep.new.self compared.kept w.keep.ensures.same w.keep.ensures.as_same w.keep.ensures.last
          (λ is. alike-for now.shown _ _ w.in-Some.offsets w.in-Some.ensures (compared.same found is)) all)
      | in_default w ↦ subst (λ (k : KnownPairs). AreKeptAlike now.shown k) (sym (ap (λ p. p.kept) w.self-is)) (subst (λ (k : KnownPairs). AreKeptAlike now.shown k) (sym compared.kept) all)
    ]
