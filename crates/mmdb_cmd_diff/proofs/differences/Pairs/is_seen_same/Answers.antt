use Rattle.std.proofs.Common.{rules, true, refl, subst}
use Rattle.mmdb_compare.specs.declared.pairs.KnownPairs.{KnownPairs}
use Rattle.mmdb_compare.specs.Kept.{ArePairsOr}
use Rattle.mmdb_cmd_diff.specs.Seen.{HaveOneValue}
use Rattle.mmdb_cmd_diff.proofs.Seeing.{seen_kept}
use Rattle.mmdb_cmd_diff.proofs.Liking.{alike-seen, alike-keep}
use Rattle.mmdb_cmd_diff.proofs.differences.Pairs.is_seen_same.Goals as goal

pub returns-clause-kept : goal.returns-clause-kept
returns-clause-kept c =
    let now = c.args.self.now in
    let have : HaveOneValue now.records c.args.offsets = (c.in-Some-both.old, c.in-Some-both.new, search rules, search rules) in
    let kept = subst (λ (k : KnownPairs). ArePairsOr c.args.offsets k.same c.keep.new.self.same) c.if-not-are_equal.ensures.kept (c.keep.ensures.same refl) in
    seen_kept now.records now.kept c.keep.new.self c.args.offsets have kept

pub returns-clause-alike : goal.returns-clause-alike
returns-clause-alike c all is =
    let now = c.args.self.now in
    let have : HaveOneValue now.records c.args.offsets = (c.in-Some-both.old, c.in-Some-both.new, search rules, search rules) in
    alike-seen now.shown now.records c.args.offsets now.records_are have

pub returns-clause-all : goal.returns-clause-all
returns-clause-all c all =
    let now = c.args.self.now in
    let have : HaveOneValue now.records c.args.offsets = (c.in-Some-both.old, c.in-Some-both.new, search rules, search rules) in
    alike-keep now.shown c.args.offsets true now.kept _ c.keep.new.self c.if-not-are_equal.ensures.kept c.keep.ensures.same c.keep.ensures.as_same c.keep.ensures.last
    (λ is. alike-seen now.shown now.records c.args.offsets now.records_are have) all
