use Rattle.std.proofs.Common.{◌≡◌, Bool, true, List, ℕ, Result, IfOk, sym, subst, option_map}
use Rattle.std.proofs.lemmas.Result.{IfOk-weaker}
use Rattle.mmdb_reader.specs.Found.{offset_found}
use Rattle.mmdb_value.specs.Values.{value_tree}
use Rattle.mmdb_cmd_diff.specs.Alike.{AreAlikeIn, IsRead}
use Rattle.mmdb_cmd_diff.specs.declared.differences.UnreadableValue.{UnreadableValue}
use Rattle.mmdb_cmd_diff.proofs.Liking.{alike-read, alike-text}
use Rattle.mmdb_cmd_diff.proofs.differences.is_shown_as.Goals as goal
use Rattle.mmdb_cmd_diff.proofs.differences.is_shown_as.Goals.{then-are_equal, else-are_equal}

pub returns-clause-same : goal.returns-clause-same
returns-clause-same c s at read section =
    let there : IsRead s.in_new (offset_found c.args.new.now) (option_map value_tree c.in_ok-new.new) =
    subst (λ (z : List ℕ). IsRead z (offset_found c.args.new.now) (option_map value_tree c.in_ok-new.new)) section c.in_ok-new.ensures.read in
    elim c.if-are_equal.branch [
      | then-are_equal w ↦ subst (λ (r : Result Bool UnreadableValue). IfOk r (λ b. b ≡ true → AreAlikeIn s at (offset_found c.args.new.now))) (sym w.is_same-is)
          (λ is. alike-read s at (offset_found c.args.new.now) _ _ read there (c.are_equal.ensures w.if-are_equal.true))
      | else-are_equal w ↦ subst (λ (r : Result Bool UnreadableValue). IfOk r (λ b. b ≡ true → AreAlikeIn s at (offset_found c.args.new.now))) (sym w.is_same-is)
          (IfOk-weaker w.have_same_text-is_same.result _ _ (λ b same is. alike-text s at (offset_found c.args.new.now) _ _ read there (same is)) w.have_same_text-is_same.ensures.same)
    ]
