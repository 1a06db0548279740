use Rattle.std.proofs.Common.{ap, subst, option_map}
use Rattle.std.specs.Prelude.{Option}
use Rattle.std.proofs.lemmas.Result.{IfOk-weaker}
use Rattle.mmdb_format.specs.Unfolding.{Tree}
use Rattle.mmdb_value.specs.Values.{value_tree}
use Rattle.mmdb_cmd_diff.specs.Alike.{IsRead}
use Rattle.mmdb_cmd_diff.proofs.Liking.{shown-read}
use Rattle.mmdb_cmd_diff.proofs.differences.text_or_null.Goals as goal

pub returns-in-Some : goal.returns-in-Some
returns-in-Some c = record {
  text = λ s offset read.
      let there = subst (λ (v : Option Tree). IsRead s offset v) (ap (option_map value_tree) c.in-Some.is) read in
      IfOk-weaker c.compact.result _ _ (λ text compact. shown-read s offset (value_tree c.in-Some.value) text.items there compact) c.compact.ensures;
}
