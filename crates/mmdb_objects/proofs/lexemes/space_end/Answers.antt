use Rattle.std.proofs.Common.{rules, ◌≡◌, ◌<◌, length, get_or, true, ◌∙◌, arith}
use Rattle.json.specs.Word.{is_space}
use Rattle.mmdb_objects.proofs.ScanLaws.{at_space}
use Rattle.mmdb_objects.proofs.lexemes.space_end.Goals as goal

pub loop-at-preserved : goal.loop-at-preserved
loop-at-preserved c =
    let below : c.loop-at.at < length c.args.text.now = omega arith in
    let space : is_space (get_or c.args.text.now c.loop-at.at 0) ≡ true = search rules in
    record {
      low = omega arith;
      high = omega arith;
      same = at_space c.args.text.now c.loop-at.at below space ∙ c.loop-at.invariant.same;
    }
