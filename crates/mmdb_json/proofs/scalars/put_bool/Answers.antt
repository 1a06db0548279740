use Rattle.std.proofs.Common.{rules, true, false, refl}
use Rattle.json.specs.Json.{boolean}
use Rattle.mmdb_format.specs.Contents.{boolean as boolean_scalar}
use Rattle.mmdb_json.proofs.ScalarTexts.{grows, true_written, false_written}
use Rattle.mmdb_json.proofs.scalars.put_bool.Goals as goal

pub returns-then-b : goal.returns-then-b
returns-then-b c = grows c.put.result (boolean_scalar c.args.b) (boolean true) c.args.out.now c.put.new.self _ c.put.ensures (search rules) true_written refl

pub returns-else-b : goal.returns-else-b
returns-else-b c = grows c.put-else-b.result (boolean_scalar c.args.b) (boolean false) c.args.out.now c.put-else-b.new.self _ c.put-else-b.ensures (search rules) false_written refl
