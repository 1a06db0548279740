use Rattle.std.proofs.Common.{rules}
use Rattle.mmdb_json.proofs.WideDecimals.{IsNumber-decimal_wide}
use Rattle.mmdb_json.proofs.write.write_wide.Goals as goal

pub token-requires : goal.token-requires
token-requires g c = rw c.format.ensures.text (IsNumber-decimal_wide c.args.n (search rules))
