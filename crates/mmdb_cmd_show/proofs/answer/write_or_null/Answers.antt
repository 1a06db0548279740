use Rattle.std.proofs.Common.{option_map, sym, subst, refl}
use Rattle.json.specs.Json.{null}
use Rattle.mmdb_value.specs.Values.{value_tree}
use Rattle.mmdb_cmd_show.specs.Printed.{ShowsOrNull}
use Rattle.mmdb_cmd_show.proofs.answer.write_or_null.Goals as goal

pub returns-in_ok-token-in-None-clause-shown : goal.returns-in_ok-token-in-None-clause-shown
returns-in_ok-token-in-None-clause-shown g c = (null, subst (λ o. ShowsOrNull (option_map value_tree o) null) (sym c.in-None.is) refl, c.in_ok-token-in-None.ensures.given)
