use Rattle.std.proofs.Common.{rules, ◌≡◌, ◌<◌, ◌-◌, true, false, length, take, drop, subst}
use Rattle.std.proofs.Math.Logic.{⊎_elim}
use Rattle.std.proofs.lemmas.List.{take_rest}
use Rattle.mmdb_addresses.specs.Addresses.{Finds}
use Rattle.mmdb_addresses.specs.Rows.{IsRun}
use Rattle.mmdb_addresses.proofs.RunLaws.{finds_at}
use Rattle.mmdb_addresses.proofs.rows.address_at.Goals as goal

pub returns : goal.returns
returns c =
    finds_at c.args.text.now c.args.goes_on c.args.at c.args.end c.run_address.result c.requires.begins c.requires.end (search rules)
    (λ (on : c.args.goes_on ≡ true). ⊎_elim (λ (p : (c.args.goes_on ≡ true) × (c.args.end < length c.args.text.now)). p.1) (λ (off : c.args.goes_on ≡ false). cc) c.if-end-text.either)
    (subst (λ r. Finds (IsRun (take (c.args.end - c.args.at) (drop c.args.at c.args.text.now)) r) c.run_address.result) (take_rest c.args.text.now c.args.end) c.run_address.ensures)
