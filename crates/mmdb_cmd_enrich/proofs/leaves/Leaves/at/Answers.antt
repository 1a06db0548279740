use Rattle.std.proofs.Common.{ℕ, Option, subst}
use Rattle.mmdb_cmd_enrich.specs.Ahead.{IsNumberOf}
use Rattle.mmdb_cmd_enrich.proofs.AheadLaws.{leaf_found}
use Rattle.mmdb_cmd_enrich.proofs.leaves.Leaves.at.Goals as goal

pub returns-then-number-lt-MOST : goal.returns-then-number-lt-MOST
returns-then-number-lt-MOST c = λ db addresses address are is.
    leaf_found db addresses c.args.self.now.leaves c.in_ok-number.number address (record { number = 0; taken = 0 }) are (subst (λ (n : Option ℕ). IsNumberOf addresses n address) c.in_ok-number.was is)
