use Rattle.std.proofs.Common.{sym, subst, rules}
use Rattle.std.proofs.lemmas.List.{take_rest}
use Rattle.mmdb_addresses.specs.Openings.{MayBegin}
use Rattle.mmdb_addresses.proofs.OpeningLaws.{first_begins}
use Rattle.mmdb_addresses.proofs.cells.first_address.Goals as goal

pub returns-in-Other : goal.returns-in-Other
returns-in-Other c =
    first_begins c.args.cell.now c.end_of-from.result c.end_of-from.ensures.end (λ may. c.opening_of.ensures (search rules) (subst MayBegin (sym (take_rest c.args.cell.now c.end_of-from.result)) may))
