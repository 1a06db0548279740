use Rattle.std.proofs.Common.{[], ap}
use Rattle.std.proofs.lemmas.Result.{err_from_is_err_and}
use Rattle.mmdb_reader.specs.File.{data_section}
use Rattle.mmdb_reader.specs.Found.{section_asked, offset_found, leaf_of}
use Rattle.mmdb_cmd_show.proofs.AskedLaws.{not_looked_up, unread_there}
use Rattle.mmdb_cmd_show.proofs.databases.answer_of.Goals as goal

pub returns-in_err-found-clause-unread : goal.returns-in_err-found-clause-unread
returns-in_err-found-clause-unread c =
    let p = err_from_is_err_and c.from_residual.result c.from_residual.ensures.1 in
    rw (p.1, p.2) (not_looked_up c.args.database.now c.args.address [] c.in_err-found.field-0.0 c.in_err-found.ensures)

pub returns-in_err-value_along-clause-unread : goal.returns-in_err-value_along-clause-unread
returns-in_err-value_along-clause-unread c =
    let found = c.in_ok-found.found in
    let (asked, asks, looked) = c.in_ok-found.ensures in
    let p = err_from_is_err_and c.from_residual-in_err-value_along.result c.from_residual-in_err-value_along.ensures.1 in
    rw (p.1, p.2) (unread_there c.args.database.now c.args.address asked [] (leaf_of found) (section_asked found) (offset_found found) c.in_err-value_along.field-0.0 asks looked.answered (ap data_section looked.database) c.in_err-value_along.ensures.err)
