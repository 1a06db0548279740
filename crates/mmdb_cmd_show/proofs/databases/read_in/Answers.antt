use Rattle.std.proofs.Common.{ap}
use Rattle.std.proofs.lemmas.Result.{err_from_is_err_and}
use Rattle.mmdb_reader.specs.File.{data_section}
use Rattle.mmdb_reader.specs.Found.{section_asked, offset_found, leaf_of}
use Rattle.mmdb_cmd_show.proofs.AskedLaws.{on_value, on_error, not_looked_up, read_there, unread_there}
use Rattle.mmdb_cmd_show.proofs.databases.read_in.Goals as goal

pub returns-in_err-found-clause-unread : goal.returns-in_err-found-clause-unread
returns-in_err-found-clause-unread c =
    let p = err_from_is_err_and c.from_residual.result c.from_residual.ensures.1 in
    rw (p.1, p.2) (not_looked_up c.args.database.now c.args.address c.args.path.now c.in_err-found.field-0.0 c.in_err-found.ensures)

pub returns-clause-read : goal.returns-clause-read
returns-clause-read c =
    let found = c.in_ok-found.found in
    let (asked, asks, looked) = c.in_ok-found.ensures in
    on_value c.value_along.result (λ value h. read_there c.args.database.now c.args.address asked c.args.path.now (leaf_of found) (section_asked found) (offset_found found) value asks looked.answered (ap data_section looked.database) h) c.value_along.ensures.ok

pub returns-clause-unread : goal.returns-clause-unread
returns-clause-unread c =
    let found = c.in_ok-found.found in
    let (asked, asks, looked) = c.in_ok-found.ensures in
    on_error c.value_along.result (λ e h. unread_there c.args.database.now c.args.address asked c.args.path.now (leaf_of found) (section_asked found) (offset_found found) e asks looked.answered (ap data_section looked.database) h) c.value_along.ensures.err
