use Rattle.std.proofs.Common.{rules}
use Rattle.mmdb_section.proofs.BytesLemmas.{a_zero, no_zero, no_bytes}
use Rattle.mmdb_section.proofs.scalar.+significant.Goals as goal

pub returns-in-0-clause-bytes : goal.returns-in-0-clause-bytes
returns-in-0-clause-bytes t c = search (rules, a_zero c.args.bytes.now c.significant.result.now c.in-0.len_at_least c.significant.ensures.bytes)

pub returns-in_default-clause-bytes : goal.returns-in_default-clause-bytes
returns-in_default-clause-bytes t c = no_bytes c.args.bytes.now c.in_default.len_below

pub returns-in_default-2-clause-bytes : goal.returns-in_default-2-clause-bytes
returns-in_default-2-clause-bytes t c = search (rules, no_zero c.args.bytes.now c.in_default.len_at_least)
