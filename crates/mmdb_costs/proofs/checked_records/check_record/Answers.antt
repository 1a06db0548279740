use Rattle.std.proofs.Common.{subst}
use Rattle.mmdb_costs.specs.Readable.{Fits}
use Rattle.mmdb_costs.proofs.Reading.{fits_readable}
use Rattle.mmdb_costs.proofs.checked_records.check_record.Goals as goal

pub returns-then-branch-clause-ok : goal.returns-then-branch-clause-ok
returns-then-branch-clause-ok c = fits_readable c.args.section.now c.args.offset c.requires.good (subst (λ s. Fits s c.args.offset) c.requires.section (c.in_ok-fits.ensures.fits c.if-branch.true))
