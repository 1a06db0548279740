use Rattle.mmdb_layout.proofs.DigitLaws.{smaller_by}
use Rattle.mmdb_layout.proofs.number.are_smaller.Goals as goal

pub returns : goal.returns
returns c = smaller_by c.args.digits.now c.args.others.now c.cmp.result c.is_lt.result c.requires.own c.requires.other c.requires.wide c.cmp.ensures c.is_lt.ensures
