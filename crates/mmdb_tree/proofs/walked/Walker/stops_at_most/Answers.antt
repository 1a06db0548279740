use Rattle.std.proofs.Common.{take, arith}
use Rattle.std.proofs.lemmas.List.{length-take-le}
use Rattle.mmdb_net.specs.Bits.{bits_of}
use Rattle.mmdb_net.proofs.BitLaws.{length-bits_of}
use Rattle.mmdb_tree.specs.Walked.{walked_by}
use Rattle.mmdb_tree.proofs.Counts.{few-along}
use Rattle.mmdb_tree.proofs.walked.Walker.stops_at_most.Goals as goal

pub returns-in-24 : goal.returns-in-24
returns-in-24 c =
    let walked = walked_by c.args.self.now in
    let bits = bits_of c.args.self.now.width c.args.address in
    let within = c.requires.within in
    let len = length-bits_of c.args.self.now.width c.args.address in
    let long = length-take-le c.args.prefix bits (omega (arith, len, within)) in
    few-along walked (walked_by c.with_size.result) (take c.args.prefix bits) c.args.prefix c.args.most c.point_along-start.result c.few_from.result c.with_size.ensures.walks long within c.point_along-start.ensures c.few_from.ensures

pub returns-in-28 : goal.returns-in-28
returns-in-28 c =
    let walked = walked_by c.args.self.now in
    let bits = bits_of c.args.self.now.width c.args.address in
    let within = c.requires.within in
    let len = length-bits_of c.args.self.now.width c.args.address in
    let long = length-take-le c.args.prefix bits (omega (arith, len, within)) in
    few-along walked (walked_by c.with_size-in-28.result) (take c.args.prefix bits) c.args.prefix c.args.most c.point_along-start.result c.few_from-in-28.result c.with_size-in-28.ensures.walks long within c.point_along-start.ensures c.few_from-in-28.ensures

pub returns-in_default : goal.returns-in_default
returns-in_default c =
    let walked = walked_by c.args.self.now in
    let bits = bits_of c.args.self.now.width c.args.address in
    let within = c.requires.within in
    let len = length-bits_of c.args.self.now.width c.args.address in
    let long = length-take-le c.args.prefix bits (omega (arith, len, within)) in
    few-along walked (walked_by c.with_size-in_default.result) (take c.args.prefix bits) c.args.prefix c.args.most c.point_along-start.result c.few_from-in_default.result c.with_size-in_default.ensures.walks long within c.point_along-start.ensures c.few_from-in_default.ensures
