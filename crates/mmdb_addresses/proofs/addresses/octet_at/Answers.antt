use Rattle.std.proofs.Common.{◌<◌, refl, arith}
use Rattle.mmdb_addresses.proofs.OctetLaws.{octet_of_one, octet_of_two, octet_of_three}
use Rattle.mmdb_addresses.proofs.addresses.octet_at.Goals as goal

pub returns-then-second-ge10 : goal.returns-then-second-ge10
returns-then-second-ge10 c =
    let few : c.digit_at-first.result < 10 = omega arith in
    octet_of_one c.args.text.now c.args.from c.digit_at-first.result (c.digit_at-first.ensures.within few) few (c.digit_at-first.ensures.digit few)

pub returns-then-third-ge10 : goal.returns-then-third-ge10
returns-then-third-ge10 c =
    let few : c.digit_at-first.result < 10 = omega arith in
    let less : c.digit_at-second.result < 10 = omega arith in
    octet_of_two c.args.text.now c.args.from c.digit_at-first.result c.digit_at-second.result _ (c.digit_at-second.ensures.within less) (omega arith) few less (c.digit_at-first.ensures.digit few) (c.digit_at-second.ensures.digit less) refl

pub returns : goal.returns
returns c =
    let few : c.digit_at-first.result < 10 = omega arith in
    let less : c.digit_at-second.result < 10 = omega arith in
    let least : c.digit_at-third.result < 10 = omega arith in
    octet_of_three c.args.text.now c.args.from c.digit_at-first.result c.digit_at-second.result c.digit_at-third.result _ (c.digit_at-third.ensures.within least) (omega arith) few less least (c.digit_at-first.ensures.digit few) (c.digit_at-second.ensures.digit less)
    (c.digit_at-third.ensures.digit least) refl (omega arith)
