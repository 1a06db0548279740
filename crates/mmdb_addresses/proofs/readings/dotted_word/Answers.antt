use Rattle.std.proofs.Common.{◌<◌, length, rules, arith}
use Rattle.mmdb_addresses.proofs.DottedLaws.{first_is}
use Rattle.mmdb_addresses.proofs.readings.dotted_word.Goals as goal
use Rattle.mmdb_addresses.proofs.readings.dotted_word.Goals.{else-front-text-via-then-front-text+else-not-ends_word, else-front-text-via-else-front-text}

pub returns : goal.returns
returns c =
    first_is c.args.text.now c.in_ok-front.front.end c.in_ok-front.front.address c.in_ok-front.ensures.within c.in_ok-front.ensures.spelled
    (λ (l : c.in_ok-front.front.end < length c.args.text.now). elim c.else-front-text.branch [ else-front-text-via-then-front-text+else-not-ends_word w ↦ search rules | else-front-text-via-else-front-text w ↦ absurd (omega arith) ])
