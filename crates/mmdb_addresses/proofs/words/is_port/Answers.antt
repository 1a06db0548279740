use Rattle.std.proofs.Common.{◌+◌, below_more, refl, rules, arith}
use Rattle.mmdb_addresses.proofs.PortLaws.{value_more, is_port_of, other_digit, too_much}
use Rattle.mmdb_addresses.proofs.words.is_port.Goals as goal
use Rattle.mmdb_addresses.proofs.words.is_port.Goals.{then-digit-lt48-via-then-digit-lt48, then-digit-lt48-via-else-digit-lt48+then-digit-gt57}

pub returns-then-digit-lt48 : goal.returns-then-digit-lt48
returns-then-digit-lt48 c =
    ((λ never. cc), λ port. absurd (other_digit c.args.digits.now c.loop-digit.digit-index (omega arith) (λ h. elim c.then-digit-lt48.branch [ then-digit-lt48-via-then-digit-lt48 w ↦ omega arith | then-digit-lt48-via-else-digit-lt48+then-digit-gt57 w ↦ omega arith ]) port))

pub returns-then-port-gt65535 : goal.returns-then-port-gt65535
returns-then-port-gt65535 c =
    let more = value_more c.args.digits.now c.loop-digit.digit-index c.loop-digit.port c.from.result (omega arith) (omega arith) (omega arith) c.loop-digit.invariant.value (omega arith) in
    ((λ never. cc), λ port. absurd (too_much c.args.digits.now (c.loop-digit.digit-index + 1) _ more (omega arith) port))

pub loop-digit-preserved : goal.loop-digit-preserved
loop-digit-preserved c = record {
  value = value_more c.args.digits.now c.loop-digit.digit-index c.loop-digit.port c.from.result (omega arith) (omega arith) (omega arith) c.loop-digit.invariant.value (omega arith);
  fits = omega arith;
  digits = below_more _ _ c.loop-digit.invariant.digits (omega arith, omega arith);
}

pub returns : goal.returns
returns c =
    ((λ _. is_port_of c.args.digits.now c.loop-digit.port (search rules) (omega arith) (search rules) c.loop-digit.invariant.fits (λ k l. c.loop-digit.invariant.digits k (omega arith))), λ _. refl)
