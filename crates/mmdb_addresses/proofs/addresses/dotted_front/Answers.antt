use Rattle.std.proofs.Common.{rules}
use Rattle.mmdb_addresses.proofs.DottedLaws.{dotted_is}
use Rattle.mmdb_addresses.proofs.addresses.dotted_front.Goals as goal

pub returns-clause-spelled : goal.returns-clause-spelled
returns-clause-spelled c = record {
  a = c.in_ok-a.a.value;
  b = c.in_ok-b.b.value;
  c = c.in_ok-c.c.value;
  d = c.in_ok-d.d.value;
  fit = (c.in_ok-a.ensures.fits, c.in_ok-b.ensures.fits, c.in_ok-c.ensures.fits, c.in_ok-d.ensures.fits);
  value = search rules;
  spelled = dotted_is c.args.text.now c.in_ok-a.a.end c.in_ok-b.b.end c.in_ok-c.c.end c.in_ok-d.d.end c.in_ok-a.a.value c.in_ok-b.b.value c.in_ok-c.c.value c.in_ok-d.d.value c.in_ok-a.ensures c.in_ok-b.ensures c.in_ok-c.ensures c.in_ok-d.ensures;
}
