use Rattle.std.proofs.Common.{◌≡◌, ◌<◌, ◌^◌, drop}
use Rattle.mmdb_format.specs.Header.{big_endian, big_endian_after}
use Rattle.mmdb_format.proofs.header.big_endian_long.Given as goal

abbrev pub invariant-loop-b : goal.invariant-loop-b
invariant-loop-b l = record {
  value : big_endian_after l.n (drop l.b-index l.bytes) ≡ big_endian l.bytes;
  bound : l.n < 256 ^ l.b-index;
}
