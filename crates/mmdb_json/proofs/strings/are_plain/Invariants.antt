use Rattle.std.proofs.Common.{◌≡◌, true, take}
use Rattle.std.specs.List.{All}
use Rattle.mmdb_json.specs.Appended.{IsPlain}
use Rattle.mmdb_json.proofs.strings.are_plain.Given as goal

abbrev pub invariant-loop-byte : goal.invariant-loop-byte
invariant-loop-byte l = l.are_plain ≡ true → All IsPlain (take l.byte-index l.text)
