use Rattle.std.proofs.Common.{◌≤◌, ◌-◌, length, take}
use Rattle.std.specs.Str.{IsUtf8}
use Rattle.mmdb_format.proofs.utf8.is_short_chars.Given as goal

-- what was looked at is text
abbrev pub invariant-loop-at : goal.invariant-loop-at
invariant-loop-at l = record {
  fits : l.at ≤ length l.fn.bytes;
  text : IsUtf8 (take l.at l.fn.bytes);
}

abbrev pub decreases-loop-at : goal.decreases-loop-at
decreases-loop-at l = length l.fn.bytes - l.at
