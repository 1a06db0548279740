use Rattle.std.proofs.Common.{◌≡◌, ◌<◌, ◌≤◌, ℕ, get_or, take}
use Rattle.std.specs.Str.Parse.{digits_value}
use Rattle.mmdb_addresses.proofs.words.is_port.Given as goal

abbrev pub invariant-loop-digit : goal.invariant-loop-digit
invariant-loop-digit l = record {
  value : l.port ≡ digits_value 10 (take l.digit-index l.digits);
  fits : l.port ≤ 65535;
  digits : (k : ℕ) → k < l.digit-index → (48 ≤ get_or l.digits k 0) × (get_or l.digits k 0 ≤ 57);
}
