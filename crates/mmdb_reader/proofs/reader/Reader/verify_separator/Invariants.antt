use Rattle.std.proofs.Common.{◌≡◌, ℕ, ◌<◌, slice_index}
use Rattle.mmdb_reader.proofs.reader.Reader.verify_separator.Given as goal

-- the bytes so far are zero
abbrev pub invariant-loop-byte : goal.invariant-loop-byte
invariant-loop-byte g l = (j : ℕ) → j < l.byte-index → slice_index l.byte-items j ≡ 0
