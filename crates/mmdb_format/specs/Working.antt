-- What contracts of private functions and proofs name.
use Rattle.std.specs.Prelude.{ℕ, ◌+◌, ◌-◌, Option, option_map}

-- a size that one, two or three length bytes say, with the offset after them
abbrev pub with_length_end : ℕ → ℕ → Option ℕ → Option (ℕ × ℕ)
with_length_end offset low size = option_map (λ n. (n, offset + (low - 28))) size
