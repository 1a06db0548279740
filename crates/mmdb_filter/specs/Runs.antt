-- Bytes that are one of two.
use Rattle.std.specs.Prelude.{ℕ, Bool, not, ◌||◌, ◌==◌}

abbrev pub is_either : ℕ → ℕ → ℕ → Bool
is_either first second x = (x == first) || (x == second)

abbrev pub is_neither : ℕ → ℕ → ℕ → Bool
is_neither first second x = not (is_either first second x)
