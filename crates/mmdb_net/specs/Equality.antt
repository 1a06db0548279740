-- What equality is.
use Rattle.std.specs.Prelude.{◌≡◌, ◌↔◌, ℕ, Bool, IsTrue}

-- networks are equal exactly where their addresses, as they were given, and their prefixes are
abbrev pub EqualWhereSame : {N A : Type 0} → (N → A) → (N → ℕ) → (N → N → Bool) → Type 0
EqualWhereSame {N = N} address prefix eq =
    (a b : N) → IsTrue (eq a b) ↔ ((address a ≡ address b) × (prefix a ≡ prefix b))

-- values are equal exactly where they are the same one
abbrev pub EqualWhereIdentical : {T : Type 0} → (T → T → Bool) → Type 0
EqualWhereIdentical {T = T} eq = (a b : T) → IsTrue (eq a b) ↔ (a ≡ b)
