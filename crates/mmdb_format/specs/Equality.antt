-- What `==` of two values says.
use Rattle.std.specs.Prelude.{◌≡◌, ◌↔◌, Bool, IsTrue}

-- two values are equal exactly where what they say is
abbrev pub IsEqualityOf : {X A : Type 0} → (X → X → Bool) → (X → A) → Type 0
IsEqualityOf {X = X} eq says = (a b : X) → IsTrue (eq a b) ↔ (says a ≡ says b)
