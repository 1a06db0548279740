-- What `==` tells of two values, and what a clone is.
use Rattle.std.specs.Prelude.{◌≡◌, ◌↔◌, Bool, IsTrue}

-- two values are equal exactly where they are the same one
abbrev pub IsEquality : {T : Type 0} → (T → T → Bool) → Type 0
IsEquality {T = T} eq = (a b : T) → IsTrue (eq a b) ↔ (a ≡ b)

-- each clone is its source
abbrev pub IsCloneSame : {T : Type 0} → (T → T → Type 0) → Type 0
IsCloneSame {T = T} is_clone = (source clone : T) → is_clone source clone → clone ≡ source

-- no clone fails: it takes no memory
abbrev pub NeverFails : {T : Type 0} → (T → Type 0) → Type 0
NeverFails {T = T} is_infallible = (source : T) → is_infallible source
