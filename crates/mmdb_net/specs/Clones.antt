-- What a clone is.
use Rattle.std.specs.Prelude.{◌≡◌}

-- each clone is its source
abbrev pub IsCloneSame : {T : Type 0} → (T → T → Type 0) → Type 0
IsCloneSame {T = T} is_clone = (source clone : T) → is_clone source clone → clone ≡ source

-- no clone fails: it takes no memory
abbrev pub NeverFails : {T : Type 0} → (T → Type 0) → Type 0
NeverFails {T = T} is_infallible = (source : T) → is_infallible source
