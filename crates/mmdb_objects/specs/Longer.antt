-- A text that is an object, and gains a member.
use Rattle.std.specs.Prelude.{ℕ, ◌-◌, List, [], ◌∷◌, ◌++◌, Bool, true, false, length, take, drop}
use Rattle.json.specs.Json.{Json, Members, no_members, member}

-- a comma, where the object has a member before
abbrev pub comma_behind : Bool → List ℕ
comma_behind true = []
comma_behind false = 44 ∷ []

-- a text with bytes put in before a number of its last ones
abbrev pub put_in : List ℕ → List ℕ → ℕ → List ℕ
put_in text extra behind = take (length text - behind) text ++ (extra ++ drop (length text - behind) text)

-- members, and after them one more
abbrev pub and_last : Members → List ℕ → Json → Members
and_last no_members name value = member name value no_members
and_last (member k j rest) name value = member k j (and_last rest name value)
