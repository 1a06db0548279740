-- Which records meet conditions on the values at paths in them.
use Rattle.std.specs.Prelude.{◌≡◌, ◌⊎◌, ℕ, ◌+◌, ◌%◌, ◌<◌, nat_eq, if◌then◌else◌, List, [], ◌∷◌, ◌++◌, length, slice_index, take, codes, Option, Some, None, Bool, true, false, not, from_bits}
use Rattle.std.specs.Borrow.{Bor}
use Rattle.std.specs.Float.{binary32, binary64}
use Rattle.std.specs.List.{Contains}
use Rattle.memchr.specs.Find.{OccursAt}
use Rattle.mmdb_format.specs.Contents.{text, signed32, number16, number32, number64, number128, double_bits, float_bits}
use Rattle.mmdb_format.specs.Unfolding.{Tree, scalar, array, table}
use Rattle.mmdb_reader.specs.declared.path.PathElement.{PathElement}
use Rattle.mmdb_json.specs.Texts.{IsCompact}
use Rattle.mmdb_layout.specs.declared.condition.Condition.{Condition}
use Rattle.mmdb_layout.specs.declared.condition.Requirement.{Requirement}
use Rattle.mmdb_layout.specs.declared.condition.Requirement.TheVariants.{OneOf, NoneOf, Part, Present, Above, Below}
use Rattle.mmdb_layout.specs.declared.number.Side.{Side}
use Rattle.mmdb_layout.specs.declared.number.Side.TheVariants as sides
use Rattle.mmdb_layout.specs.Texts.{texts_in}
use Rattle.mmdb_layout.specs.Numbers.{SaysBeyondAll, IsSameNumber, IsReadAsFloat}

-- a text is one of the texts
abbrev pub IsOneOf : List ℕ → List (List ℕ) → Type 0
IsOneOf own texts = Contains texts own

-- a Bool says exactly whether it is
abbrev pub SaysOneOf : List ℕ → List (List ℕ) → Bool → Type 0
SaysOneOf own texts true = IsOneOf own texts
SaysOneOf own texts false = ¬ IsOneOf own texts

-- A text is a number of JSON that a value is: of a double or a float one that is read as it, and of an integer that number itself,
-- with or without a fraction or an exponent. Other values are no numbers, nor are infinities and NaN.
abbrev pub IsNumberOf : Tree → List ℕ → List ℕ → Type 0
IsNumberOf (scalar (double_bits n)) json other = IsReadAsFloat binary64 (from_bits binary64 n) other
IsNumberOf (scalar (float_bits n)) json other = IsReadAsFloat binary32 (from_bits binary32 n) other
IsNumberOf (scalar (signed32 _)) json other = IsSameNumber json other
IsNumberOf (scalar (number16 _)) json other = IsSameNumber json other
IsNumberOf (scalar (number32 _)) json other = IsSameNumber json other
IsNumberOf (scalar (number64 _)) json other = IsSameNumber json other
IsNumberOf (scalar (number128 _)) json other = IsSameNumber json other
IsNumberOf _ json other = ⊥

-- one of the texts is
abbrev pub HasNumberOf : Tree → List ℕ → List (List ℕ) → Type 0
HasNumberOf v json texts = (other : List ℕ) × Contains texts other × IsNumberOf v json other

abbrev pub SaysNumberOf : Tree → List ℕ → List (List ℕ) → Bool → Type 0
SaysNumberOf v json texts true = HasNumberOf v json texts
SaysNumberOf v json texts false = ¬ HasNumberOf v json texts

-- one of the texts is the JSON of a value, or a number that it is
abbrev pub IsWrittenBy : Tree → List ℕ → List (List ℕ) → Type 0
IsWrittenBy v json texts = IsOneOf json texts ⊎ HasNumberOf v json texts

abbrev pub SaysWrittenBy : Tree → List ℕ → List (List ℕ) → Bool → Type 0
SaysWrittenBy v json texts true = IsWrittenBy v json texts
SaysWrittenBy v json texts false = ¬ IsWrittenBy v json texts

-- A Bool says whether a value is one of the texts: a text as it is, a number as a number, and any other scalar by its JSON. An
-- array or a map is none of them.
abbrev pub SaysAmong : Tree → List (List ℕ) → Bool → Type 0
SaysAmong (scalar (text own)) texts b = SaysOneOf own texts b
SaysAmong (array _) texts b = b ≡ false
SaysAmong (table _) texts b = b ≡ false
SaysAmong v texts b = (json : List ℕ) × IsCompact v json × SaysWrittenBy v json texts b

-- the text that a value is, if it is one
abbrev pub text_of : Tree → Option (List ℕ)
text_of (scalar (text own)) = Some own
text_of _ = None

-- a text is somewhere in another one
abbrev pub HasPart : List ℕ → List ℕ → Type 0
HasPart own part = (place : ℕ) × OccursAt own part place

-- one of the texts is
abbrev pub HasAnyPart : List ℕ → List (List ℕ) → Type 0
HasAnyPart own [] = ⊥
HasAnyPart own (part ∷ parts) = HasPart own part ⊎ HasAnyPart own parts

abbrev pub SaysAnyPart : List ℕ → List (List ℕ) → Bool → Type 0
SaysAnyPart own texts true = HasAnyPart own texts
SaysAnyPart own texts false = ¬ HasAnyPart own texts

-- a Bool says whether there is a text that has one of the texts in it
abbrev pub SaysPartOf : Option (List ℕ) → List (List ℕ) → Bool → Type 0
SaysPartOf None texts b = b ≡ false
SaysPartOf (Some own) texts b = SaysAnyPart own texts b

-- a Bool says so of a value
abbrev pub SaysPart : Tree → List (List ℕ) → Bool → Type 0
SaysPart v texts b = SaysPartOf (text_of v) texts b

-- A Bool says whether a value is a number on a side of each of the texts, by its JSON. A text, an array or a map is no number.
abbrev pub SaysBeyond : Side → Tree → List (List ℕ) → Bool → Type 0
SaysBeyond side (scalar (text own)) bounds b = b ≡ false
SaysBeyond side (array _) bounds b = b ≡ false
SaysBeyond side (table _) bounds b = b ≡ false
SaysBeyond side v bounds b = (json : List ℕ) × IsCompact v json × SaysBeyondAll side json bounds b

-- A Bool says whether a value is what is asked for: one of the texts, wanted or not; a text that has one of them in it; any; or a
-- number above or below each of them.
abbrev pub SaysFits : Requirement → Tree → List (List ℕ) → Bool → Type 0
SaysFits OneOf v texts b = SaysAmong v texts b
SaysFits NoneOf v texts b = SaysAmong v texts b
SaysFits Part v texts b = SaysPart v texts b
SaysFits Present v texts b = b ≡ true
SaysFits Above v texts b = SaysBeyond sides.Above v texts b
SaysFits Below v texts b = SaysBeyond sides.Below v texts b

-- a Bool says so of what was read along a path: where nothing is there, it is not
abbrev pub SaysRead : Requirement → Option Tree → List (List ℕ) → Bool → Type 0
SaysRead wanted None texts b = b ≡ false
SaysRead wanted (Some v) texts b = SaysFits wanted v texts b

-- A Bool says whether the value along a path is what is asked for, by what is read along paths.
abbrev pub SaysFoundBy : Requirement → List PathElement → List (List ℕ) → (List PathElement → Option (Option Tree)) → Bool → Type 0
SaysFoundBy wanted path texts reads b = (value : Option Tree) × (reads path ≡ Some value) × SaysRead wanted value texts b

-- how many quotes there are
abbrev pub quotes : List ℕ → ℕ
quotes [] = 0
quotes (byte ∷ bytes) = (if nat_eq byte 34 then 1 else 0) + quotes bytes

-- an equals sign is at a place outside quotes, which is after an even number of them
pub record IsSign (bytes : List ℕ) (place : ℕ) : Type 0 where
  pub within : place < length bytes
  pub sign : slice_index bytes place ≡ 61
  pub outside : quotes (take place bytes) % 2 ≡ 0

-- what comes before and after the first such sign; none where there is none
abbrev pub SplitsAtSign : List ℕ → Option (Bor (List ℕ) × Bor (List ℕ)) → Type 0
SplitsAtSign bytes None = (place : ℕ) → ¬ IsSign bytes place
SplitsAtSign bytes (Some parts) =
    (bytes ≡ parts.0.now ++ codes "=" ++ parts.1.now) × IsSign bytes (length parts.0.now)
    × ((place : ℕ) → place < length parts.0.now → ¬ IsSign bytes place)

-- what a condition says where the value is what it asks for or not
abbrev pub wants : Requirement → Bool → Bool
wants OneOf is_found = is_found
wants NoneOf is_found = not is_found
wants Part is_found = is_found
wants Present is_found = is_found
wants Above is_found = is_found
wants Below is_found = is_found

-- the texts of a condition
abbrev pub texts_of : Condition → List (List ℕ)
texts_of condition = texts_in condition.texts

-- a Bool says whether a condition is met, by what is read along paths
abbrev pub SaysMetBy : Condition → (List PathElement → Option (Option Tree)) → Bool → Type 0
SaysMetBy condition reads b =
    (is_found : Bool) × SaysFoundBy condition.wanted condition.path.items (texts_of condition) reads is_found
    × (b ≡ wants condition.wanted is_found)

-- A Bool says whether all conditions are met: true, or false where one is not met and those before it are.
abbrev pub SaysAllMetBy : List Condition → (List PathElement → Option (Option Tree)) → Bool → Type 0
SaysAllMetBy [] reads b = b ≡ true
SaysAllMetBy (condition ∷ conditions) reads b =
    (SaysMetBy condition reads false × (b ≡ false)) ⊎ (SaysMetBy condition reads true × SaysAllMetBy conditions reads b)

-- what a condition is on can't be read
abbrev pub IsUnreadBy : Condition → (List PathElement → Option (Option Tree)) → Type 0
IsUnreadBy condition reads = reads condition.path.items ≡ None

-- what a condition is on can't be read, and those before it are met
abbrev pub HasUnreadBy : List Condition → (List PathElement → Option (Option Tree)) → Type 0
HasUnreadBy [] reads = ⊥
HasUnreadBy (condition ∷ conditions) reads =
    IsUnreadBy condition reads ⊎ (SaysMetBy condition reads true × HasUnreadBy conditions reads)
