-- What a draft grows by, and what that is charged.
use Rattle.std.specs.Prelude.{◌≡◌, ◌≤◌, ◌⊎◌, ℕ, ◌+◌, List, [], ◌∷◌, ◌++◌, length, Bool, true, cond}
use Rattle.std.specs.Str.{IsUtf8, is_utf8}
use Rattle.json.specs.Json.{Json}
use Rattle.json.specs.Tree.{json_tokens, HasNumbers}
use Rattle.json.specs.Print.{print, quoted}
use Rattle.mmdb_format.specs.Contents.{Scalar, text, scalar_is_text}
use Rattle.mmdb_format.specs.Unfolding.{Tree, scalar, pointer, Unfolds, is_keyed, has_texts, value_count, payload, levels_without_key_pointers}
use Rattle.mmdb_json.specs.Shown.{Shows, ShowsScalar}
use Rattle.mmdb_json.specs.declared.budget.Budget.{Budget}
use Rattle.mmdb_json.specs.declared.kept.KeptText.{KeptText}
use Rattle.mmdb_json.specs.Drafts.{Drafted, Grows}

-- a byte that is not escaped in a string
abbrev pub IsPlain : ℕ → Type 0
IsPlain x = (32 ≤ x) × (x ≡ 34 → ⊥) × (x ≡ 92 → ⊥)

-- bytes are the text of JSON, which can be written after other JSON
pub record IsTextOf (j : Json) (bytes : List ℕ) : Type 0 where
  pub is : bytes ≡ print (json_tokens j)
  pub numbers : HasNumbers j
  pub utf8 : IsUtf8 bytes

-- a draft grows by the text of JSON that shows a scalar
pub record AppendsScalar (c : Scalar) (old new : Drafted) : Type 0 where
  pub json : Json
  pub bytes : List ℕ
  pub shows : ShowsScalar c json
  pub text : IsTextOf json bytes
  pub is_text : scalar_is_text c ≡ true
  pub grown : Grows old new bytes

-- that number of bytes is charged, and nothing else
pub record ChargesBytes (before after : Budget) (bytes : ℕ) : Type 0 where
  pub bytes_left : after.bytes + bytes ≡ before.bytes
  pub values_left : after.values ≡ before.values
  pub levels_left : after.levels ≡ before.levels

-- what is kept is charged, of which no more levels are left than without it
pub record ChargesKept (kept : KeptText) (levels : ℕ) (before after : Budget) : Type 0 where
  pub deep : kept.levels + after.levels ≤ levels
  pub fewer : after.levels ≤ before.levels
  pub values_left : after.values + kept.values ≡ before.values
  pub bytes_left : after.bytes + kept.bytes ≡ before.bytes

-- bytes are the text of JSON that shows what unfolds at an offset, with keys and texts as a reading wants them
pub record IsTextAt (s : List ℕ) (offset end : ℕ) (bytes : List ℕ) : Type 0 where
  pub tree : Tree
  pub json : Json
  pub unfolds : Unfolds s offset tree end
  pub keyed : is_keyed tree ≡ true
  pub texts : has_texts tree ≡ true
  pub shows : Shows tree json
  pub text : IsTextOf json bytes

-- a key: a text, directly or through one pointer
abbrev pub IsKeyOf : List ℕ → Tree → Type 0
IsKeyOf x tree = (tree ≡ scalar (text x)) ⊎ ((to : ℕ) × (tree ≡ pointer to (scalar (text x))))

-- bytes are the name of a member that a key at an offset gives, with its colon
pub record IsNameAt (s : List ℕ) (offset end : ℕ) (bytes : List ℕ) : Type 0 where
  pub key : List ℕ
  pub tree : Tree
  pub unfolds : Unfolds s offset tree end
  pub is_key : IsKeyOf key tree
  pub utf8 : is_utf8 key ≡ true
  pub is : bytes ≡ quoted key ++ 58 ∷ []

-- the same of the text that is a key
pub record IsOwnNameAt (s : List ℕ) (offset end : ℕ) (bytes : List ℕ) : Type 0 where
  pub key : List ℕ
  pub unfolds : Unfolds s offset (scalar (text key)) end
  pub utf8 : is_utf8 key ≡ true
  pub is : bytes ≡ quoted key ++ 58 ∷ []

-- what a tree costs, with a number of levels for it: the values after the first, the bytes, and the fewest levels left
pub record Costs (levels : ℕ) (before after : Budget) (tree : Tree) : Type 0 where
  pub values : after.values + value_count tree ≡ before.values + 1
  pub bytes : after.bytes + payload tree ≡ before.bytes
  pub deep : levels_without_key_pointers tree + after.levels ≤ levels
  pub fewer : after.levels ≤ before.levels

-- a draft grows by such a text or name
pub record AppendsText (s : List ℕ) (offset end levels : ℕ) (before after : Budget) (old new : Drafted) : Type 0 where
  pub bytes : List ℕ
  pub at : IsTextAt s offset end bytes
  pub costs : Costs levels before after at.tree
  pub grown : Grows old new bytes

pub record AppendsName (s : List ℕ) (offset end : ℕ) (before after : Budget) (old new : Drafted) : Type 0 where
  pub bytes : List ℕ
  pub at : IsNameAt s offset end bytes
  pub charges : ChargesBytes before after (length at.key)
  pub grown : Grows old new bytes

pub record AppendsOwnName (s : List ℕ) (offset end : ℕ) (before after : Budget) (old new : Drafted) : Type 0 where
  pub bytes : List ℕ
  pub at : IsOwnNameAt s offset end bytes
  pub charges : ChargesBytes before after (length at.key)
  pub grown : Grows old new bytes

-- the comma after a value
abbrev pub comma_if : Bool → List ℕ
comma_if after_value = cond after_value (44 ∷ []) []

-- a draft grows by an item, or by a member, with the comma after a value before it
pub record AppendsItem (s : List ℕ) (offset end levels : ℕ) (after_value : Bool) (before after : Budget) (old new : Drafted) : Type 0 where
  pub bytes : List ℕ
  pub at : IsTextAt s offset end bytes
  pub costs : Costs levels before after at.tree
  pub grown : Grows old new (comma_if after_value ++ bytes)

pub record AppendsMember (s : List ℕ) (offset end levels : ℕ) (after_value : Bool) (before after : Budget) (old new : Drafted) : Type 0 where
  pub name : List ℕ
  pub bytes : List ℕ
  pub value : ℕ
  pub between : Budget
  pub name_at : IsNameAt s offset value name
  pub charges : ChargesBytes before between (length name_at.key)
  pub at : IsTextAt s value end bytes
  pub costs : Costs levels between after at.tree
  pub grown : Grows old new (comma_if after_value ++ (name ++ bytes))
