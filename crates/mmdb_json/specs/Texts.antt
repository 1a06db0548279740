-- The text of a tree.
use Rattle.std.specs.Prelude.{◌≡◌, ◌≤◌, ℕ, List, Some}
use Rattle.std.specs.Str.{IsUtf8}
use Rattle.json.specs.Json.{Json, max_depth, document}
use Rattle.json.specs.Lex.{tokens}
use Rattle.json.specs.Print.{print}
use Rattle.json.specs.Layout.{pretty}
use Rattle.json.specs.Tree.{json_tokens, depth}
use Rattle.mmdb_format.specs.Unfolding.{Tree}
use Rattle.mmdb_json.specs.Shown.{Shows}

-- The text is of JSON that shows the tree. A reader gets its tokens, however deep it nests, and that JSON where
-- it nests no deeper than the reader goes.
pub record IsCompact (t : Tree) (text : List ℕ) : Type 0 where
  pub shown : Json
  pub shows : Shows t shown
  pub text_is : text ≡ print (json_tokens shown)
  pub tokens_are : tokens text ≡ json_tokens shown
  pub reads_back : depth shown ≤ max_depth → document text ≡ Some shown
  pub utf8 : IsUtf8 text

-- the same, laid out in lines
pub record IsPretty (t : Tree) (text : List ℕ) : Type 0 where
  pub shown : Json
  pub shows : Shows t shown
  pub text_is : text ≡ pretty (json_tokens shown)
  pub tokens_are : tokens text ≡ json_tokens shown
  pub reads_back : depth shown ≤ max_depth → document text ≡ Some shown
  pub utf8 : IsUtf8 text
