-- The text of a path.
use Rattle.std.specs.Prelude.{ℕ, ◌+◌, List, ◌++◌, codes, decimal}
use Rattle.std.specs.List.{flat_map}
use Rattle.mmdb_reader.specs.declared.path.PathElement.{PathElement}
use Rattle.mmdb_reader.specs.declared.path.PathElement.TheVariants.{Key, Index, IndexFromEnd}

-- `/` and the key, the index, or `-` and one more than the index from the end
abbrev pub step_text : PathElement → List ℕ
step_text (Key key) = codes "/" ++ key.now
step_text (Index i) = codes "/" ++ decimal i
step_text (IndexFromEnd i) = codes "/-" ++ decimal (i + 1)

-- the steps, one after another
unfoldable pub path_text : List PathElement → List ℕ
path_text path = flat_map step_text path
