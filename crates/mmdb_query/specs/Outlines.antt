-- What a condition reads at the end of a path ("Data Field Format" of the MaxMind DB File Format Specification 2.0): a value, but
-- of a map or an array no more than its header (as in mmdb_layout).
use Rattle.std.specs.Prelude.{Option, Some, true}
use Rattle.mmdb_format.specs.Unfolding.{Tree, array, table, no_trees, no_pairs}
use Rattle.mmdb_format.specs.declared.kind.Kind.{Kind}
use Rattle.mmdb_format.specs.declared.kind.Kind.TheVariants.{Map, Array}
use Rattle.mmdb_decode.specs.Peeking.{kind_at}
use Rattle.mmdb_decode.specs.Reading.{Meaning, given}
use Rattle.mmdb_value.specs.AnyValue.{value_at}
use Rattle.mmdb_value.specs.Values.{value_tree}
use Rattle.mmdb_query.specs.declared.outline.Outline.{Outline}

-- A value by its type: in place of a map or an array an empty one, and nothing more is read.
abbrev pub outline_of : Option Kind → Meaning Tree
outline_of (Some Map) = given (table no_pairs)
outline_of (Some Array) = given (array no_trees)
outline_of _ = value_at true

-- a value by the type that its header says, directly or through one pointer
abbrev pub outline_at : Meaning Tree
outline_at s p = outline_of (kind_at s p) s p

-- the tree of what is given
abbrev pub outline_tree : Outline → Tree
outline_tree outline = value_tree outline.value
