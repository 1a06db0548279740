-- A value as a tree with no pointers, apart from where it lies in memory.
use Rattle.std.specs.Prelude.{map}
use Rattle.mmdb_format.specs.Contents.{text, bytes, boolean, signed32, number16, number32, number64, number128, double_bits, float_bits}
use Rattle.mmdb_format.specs.Unfolding.{Tree, scalar}
use Rattle.mmdb_value.specs.AnyValue.{array_of, table_of}
use Rattle.mmdb_value.specs.declared.any_value.Value.{Value, fold-Value}
use Rattle.mmdb_value.specs.declared.any_value.Value.TheOpen.{Value-F}

-- one level, with each value inside already seen as its tree
abbrev pub tree_step : Value-F Tree → Tree
tree_step (Value-F.String x) = scalar (text x.now)
tree_step (Value-F.Bytes x) = scalar (bytes x.now)
tree_step (Value-F.Bool b) = scalar (boolean b)
tree_step (Value-F.I32 n) = scalar (signed32 n)
tree_step (Value-F.U16 n) = scalar (number16 n)
tree_step (Value-F.U32 n) = scalar (number32 n)
tree_step (Value-F.U64 n) = scalar (number64 n)
tree_step (Value-F.U128 n) = scalar (number128 n)
tree_step (Value-F.Double x) = scalar (double_bits x.bits)
tree_step (Value-F.Float x) = scalar (float_bits x.bits)
tree_step (Value-F.Array v) = array_of v.items
tree_step (Value-F.Map v) = table_of (map (λ x. (x.0.now, x.1)) v.items)

abbrev pub value_tree : Value → Tree
value_tree = fold-Value Tree tree_step
