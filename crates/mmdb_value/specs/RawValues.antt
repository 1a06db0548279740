-- A raw value as a tree with no pointers, apart from where it lies in memory.
use Rattle.std.specs.Prelude.{map}
use Rattle.mmdb_format.specs.Contents.{text, bytes, boolean, signed32, number16, number32, number64, number128, double_bits, float_bits}
use Rattle.mmdb_format.specs.Unfolding.{Tree, scalar}
use Rattle.mmdb_value.specs.AnyValue.{array_of, table_of}
use Rattle.mmdb_value.specs.declared.raw_value.RawValue.{RawValue, fold-RawValue}
use Rattle.mmdb_value.specs.declared.raw_value.RawValue.TheOpen.{RawValue-F}

-- one level, with each value inside already seen as its tree
abbrev pub tree_step : RawValue-F Tree → Tree
tree_step (RawValue-F.String x) = scalar (text x.now)
tree_step (RawValue-F.Bytes x) = scalar (bytes x.now)
tree_step (RawValue-F.Bool b) = scalar (boolean b)
tree_step (RawValue-F.I32 n) = scalar (signed32 n)
tree_step (RawValue-F.U16 n) = scalar (number16 n)
tree_step (RawValue-F.U32 n) = scalar (number32 n)
tree_step (RawValue-F.U64 n) = scalar (number64 n)
tree_step (RawValue-F.U128 n) = scalar (number128 n)
tree_step (RawValue-F.Double x) = scalar (double_bits x.bits)
tree_step (RawValue-F.Float x) = scalar (float_bits x.bits)
tree_step (RawValue-F.Array v) = array_of v.items
tree_step (RawValue-F.Map v) = table_of (map (λ x. (x.0.now, x.1)) v.items)

abbrev pub raw_tree : RawValue → Tree
raw_tree = fold-RawValue Tree tree_step
