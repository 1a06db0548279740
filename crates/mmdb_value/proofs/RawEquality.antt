-- `==` of raw values is equality of their trees.
use Rattle.std.proofs.Common.{◌≡◌, Bool, false, refl, ap, sym, subst, ◌∙◌}
use Rattle.std.proofs.lemmas.Bool.Decides.{Decides-int_eq}
use Rattle.std.proofs.Math.Bool.{beq}
use Rattle.std.specs.Bool.{Decides}
use Rattle.std.specs.Cmp.{booleans_Decides}
use Rattle.std.specs.Ordering.{int_eq}
use Rattle.std.specs.Prelude.{nat_eq}
use Rattle.mmdb_format.specs.Contents.{text, bytes, number16, number32, number64, number128, double_bits, float_bits}
use Rattle.mmdb_format.specs.Unfolding.{Tree, scalar, array, table}
use Rattle.mmdb_value.specs.contracts.raw_value.RawValue.{the_parts}
use Rattle.mmdb_value.specs.contracts.raw_value.RawValuePartialEq.TheImpl.{ghosts}
use Rattle.mmdb_value.specs.contracts.raw_value.RawValuePartialEq.TheImpl.Laws.{is}
use Rattle.mmdb_value.specs.declared.raw_value.RawValue.{RawValue, ind-RawValue, out-RawValue}
use Rattle.mmdb_value.specs.declared.raw_value.RawValue.TheBlock.{the_family, split-RawValue}
use Rattle.mmdb_value.specs.declared.raw_value.RawValue.TheFolds.{map-RawValue, fold-roll-RawValue, fold_out-RawValue}
use Rattle.mmdb_value.specs.declared.raw_value.RawValue.TheOpen.{RawValue-F}
use Rattle.mmdb_value.specs.declared.raw_value.RawValue.TheViews.{roll-RawValue, out-roll-RawValue}
use Rattle.mmdb_value.specs.RawValues.{raw_tree, tree_step}
use Rattle.mmdb_value.proofs.TreeTests.{IsDecided, Known, ◌⨾◌, same_bytes, same_double, same_float, same_elements, same_pairs, apart, texts, numbers, arrays, tables}
use denote.Enum.Compared.{Each, by}
use denote.Signature.{static_lft}

-- what `==` computes
abbrev same : RawValue → RawValue → Bool
same = ghosts.eq

-- the tests of the variants, in their order
abbrev tests : Each Bool (the_parts static_lft)
tests = same_bytes ⨾ same_bytes ⨾ beq ⨾ int_eq ⨾ nat_eq ⨾ nat_eq ⨾ nat_eq ⨾ nat_eq ⨾ same_double ⨾ same_float ⨾ same_elements same ⨾ same_pairs same ⨾ tt

-- one level of values
abbrev layer : RawValue-F RawValue → RawValue-F RawValue → Bool
layer x y = by false false (the_parts static_lft) tests (split-RawValue the_family x) (split-RawValue the_family y)

-- `==` compares one level
same_is : (a b : RawValue) → same a b ≡ layer (out-RawValue a) (out-RawValue b)
same_is a b = is a b

-- the tree of one level
abbrev seen : RawValue-F RawValue → Tree
seen x = tree_step (map-RawValue RawValue Tree raw_tree x)

-- a value of which `==` decides equality of trees
abbrev Decided : Type 0
Decided = Known same raw_tree

-- one level of such values, as values
abbrev values : RawValue-F Decided → RawValue-F RawValue
values = map-RawValue Decided RawValue (λ e. e.0)

-- one level, where the test decides the values inside
layers : (x : RawValue-F Decided) (y : RawValue-F RawValue) → Decides (layer (values x) y) (seen (values x) ≡ seen y)
layers (RawValue-F.String x) (RawValue-F.String y) = texts (λ t. scalar (text t)) (λ x y e. cc) x.now y.now
layers (RawValue-F.Bytes x) (RawValue-F.Bytes y) = texts (λ t. scalar (bytes t)) (λ x y e. cc) x.now y.now
layers (RawValue-F.Bool x) (RawValue-F.Bool y) = let h = booleans_Decides x y in (λ e. let p = h.0 e in cc, λ e. h.1 (cc))
layers (RawValue-F.I32 x) (RawValue-F.I32 y) = let h = Decides-int_eq x y in (λ e. let p = h.0 e in cc, λ e. h.1 (cc))
layers (RawValue-F.U16 x) (RawValue-F.U16 y) = numbers (λ n. scalar (number16 n)) (λ x y e. cc) x y
layers (RawValue-F.U32 x) (RawValue-F.U32 y) = numbers (λ n. scalar (number32 n)) (λ x y e. cc) x y
layers (RawValue-F.U64 x) (RawValue-F.U64 y) = numbers (λ n. scalar (number64 n)) (λ x y e. cc) x y
layers (RawValue-F.U128 x) (RawValue-F.U128 y) = numbers (λ n. scalar (number128 n)) (λ x y e. cc) x y
layers (RawValue-F.Double x) (RawValue-F.Double y) = numbers (λ n. scalar (double_bits n)) (λ x y e. cc) x.bits y.bits
layers (RawValue-F.Float x) (RawValue-F.Float y) = numbers (λ n. scalar (float_bits n)) (λ x y e. cc) x.bits y.bits
layers (RawValue-F.Array x) (RawValue-F.Array y) = let h = arrays same raw_tree x.items y.items in (λ e. ap array (h.0 e), λ e. h.1 (cc))
layers (RawValue-F.Map x) (RawValue-F.Map y) = let h = tables same raw_tree x.items y.items in (λ e. ap table (h.0 e), λ e. h.1 (cc))
layers _ _ = apart _ _ _ refl refl

-- so of a value made of them
made : (x : RawValue-F Decided) → IsDecided same raw_tree (roll-RawValue (values x))
made x b =
    let test : same (roll-RawValue (values x)) b ≡ layer (values x) (out-RawValue b) = same_is (roll-RawValue (values x)) b ∙ ap (λ y. layer y (out-RawValue b)) (out-roll-RawValue (values x)) in
    let left : raw_tree (roll-RawValue (values x)) ≡ seen (values x) = fold-roll-RawValue Tree tree_step (values x) in
    let right : raw_tree b ≡ seen (out-RawValue b) = fold_out-RawValue Tree tree_step b in
    let h = layers x (out-RawValue b) in
    (λ e. left ∙ h.0 (sym test ∙ e) ∙ sym right, λ e. test ∙ h.1 (sym left ∙ e ∙ right))

-- two raw values are equal exactly where their trees are
pub raw_values_decided : (a b : RawValue) → Decides (same a b) (raw_tree a ≡ raw_tree b)
raw_values_decided = ind-RawValue (IsDecided same raw_tree) (λ x y e. subst (λ z. IsDecided same raw_tree (roll-RawValue z)) e (made y))
