-- `==` of values is equality of their trees.
use Rattle.std.proofs.Common.{◌≡◌, Bool, false, refl, ap, sym, subst, ◌∙◌}
use Rattle.std.proofs.lemmas.Bool.Decides.{Decides-int_eq}
use Rattle.std.proofs.Math.Bool.{beq}
use Rattle.std.specs.Bool.{Decides}
use Rattle.std.specs.Cmp.{booleans_Decides}
use Rattle.std.specs.Ordering.{int_eq}
use Rattle.std.specs.Prelude.{nat_eq}
use Rattle.mmdb_format.specs.Contents.{text, bytes, number16, number32, number64, number128, double_bits, float_bits}
use Rattle.mmdb_format.specs.Unfolding.{Tree, scalar, array, table}
use Rattle.mmdb_value.specs.contracts.any_value.Value.{the_parts}
use Rattle.mmdb_value.specs.contracts.any_value.ValuePartialEq.TheImpl.{ghosts}
use Rattle.mmdb_value.specs.contracts.any_value.ValuePartialEq.TheImpl.Laws.{is}
use Rattle.mmdb_value.specs.declared.any_value.Value.{Value, ind-Value, out-Value}
use Rattle.mmdb_value.specs.declared.any_value.Value.TheBlock.{the_family, split-Value}
use Rattle.mmdb_value.specs.declared.any_value.Value.TheFolds.{map-Value, fold-roll-Value, fold_out-Value}
use Rattle.mmdb_value.specs.declared.any_value.Value.TheOpen.{Value-F}
use Rattle.mmdb_value.specs.declared.any_value.Value.TheViews.{roll-Value, out-roll-Value}
use Rattle.mmdb_value.specs.Values.{value_tree, tree_step}
use Rattle.mmdb_value.proofs.TreeTests.{IsDecided, Known, ◌⨾◌, same_bytes, same_double, same_float, same_elements, same_pairs, apart, texts, numbers, arrays, tables}
use denote.Enum.Compared.{Each, by}
use denote.Signature.{static_lft}

-- what `==` computes
abbrev same : Value → Value → Bool
same = ghosts.eq

-- the tests of the variants, in their order
abbrev tests : Each Bool (the_parts static_lft)
tests = same_bytes ⨾ same_bytes ⨾ beq ⨾ int_eq ⨾ nat_eq ⨾ nat_eq ⨾ nat_eq ⨾ nat_eq ⨾ same_double ⨾ same_float ⨾ same_elements same ⨾ same_pairs same ⨾ tt

-- one level of values
abbrev layer : Value-F Value → Value-F Value → Bool
layer x y = by false false (the_parts static_lft) tests (split-Value the_family x) (split-Value the_family y)

-- `==` compares one level
same_is : (a b : Value) → same a b ≡ layer (out-Value a) (out-Value b)
same_is a b = is a b

-- the tree of one level
abbrev seen : Value-F Value → Tree
seen x = tree_step (map-Value Value Tree value_tree x)

-- a value of which `==` decides equality of trees
abbrev Decided : Type 0
Decided = Known same value_tree

-- one level of such values, as values
abbrev values : Value-F Decided → Value-F Value
values = map-Value Decided Value (λ e. e.0)

-- one level, where the test decides the values inside
layers : (x : Value-F Decided) (y : Value-F Value) → Decides (layer (values x) y) (seen (values x) ≡ seen y)
layers (Value-F.String x) (Value-F.String y) = texts (λ t. scalar (text t)) (λ x y e. cc) x.now y.now
layers (Value-F.Bytes x) (Value-F.Bytes y) = texts (λ t. scalar (bytes t)) (λ x y e. cc) x.now y.now
layers (Value-F.Bool x) (Value-F.Bool y) = let h = booleans_Decides x y in (λ e. let p = h.0 e in cc, λ e. h.1 (cc))
layers (Value-F.I32 x) (Value-F.I32 y) = let h = Decides-int_eq x y in (λ e. let p = h.0 e in cc, λ e. h.1 (cc))
layers (Value-F.U16 x) (Value-F.U16 y) = numbers (λ n. scalar (number16 n)) (λ x y e. cc) x y
layers (Value-F.U32 x) (Value-F.U32 y) = numbers (λ n. scalar (number32 n)) (λ x y e. cc) x y
layers (Value-F.U64 x) (Value-F.U64 y) = numbers (λ n. scalar (number64 n)) (λ x y e. cc) x y
layers (Value-F.U128 x) (Value-F.U128 y) = numbers (λ n. scalar (number128 n)) (λ x y e. cc) x y
layers (Value-F.Double x) (Value-F.Double y) = numbers (λ n. scalar (double_bits n)) (λ x y e. cc) x.bits y.bits
layers (Value-F.Float x) (Value-F.Float y) = numbers (λ n. scalar (float_bits n)) (λ x y e. cc) x.bits y.bits
layers (Value-F.Array x) (Value-F.Array y) = let h = arrays same value_tree x.items y.items in (λ e. ap array (h.0 e), λ e. h.1 (cc))
layers (Value-F.Map x) (Value-F.Map y) = let h = tables same value_tree x.items y.items in (λ e. ap table (h.0 e), λ e. h.1 (cc))
layers _ _ = apart _ _ _ refl refl

-- so of a value made of them
made : (x : Value-F Decided) → IsDecided same value_tree (roll-Value (values x))
made x b =
    let test : same (roll-Value (values x)) b ≡ layer (values x) (out-Value b) = same_is (roll-Value (values x)) b ∙ ap (λ y. layer y (out-Value b)) (out-roll-Value (values x)) in
    let left : value_tree (roll-Value (values x)) ≡ seen (values x) = fold-roll-Value Tree tree_step (values x) in
    let right : value_tree b ≡ seen (out-Value b) = fold_out-Value Tree tree_step b in
    let h = layers x (out-Value b) in
    (λ e. left ∙ h.0 (sym test ∙ e) ∙ sym right, λ e. test ∙ h.1 (sym left ∙ e ∙ right))

-- two values are equal exactly where their trees are
pub values_decided : (a b : Value) → Decides (same a b) (value_tree a ≡ value_tree b)
values_decided = ind-Value (IsDecided same value_tree) (λ x y e. subst (λ z. IsDecided same value_tree (roll-Value z)) e (made y))
