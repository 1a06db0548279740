-- What is the same in two sections.
use Rattle.std.proofs.Common.{◌≡◌, ◌≤◌, ◌+◌, ℕ, suc, List, length, Option, Some, None, true, refl, sym, ap, subst, arith, ◌∙◌}
use Rattle.std.specs.Str.{is_utf8}
use Rattle.std.specs.Option.{is_some, unwrap_or}
use Rattle.mmdb_format.specs.declared.header.Direct.{Direct}
use Rattle.mmdb_format.specs.Pointer.{direct_at}
use Rattle.mmdb_format.specs.Contents.{Scalar, text, key_bytes_at, content_at, content_end, end_of, scalar_payload, scalar_is_text}
use Rattle.mmdb_format.specs.Unfolding.{Tree, scalar, array, table, Trees, no_trees, tree, Pairs, no_pairs, pair, scalar_here, array_here, table_here, AllUnfold, none_left, one_more, PairsUnfold, no_pairs_left, one_more_pair}
use Rattle.mmdb_value.proofs.Grammar.{both}
use Rattle.mmdb_compare.specs.declared.place.PairPosition.{PairPosition}
use Rattle.mmdb_compare.specs.Same.{Sections, HaveSameValue}
use Rattle.mmdb_compare.specs.SideBySide.{Measure, IsValue, IsKey, AreValues, ArePairs, IsSame, IsSameKey, AreSameElements, AreSamePairs}
use Rattle.mmdb_compare.proofs.Placing.{value_behind, key_stands}

-- ---- scalars

pub scalar_stands : (s : List ℕ) (p depth : ℕ) (x : Direct) (c : Scalar) → direct_at s p 0 ≡ Some x → content_at s x.header ≡ Some c → scalar_is_text c ≡ true → IsValue s p (end_of x (content_end x.header)) (scalar c) (record { count = 1; bytes = scalar_payload c }) depth
scalar_stands s p depth x c found is utf8 = value_behind s p (content_end x.header) depth x (scalar c) _ (scalar c) found (λ here h. scalar_here h is) refl utf8 (omega arith) refl refl refl

pub scalar_same : (s : Sections) (before after : PairPosition) (depth : ℕ) (old new : Direct) (c : Scalar) → direct_at s.in_old before.in_old 0 ≡ Some old → direct_at s.in_new before.in_new 0 ≡ Some new → content_at s.in_old old.header ≡ Some c → content_at s.in_new new.header ≡ Some c → scalar_is_text c ≡ true → after.in_old ≡ end_of old (content_end old.header) → after.in_new ≡ end_of new (content_end new.header) → after.left + (32 + scalar_payload c) ≡ before.left → IsSame s before after depth
scalar_same s before after depth old new c in_old in_new is_old is_new utf8 to_old to_new left = record {
  value = scalar c;
  measure = record { count = 1; bytes = scalar_payload c };
  in_old = rw to_old (scalar_stands s.in_old before.in_old depth old c in_old is_old utf8);
  in_new = rw to_new (scalar_stands s.in_new before.in_new depth new c in_new is_new utf8);
  paid = omega (arith, left);
}

-- ---- keys

pub key_same : (s : Sections) (before after : PairPosition) (x y : List ℕ) → key_bytes_at s.in_old before.in_old ≡ Some (x, after.in_old) → key_bytes_at s.in_new before.in_new ≡ Some (y, after.in_new) → x ≡ y → is_utf8 x ≡ true → after.left + (32 + length x) ≡ before.left → IsSameKey s before after
key_same s before after x y of_old of_new same utf8 left = record {
  key = x;
  measure = record { count = 1; bytes = length x };
  in_old = key_stands s.in_old before.in_old after.in_old x of_old utf8;
  in_new = key_stands s.in_new before.in_new after.in_new x (of_new ∙ ap (λ z. Some (z, after.in_new)) (sym same)) utf8;
  paid = omega (arith, left);
}

-- ---- pairs

no_more_pairs : (s : List ℕ) (p depth : ℕ) → ArePairs s p 0 p no_pairs (record { count = 0; bytes = 0 }) depth
no_more_pairs s p depth = record { pairs = no_pairs; unfolds = no_pairs_left; keyed = refl; texts = refl; levels = omega arith; values = refl; count = refl; bytes = refl }

pair_more : (s : List ℕ) (p q r e n depth : ℕ) (key : List ℕ) (value : Tree) (values : Pairs) (k m rest : Measure) → IsKey s p q key k → IsValue s q r value m depth → ArePairs s r n e values rest depth → ArePairs s p (suc n) e (pair (scalar (text key)) value values) (record { count = k.count + (m.count + rest.count); bytes = k.bytes + (m.bytes + rest.bytes) }) depth
pair_more s p q r e n depth key value values k m rest a b c = record {
  pairs = pair a.tree b.tree c.pairs;
  unfolds = one_more_pair a.unfolds b.unfolds c.unfolds;
  keyed = both _ _ a.key (both _ _ b.keyed c.keyed);
  texts = both _ _ a.texts (both _ _ b.texts c.texts);
  levels = omega (arith, a.levels, b.levels, c.levels);
  values = rw (a.value, b.value, c.values) refl;
  count = rw (a.count, b.count, c.count) refl;
  bytes = rw (a.bytes, b.bytes, c.bytes) refl;
}

-- whatever pairs are the same after this place, all of them are
abbrev pub PairsGoOn : Sections → PairPosition → PairPosition → ℕ → ℕ → ℕ → Type 0
PairsGoOn s before now n left depth = (after : PairPosition) → AreSamePairs s now after left depth → AreSamePairs s before after n depth

pub pairs_begin : (s : Sections) (now : PairPosition) (n left depth : ℕ) → left ≡ n → PairsGoOn s now now n left depth
pairs_begin s now n left depth all after rest = rw all at rest

same_pair_more : (s : Sections) (now mid next after : PairPosition) (n depth : ℕ) → IsSameKey s now mid → IsSame s mid next depth → AreSamePairs s next after n depth → AreSamePairs s now after (suc n) depth
same_pair_more s now mid next after n depth k v rest = record {
  values = pair (scalar (text k.key)) v.value rest.values;
  measure = _;
  in_old = pair_more s.in_old now.in_old mid.in_old next.in_old after.in_old n depth k.key v.value rest.values k.measure v.measure rest.measure k.in_old v.in_old rest.in_old;
  in_new = pair_more s.in_new now.in_new mid.in_new next.in_new after.in_new n depth k.key v.value rest.values k.measure v.measure rest.measure k.in_new v.in_new rest.in_new;
  paid = let a = k.paid in let b = v.paid in let c = rest.paid in omega (arith, a, b, c);
}

pub pairs_go_on : (s : Sections) (before now mid next : PairPosition) (n left m depth : ℕ) → PairsGoOn s before now n left depth → left ≡ suc m → IsSameKey s now mid → IsSame s mid next depth → PairsGoOn s before next n m depth
pairs_go_on s before now mid next n left m depth on more key value after rest =
    on after (subst (λ l. AreSamePairs s now after l depth) (sym more) (same_pair_more s now mid next after m depth key value rest))

pub pairs_end : (s : Sections) (before now : PairPosition) (n left depth : ℕ) → PairsGoOn s before now n left depth → left ≡ 0 → AreSamePairs s before now n depth
pairs_end s before now n left depth on none = on now (subst (λ l. AreSamePairs s now now l depth) (sym none) (record {
  values = no_pairs;
  measure = record { count = 0; bytes = 0 };
  in_old = no_more_pairs s.in_old now.in_old depth;
  in_new = no_more_pairs s.in_new now.in_new depth;
  paid = omega arith;
}))

-- ---- elements

no_more_values : (s : List ℕ) (p depth : ℕ) → AreValues s p 0 p no_trees (record { count = 0; bytes = 0 }) depth
no_more_values s p depth = record { trees = no_trees; unfolds = none_left; keyed = refl; texts = refl; levels = omega arith; values = refl; count = refl; bytes = refl }

value_more : (s : List ℕ) (p q e n depth : ℕ) (value : Tree) (values : Trees) (m rest : Measure) → IsValue s p q value m depth → AreValues s q n e values rest depth → AreValues s p (suc n) e (tree value values) (record { count = m.count + rest.count; bytes = m.bytes + rest.bytes }) depth
value_more s p q e n depth value values m rest a b = record {
  trees = tree a.tree b.trees;
  unfolds = one_more a.unfolds b.unfolds;
  keyed = both _ _ a.keyed b.keyed;
  texts = both _ _ a.texts b.texts;
  levels = omega (arith, a.levels, b.levels);
  values = rw (a.value, b.values) refl;
  count = rw (a.count, b.count) refl;
  bytes = rw (a.bytes, b.bytes) refl;
}

abbrev pub ElementsGoOn : Sections → PairPosition → PairPosition → ℕ → ℕ → ℕ → Type 0
ElementsGoOn s before now n left depth = (after : PairPosition) → AreSameElements s now after left depth → AreSameElements s before after n depth

pub elements_begin : (s : Sections) (now : PairPosition) (n left depth : ℕ) → left ≡ n → ElementsGoOn s now now n left depth
elements_begin s now n left depth all after rest = rw all at rest

same_value_more : (s : Sections) (now next after : PairPosition) (n depth : ℕ) → IsSame s now next depth → AreSameElements s next after n depth → AreSameElements s now after (suc n) depth
same_value_more s now next after n depth v rest = record {
  values = tree v.value rest.values;
  measure = _;
  in_old = value_more s.in_old now.in_old next.in_old after.in_old n depth v.value rest.values v.measure rest.measure v.in_old rest.in_old;
  in_new = value_more s.in_new now.in_new next.in_new after.in_new n depth v.value rest.values v.measure rest.measure v.in_new rest.in_new;
  paid = let b = v.paid in let c = rest.paid in omega (arith, b, c);
}

pub elements_go_on : (s : Sections) (before now next : PairPosition) (n left m depth : ℕ) → ElementsGoOn s before now n left depth → left ≡ suc m → IsSame s now next depth → ElementsGoOn s before next n m depth
elements_go_on s before now next n left m depth on more value after rest =
    on after (subst (λ l. AreSameElements s now after l depth) (sym more) (same_value_more s now next after m depth value rest))

pub elements_end : (s : Sections) (before now : PairPosition) (n left depth : ℕ) → ElementsGoOn s before now n left depth → left ≡ 0 → AreSameElements s before now n depth
elements_end s before now n left depth on none = on now (subst (λ l. AreSameElements s now now l depth) (sym none) (record {
  values = no_trees;
  measure = record { count = 0; bytes = 0 };
  in_old = no_more_values s.in_old now.in_old depth;
  in_new = no_more_values s.in_new now.in_new depth;
  paid = omega arith;
}))

-- ---- containers

-- a value that a pointer leads to ends where the pointer does
pub end_any : (o : Option ℕ) (x y : ℕ) → is_some o ≡ true → unwrap_or o x ≡ unwrap_or o y
end_any None x y some = absurd (cc)
end_any (Some end) x y some = refl

table_stands : (s : List ℕ) (p q n depth below : ℕ) (x : Direct) (values : Pairs) (m : Measure) → direct_at s p 0 ≡ Some x → x.header.kind ≡ 7 → x.header.size ≡ n → below + 1 ≡ depth → ArePairs s x.header.body n q values m below → IsValue s p (end_of x q) (table values) (record { count = suc m.count; bytes = m.bytes }) depth
table_stands s p q n depth below x values m found kind size deep a =
    value_behind s p q depth x (table values) _ (table a.pairs) found (λ here h. table_here h kind (subst (λ l. PairsUnfold s x.header.body l a.pairs q) (sym size) a.unfolds)) a.keyed a.texts (let l = a.levels in omega (arith, l, deep)) (ap table a.values) (ap suc a.count) a.bytes

pub table_same : (s : Sections) (before entered inner after : PairPosition) (old new : Direct) (n depth below : ℕ) → direct_at s.in_old before.in_old 0 ≡ Some old → direct_at s.in_new before.in_new 0 ≡ Some new → old.header.kind ≡ 7 → new.header.kind ≡ 7 → old.header.size ≡ n → new.header.size ≡ n → below + 1 ≡ depth → entered.in_old ≡ old.header.body → entered.in_new ≡ new.header.body → entered.left + 32 ≡ before.left → AreSamePairs s entered inner n below → after.in_old ≡ end_of old inner.in_old → after.in_new ≡ end_of new inner.in_new → after.left ≤ inner.left → IsSame s before after depth
table_same s before entered inner after old new n depth below in_old in_new map_old map_new size_old size_new deep begins_old begins_new left pairs to_old to_new rest = record {
  value = table pairs.values;
  measure = record { count = suc pairs.measure.count; bytes = pairs.measure.bytes };
  in_old = rw to_old (table_stands s.in_old before.in_old inner.in_old n depth below old pairs.values pairs.measure in_old map_old size_old deep (subst (λ p. ArePairs s.in_old p n inner.in_old pairs.values pairs.measure below) begins_old pairs.in_old));
  in_new = rw to_new (table_stands s.in_new before.in_new inner.in_new n depth below new pairs.values pairs.measure in_new map_new size_new deep (subst (λ p. ArePairs s.in_new p n inner.in_new pairs.values pairs.measure below) begins_new pairs.in_new));
  paid = let a = pairs.paid in omega (arith, a, left, rest);
}

array_stands : (s : List ℕ) (p q n depth below : ℕ) (x : Direct) (values : Trees) (m : Measure) → direct_at s p 0 ≡ Some x → x.header.kind ≡ 11 → x.header.size ≡ n → below + 1 ≡ depth → AreValues s x.header.body n q values m below → IsValue s p (end_of x q) (array values) (record { count = suc m.count; bytes = m.bytes }) depth
array_stands s p q n depth below x values m found kind size deep a =
    value_behind s p q depth x (array values) _ (array a.trees) found (λ here h. array_here h kind (subst (λ l. AllUnfold s x.header.body l a.trees q) (sym size) a.unfolds)) a.keyed a.texts (let l = a.levels in omega (arith, l, deep)) (ap array a.values) (ap suc a.count) a.bytes

pub array_same : (s : Sections) (before entered inner after : PairPosition) (old new : Direct) (n depth below : ℕ) → direct_at s.in_old before.in_old 0 ≡ Some old → direct_at s.in_new before.in_new 0 ≡ Some new → old.header.kind ≡ 11 → new.header.kind ≡ 11 → old.header.size ≡ n → new.header.size ≡ n → below + 1 ≡ depth → entered.in_old ≡ old.header.body → entered.in_new ≡ new.header.body → entered.left + 32 ≡ before.left → AreSameElements s entered inner n below → after.in_old ≡ end_of old inner.in_old → after.in_new ≡ end_of new inner.in_new → after.left ≤ inner.left → IsSame s before after depth
array_same s before entered inner after old new n depth below in_old in_new array_old array_new size_old size_new deep begins_old begins_new left elements to_old to_new rest = record {
  value = array elements.values;
  measure = record { count = suc elements.measure.count; bytes = elements.measure.bytes };
  in_old = rw to_old (array_stands s.in_old before.in_old inner.in_old n depth below old elements.values elements.measure in_old array_old size_old deep (subst (λ p. AreValues s.in_old p n inner.in_old elements.values elements.measure below) begins_old elements.in_old));
  in_new = rw to_new (array_stands s.in_new before.in_new inner.in_new n depth below new elements.values elements.measure in_new array_new size_new deep (subst (λ p. AreValues s.in_new p n inner.in_new elements.values elements.measure below) begins_new elements.in_new));
  paid = let a = elements.paid in omega (arith, a, left, rest);
}

-- ---- records

pub whole : (s : Sections) (before after : PairPosition) → before.left ≡ 262144 → IsSame s before after 32 → HaveSameValue s before.in_old before.in_new
whole s before after all v =
    let a = v.in_old in
    let b = v.in_new in
    let m = v.measure in
    let paid = v.paid in (
      v.value,
      (a.tree, after.in_old, record { unfolds = a.unfolds; keyed = a.keyed; texts = λ t. a.texts; levels = let l = a.levels in omega (arith, l) }, a.value, let c = a.count in omega (arith, c, paid, all), let c = a.bytes in omega (arith, c, paid, all)),
      (b.tree, after.in_new, record { unfolds = b.unfolds; keyed = b.keyed; texts = λ t. b.texts; levels = let l = b.levels in omega (arith, l) }, b.value, let c = b.count in omega (arith, c, paid, all), let c = b.bytes in omega (arith, c, paid, all)),
    )
