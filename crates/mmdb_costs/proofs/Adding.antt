-- What values cost, and how their costs add up.
use Rattle.std.proofs.Common.{◌≡◌, ◌+◌, ◌-◌, ℕ, suc, List, length, Some, false, refl, sym, subst, arith, Result, Ok, Err}
use Rattle.std.specs.Result.{IfOk}
use Rattle.mmdb_decode.specs.declared.failed.Failed.{Failed}
use Rattle.mmdb_format.specs.declared.header.Header.{Header}
use Rattle.mmdb_format.specs.declared.header.Pointer.{Pointer}
use Rattle.mmdb_format.specs.Pointer.{pointer_at}
use Rattle.mmdb_format.specs.Contents.{Scalar, content_at, content_end, scalar_payload, key_bytes_at}
use Rattle.mmdb_format.specs.Unfolding.{Tree, scalar, array, table, pointer, no_trees, tree, no_pairs, pair, scalar_here, array_here, table_here, pointer_here, AllUnfold, none_left, one_more, PairsUnfold, no_pairs_left, one_more_pair}
use Rattle.mmdb_decode.specs.Reading.{Reading}
use Rattle.mmdb_decode.specs.Maps.{key_past}
use Rattle.mmdb_value.specs.AnyValue.{key_at}
use Rattle.mmdb_value.proofs.Grammar.{both, if_is, key_sound, IsKeyOf}
use Rattle.mmdb_costs.specs.declared.cost.PartCost.{PartCost}
use Rattle.mmdb_costs.specs.Working.{IsWithin, HasCost, HasCostBehind, HasSomeCost, HasKeyCost, ElementsHaveCost, PairsHaveCost}

-- ---- values

pub scalar_costs : (s : List ℕ) (header : Header) (c : Scalar) (part : PartCost) → content_at s header ≡ Some c → part.end ≡ content_end header → part.cost ≡ record { values = 1; bytes = scalar_payload c } → IsWithin part.cost → HasCostBehind s header part
scalar_costs s header c part is ends costs within p here = record {
  tree = scalar c;
  unfolds = rw ends (scalar_here here is);
  keyed = refl;
  values = rw costs refl;
  bytes = rw costs refl;
  within = within;
}

pub pointer_costs : (s : List ℕ) (header : Header) (to : Pointer) (part : PartCost) → header.kind ≡ 1 → pointer_at s header.body header.size ≡ Some to → part.end ≡ to.next → HasSomeCost s to.target part.cost → HasCostBehind s header part
pointer_costs s header to part kind leads ends there p here =
    let target = there.1 in
    record {
      tree = pointer to.target target.tree;
      unfolds = rw ends (pointer_here here kind leads target.unfolds);
      keyed = target.keyed;
      values = target.values;
      bytes = target.bytes;
      within = target.within;
    }

pub array_costs : (s : List ℕ) (header : Header) (parts part : PartCost) → header.kind ≡ 11 → ElementsHaveCost s header.body header.size parts → part.end ≡ parts.end → part.cost.values ≡ parts.cost.values + 1 → part.cost.bytes ≡ parts.cost.bytes → IsWithin part.cost → HasCostBehind s header part
array_costs s header parts part kind have ends values bytes within p here = record {
  tree = array have.trees;
  unfolds = rw ends (array_here here kind have.unfolds);
  keyed = have.keyed;
  values = let v = have.values in omega (arith, v, values);
  bytes = let b = have.bytes in omega (arith, b, bytes);
  within = within;
}

pub map_costs : (s : List ℕ) (header : Header) (parts part : PartCost) → header.kind ≡ 7 → PairsHaveCost s header.body header.size parts → part.end ≡ parts.end → part.cost.values ≡ parts.cost.values + 1 → part.cost.bytes ≡ parts.cost.bytes → IsWithin part.cost → HasCostBehind s header part
map_costs s header parts part kind have ends values bytes within p here = record {
  tree = table have.pairs;
  unfolds = rw ends (table_here here kind have.unfolds);
  keyed = have.keyed;
  values = let v = have.values in omega (arith, v, values);
  bytes = let b = have.bytes in omega (arith, b, bytes);
  within = within;
}

-- ---- keys

abbrev key_read : List ℕ → ℕ → Reading (List ℕ)
key_read key q = record { value = key; next = q; values = 0; bytes = length key - 0 }

reads_key : (s : List ℕ) (p q : ℕ) (key : List ℕ) → key_bytes_at s p ≡ Some (key, q) → key_at false s p 0 ≡ Some (key_read key q)
unfolding key_past
reads_key s p q key found = rw found refl

pub key_costs : (s : List ℕ) (p : ℕ) (key : List ℕ) (part : PartCost) → key_bytes_at s p ≡ Some (key, part.end) → part.cost ≡ record { values = 1; bytes = length key } → HasKeyCost s p part
key_costs s p key part found costs =
    let w = if_is (key_at false s p 0) (λ r. (u : Tree) × IsKeyOf false s p u r) (key_read key part.end) (key_sound false s p 0) (reads_key s p part.end key found) in
    let k = w.1 in
    record { tree = w.0; unfolds = k.unfolds; key = k.key; values = rw costs k.count; bytes = rw costs (let b = k.bytes in omega (arith, b)) }

-- ---- elements

-- whatever elements come after these, all of them cost both together
abbrev pub ElementsGoOn : List ℕ → ℕ → ℕ → PartCost → ℕ → Type 0
ElementsGoOn s p n now left = (rest all : PartCost) → ElementsHaveCost s now.end left rest → all.end ≡ rest.end → all.cost.values ≡ now.cost.values + rest.cost.values → all.cost.bytes ≡ now.cost.bytes + rest.cost.bytes → ElementsHaveCost s p n all

pub elements_begin : (s : List ℕ) (p n left : ℕ) (now : PartCost) → now ≡ record { end = p; cost = record { values = 0; bytes = 0 } } → left ≡ n → ElementsGoOn s p n now left
elements_begin s p n left now is all rest whole have ends values bytes =
    let from : now.end ≡ p = rw is refl in
    let none_values : now.cost.values ≡ 0 = rw is refl in
    let none_bytes : now.cost.bytes ≡ 0 = rw is refl in
    record {
      trees = have.trees;
      unfolds = rw ends (subst (λ k. AllUnfold s p k have.trees rest.end) all (subst (λ q. AllUnfold s q left have.trees rest.end) from have.unfolds));
      keyed = have.keyed;
      values = let v = have.values in omega (arith, v, values, none_values);
      bytes = let b = have.bytes in omega (arith, b, bytes, none_bytes);
    }

pub elements_go_on : (s : List ℕ) (p n left m : ℕ) (now value next : PartCost) → ElementsGoOn s p n now left → left ≡ suc m → HasCost s now.end value → next.end ≡ value.end → next.cost.values ≡ now.cost.values + value.cost.values → next.cost.bytes ≡ now.cost.bytes + value.cost.bytes → ElementsGoOn s p n next m
elements_go_on s p n left m now value next on more has to values bytes rest all have ends all_values all_bytes =
    let v = has.values in
    let b = has.bytes in
    let w = have.values in
    let c = have.bytes in
    let behind : PartCost = record { end = rest.end; cost = record { values = value.cost.values + rest.cost.values; bytes = value.cost.bytes + rest.cost.bytes } } in
    on behind all (subst (λ k. ElementsHaveCost s now.end k behind) (sym more) (record {
      trees = tree has.tree have.trees;
      unfolds = one_more has.unfolds (subst (λ q. AllUnfold s q m have.trees rest.end) to have.unfolds);
      keyed = both _ _ has.keyed have.keyed;
      values = omega (arith, v, w);
      bytes = omega (arith, b, c);
    })) ends (omega (arith, values, all_values)) (omega (arith, bytes, all_bytes))

pub elements_end : (s : List ℕ) (p n left : ℕ) (now : PartCost) → ElementsGoOn s p n now left → left ≡ 0 → ElementsHaveCost s p n now
elements_end s p n left now on none =
    let rest : PartCost = record { end = now.end; cost = record { values = 0; bytes = 0 } } in
    on rest now (subst (λ k. ElementsHaveCost s now.end k rest) (sym none) (record {
      trees = no_trees;
      unfolds = none_left;
      keyed = refl;
      values = refl;
      bytes = refl;
    })) refl (omega arith) (omega arith)

-- ---- pairs

abbrev pub PairsGoOn : List ℕ → ℕ → ℕ → PartCost → ℕ → Type 0
PairsGoOn s p n now left = (rest all : PartCost) → PairsHaveCost s now.end left rest → all.end ≡ rest.end → all.cost.values ≡ now.cost.values + rest.cost.values → all.cost.bytes ≡ now.cost.bytes + rest.cost.bytes → PairsHaveCost s p n all

pub pairs_begin : (s : List ℕ) (p n left : ℕ) (now : PartCost) → now ≡ record { end = p; cost = record { values = 0; bytes = 0 } } → left ≡ n → PairsGoOn s p n now left
pairs_begin s p n left now is all rest whole have ends values bytes =
    let from : now.end ≡ p = rw is refl in
    let none_values : now.cost.values ≡ 0 = rw is refl in
    let none_bytes : now.cost.bytes ≡ 0 = rw is refl in
    record {
      pairs = have.pairs;
      unfolds = rw ends (subst (λ k. PairsUnfold s p k have.pairs rest.end) all (subst (λ q. PairsUnfold s q left have.pairs rest.end) from have.unfolds));
      keyed = have.keyed;
      values = let v = have.values in omega (arith, v, values, none_values);
      bytes = let b = have.bytes in omega (arith, b, bytes, none_bytes);
    }

pub pairs_go_on : (s : List ℕ) (p n left m : ℕ) (now key value mid next : PartCost) → PairsGoOn s p n now left → left ≡ suc m → HasKeyCost s now.end key → HasCost s key.end value
    → mid.cost.values ≡ now.cost.values + key.cost.values → mid.cost.bytes ≡ now.cost.bytes + key.cost.bytes
    → next.end ≡ value.end → next.cost.values ≡ mid.cost.values + value.cost.values → next.cost.bytes ≡ mid.cost.bytes + value.cost.bytes → PairsGoOn s p n next m
pairs_go_on s p n left m now key value mid next on more is has mid_values mid_bytes to values bytes rest all have ends all_values all_bytes =
    let i = is.values in
    let j = is.bytes in
    let v = has.values in
    let b = has.bytes in
    let w = have.values in
    let c = have.bytes in
    let behind : PartCost = record {
      end = rest.end;
      cost = record { values = key.cost.values + (value.cost.values + rest.cost.values); bytes = key.cost.bytes + (value.cost.bytes + rest.cost.bytes) };
    } in
    on behind all (subst (λ k. PairsHaveCost s now.end k behind) (sym more) (record {
      pairs = pair is.tree has.tree have.pairs;
      unfolds = one_more_pair is.unfolds has.unfolds (subst (λ q. PairsUnfold s q m have.pairs rest.end) to have.unfolds);
      keyed = both _ _ is.key (both _ _ has.keyed have.keyed);
      values = omega (arith, i, v, w);
      bytes = omega (arith, j, b, c);
    })) ends (omega (arith, values, mid_values, all_values)) (omega (arith, bytes, mid_bytes, all_bytes))

pub pairs_end : (s : List ℕ) (p n left : ℕ) (now : PartCost) → PairsGoOn s p n now left → left ≡ 0 → PairsHaveCost s p n now
pairs_end s p n left now on none =
    let rest : PartCost = record { end = now.end; cost = record { values = 0; bytes = 0 } } in
    on rest now (subst (λ k. PairsHaveCost s now.end k rest) (sym none) (record {
      pairs = no_pairs;
      unfolds = no_pairs_left;
      keyed = refl;
      values = refl;
      bytes = refl;
    })) refl (omega arith) (omega arith)

-- ---- containers

pub contained_array : (s : List ℕ) (header : Header) (parts : PartCost) (r : Result PartCost Failed) → header.kind ≡ 11 → ElementsHaveCost s header.body header.size parts
    → IfOk r (λ whole. whole.end ≡ parts.end) → IfOk r (λ whole. whole.cost.values ≡ parts.cost.values + 1) → IfOk r (λ whole. whole.cost.bytes ≡ parts.cost.bytes) → IfOk r (λ whole. IsWithin whole.cost) → IfOk r (HasCostBehind s header)
contained_array s header parts (Ok whole) kind have ends values bytes within = array_costs s header parts whole kind have ends values bytes within
contained_array s header parts (Err e) kind have ends values bytes within = tt

pub contained_map : (s : List ℕ) (header : Header) (parts : PartCost) (r : Result PartCost Failed) → header.kind ≡ 7 → PairsHaveCost s header.body header.size parts
    → IfOk r (λ whole. whole.end ≡ parts.end) → IfOk r (λ whole. whole.cost.values ≡ parts.cost.values + 1) → IfOk r (λ whole. whole.cost.bytes ≡ parts.cost.bytes) → IfOk r (λ whole. IsWithin whole.cost) → IfOk r (HasCostBehind s header)
contained_map s header parts (Ok whole) kind have ends values bytes within = map_costs s header parts whole kind have ends values bytes within
contained_map s header parts (Err e) kind have ends values bytes within = tt
