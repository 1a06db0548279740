-- What trees cost.
use Rattle.std.proofs.Common.{◌≡◌, ◌≤◌, ◌+◌, ◌*◌, inl, inr, ℕ, suc, Bool, true, false, ◌&&◌, List, length, ap, ◌∙◌, arith}
use Rattle.std.specs.Str.{is_utf8}
use Rattle.mmdb_format.specs.Contents.{Scalar, scalar_payload}
use Rattle.mmdb_format.specs.Unfolding.{Tree, scalar, array, table, pointer, Trees, tree, Pairs, pair, value_count, trees_count, pairs_count, payload, trees_payload, pairs_payload, key_levels, trees_levels, pairs_levels, is_key, has_texts}
use Rattle.mmdb_json.specs.Shown.{key_bytes}
use Rattle.mmdb_json.specs.declared.budget.Budget.{Budget}
use Rattle.mmdb_json.specs.Appended.{IsKeyOf, ChargesBytes, Costs}

pub both : (b c : Bool) → b ≡ true → c ≡ true → (b && c) ≡ true
both true c e f = f
both false c e f = absurd (cc)

-- keys
pub count_of_key : (x : List ℕ) (k : Tree) → IsKeyOf x k → value_count k ≡ 1
count_of_key x k (inl e) = ap value_count e
count_of_key x k (inr (to, e)) = ap value_count e

pub payload_of_key : (x : List ℕ) (k : Tree) → IsKeyOf x k → payload k ≡ length x
payload_of_key x k (inl e) = ap payload e
payload_of_key x k (inr (to, e)) = ap payload e

pub levels_of_key : (x : List ℕ) (k : Tree) → IsKeyOf x k → key_levels k ≡ 0
levels_of_key x k (inl e) = ap key_levels e
levels_of_key x k (inr (to, e)) = ap key_levels e

pub is_key_of : (x : List ℕ) (k : Tree) → IsKeyOf x k → is_key k ≡ true
is_key_of x k (inl e) = ap is_key e
is_key_of x k (inr (to, e)) = ap is_key e

pub texts_of_key : (x : List ℕ) (k : Tree) → IsKeyOf x k → is_utf8 x ≡ true → has_texts k ≡ true
texts_of_key x k (inl e) utf8 = ap has_texts e ∙ utf8
texts_of_key x k (inr (to, e)) utf8 = ap has_texts e ∙ utf8

pub bytes_of_key : (x : List ℕ) (k : Tree) → IsKeyOf x k → key_bytes k ≡ x
bytes_of_key x k (inl e) = ap key_bytes e
bytes_of_key x k (inr (to, e)) = ap key_bytes e

-- what the pairs that are left cost, of which each key and value was charged before
pub record PairsCost (levels : ℕ) (before after : Budget) (left : ℕ) (ps : Pairs) : Type 0 where
  pub values : after.values + pairs_count ps ≡ before.values + 2 * left
  pub bytes : after.bytes + pairs_payload ps ≡ before.bytes
  pub deep : pairs_levels ps + after.levels ≤ levels
  pub fewer : after.levels ≤ before.levels

pub record TreesCost (levels : ℕ) (before after : Budget) (left : ℕ) (ts : Trees) : Type 0 where
  pub values : after.values + trees_count ts ≡ before.values + left
  pub bytes : after.bytes + trees_payload ts ≡ before.bytes
  pub deep : trees_levels ts + after.levels ≤ levels
  pub fewer : after.levels ≤ before.levels

-- one pair more in front
pub pair_costs : (levels left m : ℕ) (before between after final : Budget) (x : List ℕ) (k t : Tree) (ps : Pairs) → left ≡ suc m → IsKeyOf x k → ChargesBytes before between (length x) → Costs levels between after t → PairsCost levels after final m ps → PairsCost levels before final left (pair k t ps)
pair_costs levels left m before between after final x k t ps some key charged c rest =
    let one = count_of_key x k key in
    let long = payload_of_key x k key in
    let flat = levels_of_key x k key in
    let b = charged.bytes_left in
    let v = charged.values_left in
    let l = charged.levels_left in
    let cv = c.values in
    let cb = c.bytes in
    let cd = c.deep in
    let cf = c.fewer in
    let rv = rest.values in
    let rb = rest.bytes in
    let rd = rest.deep in
    let rf = rest.fewer in
    record {
      values = omega (arith, some, one, v, cv, rv);
      bytes = omega (arith, long, b, cb, rb);
      deep = omega (arith, flat, cd, rd, rf);
      fewer = omega (arith, l, cf, rf);
    }

pub tree_costs : (levels left m : ℕ) (before after final : Budget) (t : Tree) (ts : Trees) → left ≡ suc m → Costs levels before after t → TreesCost levels after final m ts → TreesCost levels before final left (tree t ts)
tree_costs levels left m before after final t ts some c rest =
    let cv = c.values in
    let cb = c.bytes in
    let cd = c.deep in
    let cf = c.fewer in
    let rv = rest.values in
    let rb = rest.bytes in
    let rd = rest.deep in
    let rf = rest.fewer in
    record {
      values = omega (arith, some, cv, rv);
      bytes = omega (arith, cb, rb);
      deep = omega (arith, cd, rd, rf);
      fewer = omega (arith, cf, rf);
    }

-- the container of them
pub table_costs : (levels below left : ℕ) (before mid final : Budget) (ps : Pairs) → levels ≡ below + 1 → mid.values + 2 * left ≡ before.values → mid.bytes ≡ before.bytes → mid.levels ≤ before.levels → PairsCost below mid final left ps → Costs levels before final (table ps)
table_costs levels below left before mid final ps down v b l rest =
    let rv = rest.values in
    let rb = rest.bytes in
    let rd = rest.deep in
    let rf = rest.fewer in
    record {
      values = omega (arith, v, rv);
      bytes = omega (arith, b, rb);
      deep = omega (arith, down, rd);
      fewer = omega (arith, l, rf);
    }

pub array_costs : (levels below left : ℕ) (before mid final : Budget) (ts : Trees) → levels ≡ below + 1 → mid.values + left ≡ before.values → mid.bytes ≡ before.bytes → mid.levels ≤ before.levels → TreesCost below mid final left ts → Costs levels before final (array ts)
array_costs levels below left before mid final ts down v b l rest =
    let rv = rest.values in
    let rb = rest.bytes in
    let rd = rest.deep in
    let rf = rest.fewer in
    record {
      values = omega (arith, v, rv);
      bytes = omega (arith, b, rb);
      deep = omega (arith, down, rd);
      fewer = omega (arith, l, rf);
    }

-- a pointer to a tree, which is one level down
pub pointer_costs : (levels below to : ℕ) (before after : Budget) (t : Tree) → levels ≡ below + 1 → Costs below before after t → Costs levels before after (pointer to t)
pointer_costs levels below to before after t down c =
    let cd = c.deep in
    record { values = c.values; bytes = c.bytes; deep = omega (arith, down, cd); fewer = c.fewer }

-- a scalar
pub scalar_costs : (levels : ℕ) (before after : Budget) (c : Scalar) → before.levels ≤ levels → ChargesBytes before after (scalar_payload c) → Costs levels before after (scalar c)
scalar_costs levels before after c enough charged =
    let b = charged.bytes_left in
    let v = charged.values_left in
    let l = charged.levels_left in
    record {
      values = omega (arith, v);
      bytes = b;
      deep = omega (arith, l, enough);
      fewer = omega (arith, l);
    }
