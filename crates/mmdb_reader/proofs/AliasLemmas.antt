-- Aliases and their test.
use Rattle.std.proofs.Common.{◌≡◌, ◌≤◌, ◌⊎◌, ◌&&◌, ◌==◌, not, Bool, true, false, nat_lt, List, length, refl, inl, inr}
use Rattle.std.proofs.lemmas.Bool.{cases_Bool, lt-ltb, ltb-true, le-leb, leb-true, eqb-true, eq-eqb, both_ways, and_parts, and_from}
use Rattle.mmdb_reader.specs.declared.options.WithinOptions.{WithinOptions}
use Rattle.mmdb_reader.specs.File.{Database, tree_of, has_ipv6}
use Rattle.mmdb_tree.specs.Tree.{walk}
use Rattle.mmdb_reader.specs.Shown.{ipv4_start, has_ipv4_subtree}
use Rattle.mmdb_reader.specs.Alias.{IsAlias, is_alias}
use Rattle.mmdb_reader.specs.Options.{includes_aliased}
use Rattle.mmdb_reader.specs.Listing.{is_hidden}

pub alias-sound : (db : Database) (s : List Bool) → length s ≤ 128 → is_alias db s ≡ true → IsAlias db s
unfolding is_alias
alias-sound db s short h =
    let one = and_parts (has_ipv4_subtree db) _ h in
    let subtree = and_parts (has_ipv6 db) _ one.0 in
    let two = and_parts (nat_lt 0 (ipv4_start db)) _ one.1 in
    let three = and_parts (walk (tree_of db) s == ipv4_start db) _ two.1 in
    record {
      ipv6 = subtree.0;
      on_node = ltb-true _ _ subtree.1;
      not_first = ltb-true _ _ two.0;
      short = short;
      high = leb-true _ _ three.1;
      same = eqb-true _ _ three.0;
    }

pub alias-complete : (db : Database) (s : List Bool) → IsAlias db s → is_alias db s ≡ true
unfolding is_alias
alias-complete db s a =
    and_from _ _ (and_from _ _ a.ipv6 (lt-ltb _ _ a.on_node)) (and_from _ _ (lt-ltb _ _ a.not_first) (and_from _ _ (eq-eqb _ _ a.same) (le-leb _ _ a.high)))

hidden_parts : (a b : Bool) → (not a && b) ≡ false → (a ≡ true) ⊎ (b ≡ false)
hidden_parts true b h = inl refl
hidden_parts false b h = inr h

shown_parts : (a b : Bool) → (a ≡ true) ⊎ (b ≡ false) → (not a && b) ≡ false
shown_parts true b h = refl
shown_parts false b (inl e) = cc
shown_parts false b (inr e) = e

-- what is not hidden is no alias, unless aliases are listed
pub shown-clear : (db : Database) (options : WithinOptions) (s : List Bool) → is_hidden db options s ≡ false → (includes_aliased options ≡ true) ⊎ (¬ IsAlias db s)
shown-clear db options s h = elim (hidden_parts (includes_aliased options) (is_alias db s) h) [
  | inl asked ↦ inl asked
  | inr none ↦ inr (λ a. both_ways _ none (alias-complete db s a))
]

pub clear-shown : (db : Database) (options : WithinOptions) (s : List Bool) → length s ≤ 128 → (includes_aliased options ≡ true) ⊎ (¬ IsAlias db s) → is_hidden db options s ≡ false
clear-shown db options s short h = shown_parts (includes_aliased options) (is_alias db s) (elim h [
  | inl asked ↦ inl asked
  | inr none ↦ elim (cases_Bool (is_alias db s)) [ inl alias ↦ absurd (none (alias-sound db s short alias)) | inr no_alias ↦ inr no_alias ]
])
