-- Positions, and the halves of their addresses.
use Rattle.std.proofs.Common.{◌≡◌, ◌==◌, nat_lt, nat_le, if◌then◌else◌, Some, None, ℕ, suc, ◌+◌, ◌-◌, ◌^◌, ◌<◌, ◌≤◌, ◌&&◌, not, cond, Bool, true, false, [], ◌∷◌, ◌++◌, length, take, refl, ap, arith, sym, ◌∙◌, inl, inr, length-append}
use Rattle.std.proofs.lemmas.Bool.{cases_Bool, and_left, and_right, and_parts, not_from_true, ne_eqb, ltb-true}
use Rattle.std.proofs.lemmas.List.{length-take-le}
use Rattle.std.proofs.Math.Pow.{pow_mono, pow_pos}
use Rattle.mmdb_net.specs.Bits.{bits_of}
use Rattle.mmdb_net.proofs.BitLaws.{length-bits_of}
use Rattle.mmdb_reader.specs.declared.options.WithinOptions.{WithinOptions}
use Rattle.mmdb_reader.specs.declared.positions.Position.{Position}
use Rattle.mmdb_reader.specs.File.{Database, tree_of, width, has_ipv6}
use Rattle.mmdb_tree.specs.Tree.{walk, step}
use Rattle.mmdb_net.specs.Bits.{number_of}
use Rattle.mmdb_reader.specs.Alias.{is_alias, is_alias_at}
use Rattle.mmdb_reader.specs.Positions.{IsAt, HidesAliases, bits_to, is_high_at}
use Rattle.mmdb_reader.specs.Working.{half_of}
use Rattle.mmdb_reader.specs.Listing.{is_hidden}
use Rattle.mmdb_reader.specs.Options.{includes_aliased}
use Rattle.mmdb_reader.specs.Shown.{ipv4_start, has_ipv4_subtree}
use Rattle.mmdb_tree.proofs.WalkLemmas.{walk-append, walk-nil, walk-one}
use Rattle.mmdb_reader.proofs.NumberLemmas.{number-room, number-snoc, take-bits-number}

abbrev pub root : Position
root = record { number = 0; address = 0; prefix = 0 }

pub IsAt-root : (db : Database) → IsAt db root
IsAt-root db = record { within = omega arith; reached = sym (walk-nil (tree_of db) 0); filled = refl }

-- a position has as many bits as it says
pub length-bits_to : (db : Database) (p : Position) → p.prefix ≤ width db → length (bits_to db p) ≡ p.prefix
length-bits_to db p h = length-take-le p.prefix (bits_of (width db) p.address) (omega (arith, length-bits_of (width db) p.address))

module _ (db : Database) (p : Position) (at : IsAt db p) (inner : p.prefix < width db) where
  half_address : (x : Bool) → (half_of db p x).address ≡ number_of (width db) (bits_to db p ++ x ∷ [])
  half_address x =
      let len = length-bits_to db p at.within in
      let e : width db - length (bits_to db p) - 1 ≡ width db - p.prefix - 1 = omega (arith, len) in
      let more = number-snoc (width db) (bits_to db p) x (omega (arith, len)) in
      let size = ap (λ (n : ℕ). cond x (2 ^ n) 0) e in
      let same = at.filled in
      omega (arith, more, size, same)

  -- the half's bits are those of the position, and one more
  pub bits_to-half : (x : Bool) → bits_to db (half_of db p x) ≡ bits_to db p ++ x ∷ []
  bits_to-half x =
      let len = length-bits_to db p at.within in
      let more : length (bits_to db p ++ x ∷ []) ≡ p.prefix + 1 = omega (arith, length-append (bits_to db p) (x ∷ []), len) in
      ap (λ (n : ℕ). take (p.prefix + 1) (bits_of (width db) n)) (half_address x) ∙ ap (λ (n : ℕ). take n (bits_of (width db) (number_of (width db) (bits_to db p ++ x ∷ [])))) (sym more)
      ∙ take-bits-number (width db) (bits_to db p ++ x ∷ []) (omega (arith, more))

  pub IsAt-half : (x : Bool) → IsAt db (half_of db p x)
  IsAt-half x =
      let bits = bits_to-half x in
      record {
        within = omega arith;
        reached = ap (λ (n : ℕ). step (tree_of db) n x) at.reached ∙ sym (walk-one (tree_of db) (walk (tree_of db) (bits_to db p)) x) ∙ sym (walk-append (tree_of db) 0 (bits_to db p) (x ∷ [])) ∙ ap (walk (tree_of db)) (sym bits);
        filled = half_address x ∙ ap (number_of (width db)) (sym bits);
      }

-- an address of the database has at most 128 bits
pub width-le : (db : Database) → width db ≤ 128
width-le db = elim (cases_Bool (has_ipv6 db)) [ inl six ↦ rw six (omega arith) | inr four ↦ rw four (omega arith) ]

pub address-room : (db : Database) (p : Position) → IsAt db p → p.address + 2 ^ (width db - p.prefix) ≤ 2 ^ width db
address-room db p at =
    let len = length-bits_to db p at.within in
    let room = number-room (width db) (bits_to db p) (omega (arith, len, at.within)) in
    let size = ap (λ (n : ℕ). 2 ^ (width db - n)) len in
    let same = at.filled in
    omega (arith, room, size, same)

-- the upper half begins at an address
pub upper-fits : (db : Database) (p : Position) → IsAt db p → p.prefix < width db → p.address + 2 ^ (width db - p.prefix - 1) < 2 ^ 128
upper-fits db p at inner =
    let room = address-room db p at in
    let most : 2 ^ width db ≤ 2 ^ 128 = pow_mono (width-le db) in
    let less : 2 ^ (width db - p.prefix - 1) < 2 ^ (width db - p.prefix) = pow-lt-suc (width db - p.prefix - 1) (width db - p.prefix) (omega arith) in
    omega (arith, room, most, less)
  where
    pow-lt-suc : (a b : ℕ) → b ≡ suc a → 2 ^ a < 2 ^ b
    pow-lt-suc a b e = let some : 0 < 2 ^ a = pow_pos a in omega (arith, some, ap (λ (n : ℕ). 2 ^ n) e, two_more a)
      where
        two_more : (a : ℕ) → 2 ^ suc a ≡ 2 ^ a + 2 ^ a
        two_more a = omega arith

-- ---- aliases

no_ipv6 : (a b c : Bool) → a ≡ false → (a && b && c) ≡ false
no_ipv6 true b c e = cc
no_ipv6 false b c e = refl

pub alias-at : (db : Database) (p : Position) → IsAt db p → is_alias_at db p.number p.address ≡ is_alias db (bits_to db p)
unfolding is_alias
alias-at db p at = elim (cases_Bool (has_ipv6 db)) [
  | inl six ↦
      let w : width db ≡ 128 = rw six refl in
      ap (λ (n : ℕ). is_alias_at db n p.address) at.reached ∙ ap (is_alias_at db (walk (tree_of db) (bits_to db p))) (at.filled ∙ ap (λ (n : ℕ). number_of n (bits_to db p)) w)
  | inr four ↦ no_ipv6 (has_ipv6 db) _ _ four ∙ sym (no_ipv6 (has_ipv6 db) _ _ four)
]

-- ---- what is hidden

no_node : (db : Database) (p : Position) → p.number < db.metadata.node_count → is_high_at p db.metadata.node_count ≡ false
no_node db p on = and_left (p.number == db.metadata.node_count) (nat_le (2 ^ 32) p.address) (ne_eqb p.number db.metadata.node_count (λ e. omega (arith, e, on)))

-- where aliases are listed, nothing is hidden
pub hides-listed : (db : Database) (options : WithinOptions) (hidden : ℕ) → hidden ≡ db.metadata.node_count → includes_aliased options ≡ true → HidesAliases db options hidden
hides-listed db options hidden is listed p on =
    ap (is_high_at p) is ∙ no_node db p on ∙ sym (and_left _ _ (not_from_true _ listed))

and_both : (a b x : Bool) → (a && b) ≡ true → (a && (b && x)) ≡ x
and_both true true x h = refl
and_both true false x h = cc
and_both false b x h = cc

and_none : (a b x : Bool) → (a && b) ≡ false → (a && (b && x)) ≡ false
and_none true true x h = cc
and_none true false x h = refl
and_none false b x h = refl

if_some : (test : Bool) (a b : ℕ) → Some a ≡ (if test then Some b else None) → (test ≡ true) × (a ≡ b)
if_some true a b e = (refl, cc)
if_some false a b e = cc

if_none : (test : Bool) (b : ℕ) → None ≡ (if test then Some b else None) → test ≡ false
if_none true b e = cc
if_none false b e = refl

-- the node where IPv4 begins
pub hides-some : (db : Database) (options : WithinOptions) (start : ℕ) → Some start ≡ (if has_ipv4_subtree db && nat_lt 0 (ipv4_start db) then Some (ipv4_start db) else None) → includes_aliased options ≡ false → HidesAliases db options start
hides-some db options start is off p on =
    let parts = if_some (has_ipv4_subtree db && nat_lt 0 (ipv4_start db)) start (ipv4_start db) is in
    ap (is_high_at p) parts.1 ∙ sym (and_both (has_ipv4_subtree db) (nat_lt 0 (ipv4_start db)) (is_high_at p (ipv4_start db)) parts.0)
    ∙ sym (ap (λ (b : Bool). not b && is_alias_at db p.number p.address) off)

-- there is no such node
pub hides-none : (db : Database) (options : WithinOptions) (hidden : ℕ) → hidden ≡ db.metadata.node_count → None ≡ (if has_ipv4_subtree db && nat_lt 0 (ipv4_start db) then Some (ipv4_start db) else None) → HidesAliases db options hidden
hides-none db options hidden is none p on =
    let without = if_none (has_ipv4_subtree db && nat_lt 0 (ipv4_start db)) (ipv4_start db) none in
    ap (is_high_at p) is ∙ no_node db p on
    ∙ sym (and_right (not (includes_aliased options)) (is_alias_at db p.number p.address) (and_none (has_ipv4_subtree db) (nat_lt 0 (ipv4_start db)) (is_high_at p (ipv4_start db)) without))

-- a node that is found to be hidden or not, as a walk tests it
pub hidden-node : (db : Database) (options : WithinOptions) (hidden : ℕ) (p : Position) (found : Bool) → HidesAliases db options hidden → IsAt db p → p.number < db.metadata.node_count → found ≡ is_high_at p hidden → found ≡ is_hidden db options (bits_to db p)
hidden-node db options hidden p found hides at on is = is ∙ hides p on ∙ ap (λ (b : Bool). not (includes_aliased options) && b) (alias-at db p at)

-- what is no node hides nothing
no_alias-off : (db : Database) (p : Position) → db.metadata.node_count ≤ p.number → (subtree : Bool) → has_ipv4_subtree db ≡ subtree → is_alias_at db p.number p.address ≡ false
no_alias-off db p off false is = and_left (has_ipv4_subtree db) _ is
no_alias-off db p off true is =
    let on : ipv4_start db < db.metadata.node_count = ltb-true (ipv4_start db) db.metadata.node_count (and_parts (has_ipv6 db) _ is).1 in
    and_right (has_ipv4_subtree db) _ (and_right (nat_lt 0 (ipv4_start db)) _ (and_left (p.number == ipv4_start db) (nat_le (2 ^ 32) p.address) (ne_eqb p.number (ipv4_start db) (λ e. omega (arith, e, on, off)))))

pub shown-off : (db : Database) (options : WithinOptions) (p : Position) → IsAt db p → db.metadata.node_count ≤ p.number → is_hidden db options (bits_to db p) ≡ false
shown-off db options p at off = and_right (not (includes_aliased options)) (is_alias db (bits_to db p)) (sym (alias-at db p at) ∙ no_alias-off db p off (has_ipv4_subtree db) refl)
