-- One step of the list of leaves below bits, and of the list along a range.
use Rattle.std.proofs.Common.{◌≡◌, ℕ, ◌<◌, ◌≤◌, zero, suc, Bool, true, false, nat_lt, List, [], ◌∷◌, ◌++◌, refl}
use Rattle.std.proofs.lemmas.Bool.{lt-ltb, le-ltb}
use Rattle.mmdb_reader.specs.declared.options.WithinOptions.{WithinOptions}
use Rattle.mmdb_reader.specs.File.{Database, tree_of}
use Rattle.mmdb_tree.specs.Tree.{walk}
use Rattle.mmdb_reader.specs.Listing.{listed_below, listed_along, listed_at, is_hidden}

module _ (db : Database) (options : WithinOptions) (bits : List Bool) where
  -- below an alias nothing is listed
  pub below-hidden : (left : ℕ) → is_hidden db options bits ≡ true → listed_below db options left bits ≡ []
  unfolding listed_below
  below-hidden zero hidden = rw hidden refl
  below-hidden (suc left) hidden = rw hidden refl

  -- a node has two halves
  pub below-node : (left : ℕ) → is_hidden db options bits ≡ false → walk (tree_of db) bits < db.metadata.node_count → listed_below db options (suc left) bits ≡ listed_below db options left (bits ++ false ∷ []) ++ listed_below db options left (bits ++ true ∷ [])
  unfolding listed_below
  below-node left shown on =
      let test : nat_lt (walk (tree_of db) bits) db.metadata.node_count ≡ true = lt-ltb _ _ on in
      rw (shown, test) refl

  -- a full address is a leaf
  pub below-full : is_hidden db options bits ≡ false → listed_below db options zero bits ≡ listed_at db options bits
  unfolding listed_below
  below-full shown = rw shown refl

  -- what is no node is a leaf
  pub below-leaf : (left : ℕ) → is_hidden db options bits ≡ false → db.metadata.node_count ≤ walk (tree_of db) bits → listed_below db options (suc left) bits ≡ listed_at db options bits
  unfolding listed_below
  below-leaf left shown off =
      let test : nat_lt (walk (tree_of db) bits) db.metadata.node_count ≡ false = le-ltb _ _ off in
      rw (shown, test) refl

  pub along-there : (left : ℕ) → listed_along db options [] left bits ≡ listed_below db options left bits
  unfolding listed_along
  along-there left = refl

  pub along-full : (range : List Bool) → listed_along db options range zero bits ≡ listed_below db options zero bits
  unfolding listed_along
  along-full [] = refl
  along-full (x ∷ range) = refl

  pub along-hidden : (range : List Bool) (left : ℕ) → is_hidden db options bits ≡ true → listed_along db options range left bits ≡ []
  unfolding listed_along
  along-hidden [] left hidden = below-hidden left hidden
  along-hidden (x ∷ range) zero hidden = below-hidden zero hidden
  along-hidden (x ∷ range) (suc left) hidden = rw hidden refl

  pub along-node : (x : Bool) (range : List Bool) (left : ℕ) → is_hidden db options bits ≡ false → walk (tree_of db) bits < db.metadata.node_count → listed_along db options (x ∷ range) (suc left) bits ≡ listed_along db options range left (bits ++ x ∷ [])
  unfolding listed_along
  along-node x range left shown on =
      let test : nat_lt (walk (tree_of db) bits) db.metadata.node_count ≡ true = lt-ltb _ _ on in
      rw (shown, test) refl

  pub along-leaf : (range : List Bool) (left : ℕ) → is_hidden db options bits ≡ false → db.metadata.node_count ≤ walk (tree_of db) bits → listed_along db options range left bits ≡ listed_below db options left bits
  unfolding listed_along
  along-leaf [] left shown off = refl
  along-leaf (x ∷ range) zero shown off = refl
  along-leaf (x ∷ range) (suc left) shown off =
      let test : nat_lt (walk (tree_of db) bits) db.metadata.node_count ≡ false = le-ltb _ _ off in
      let below : listed_below db options (suc left) bits ≡ listed_at db options bits = below-leaf left shown off in
      rw (shown, test, below) refl
