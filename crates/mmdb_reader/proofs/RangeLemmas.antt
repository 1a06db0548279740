-- The walk to a range.
use Rattle.std.proofs.Common.{◌≡◌, ℕ, suc, ◌+◌, ◌-◌, ◌<◌, ◌≤◌, Bool, true, false, List, [], ◌∷◌, ◌++◌, length, take, drop, get_or, arith, sym, ap, ◌∙◌, inl, inr}
use Rattle.std.proofs.lemmas.List.{append-nil, length-take-le, drop_all, get_or-take}
use Rattle.std.proofs.Math.Seq.{drop-cons}
use Rattle.mmdb_net.specs.Bits.{bits_of, bit_of}
use Rattle.mmdb_net.proofs.BitLaws.{length-bits_of, get_or-bits_of}
use Rattle.mmdb_reader.specs.declared.options.WithinOptions.{WithinOptions}
use Rattle.mmdb_reader.specs.declared.positions.Position.{Position}
use Rattle.mmdb_reader.specs.File.{Database, tree_of, width}
use Rattle.mmdb_tree.specs.Tree.{walk}
use Rattle.mmdb_reader.specs.Listing.{Listed, listed, listed_along, is_hidden}
use Rattle.mmdb_reader.specs.Positions.{IsAt, bits_to, listed_from, listed_of_stack}
use Rattle.mmdb_reader.specs.Working.{HasHalves, IsEnd, IsStart, half_of}
use Rattle.mmdb_reader.proofs.ListingSteps.{along-there, along-full, along-hidden, along-node, along-leaf}
use Rattle.mmdb_reader.proofs.PositionLemmas.{root, IsAt-root, bits_to-half, IsAt-half}
use Rattle.mmdb_reader.proofs.StackLemmas.{stack-push}

-- the walk has come to a position on its way to a range
pub record IsOnWay (db : Database) (options : WithinOptions) (range : List Bool) (p : Position) : Type 0 where
  pub before : p.prefix ≤ length range
  pub at : IsAt db p
  pub along : listed_along db options (drop p.prefix range) (width db - p.prefix) (bits_to db p) ≡ listed db options range

pub way-root : (db : Database) (options : WithinOptions) (range : List Bool) → IsOnWay db options range root
way-root db options range = record { before = omega arith; at = IsAt-root db; along = ap (λ (n : ℕ). listed_along db options range n []) (omega arith) }

nothing_more : (db : Database) (options : WithinOptions) (ms : List Listed) → ms ++ listed_of_stack db options [] ≡ ms
unfolding listed_of_stack
nothing_more db options ms = append-nil ms

module _ (db : Database) (options : WithinOptions) (range : List Bool) (p : Position) (fits : length range ≤ width db) (way : IsOnWay db options range p) where
  pub way-hidden : is_hidden db options (bits_to db p) ≡ true → listed db options range ≡ []
  way-hidden hidden = sym way.along ∙ along-hidden db options (bits_to db p) (drop p.prefix range) (width db - p.prefix) hidden

  pub way-step : is_hidden db options (bits_to db p) ≡ false → HasHalves db p → p.prefix < length range → (x : Bool) → x ≡ get_or range p.prefix false → IsOnWay db options range (half_of db p x)
  way-step shown halves inner x is =
      let on : walk (tree_of db) (bits_to db p) < db.metadata.node_count = let r = way.at.reached in let h = halves.0 in omega (arith, r, h) in
      let left : width db - p.prefix ≡ suc (width db - (p.prefix + 1)) = omega arith in
      let one : suc p.prefix ≡ p.prefix + 1 = omega arith in
      let rest : drop p.prefix range ≡ x ∷ drop (p.prefix + 1) range = drop-cons range p.prefix false inner ∙ ap (λ (y : Bool). y ∷ drop (suc p.prefix) range) (sym is) ∙ ap (λ (n : ℕ). x ∷ drop n range) one in
      record {
        before = omega arith;
        at = IsAt-half db p way.at (omega arith) x;
        along = ap (listed_along db options (drop (p.prefix + 1) range) (width db - (p.prefix + 1))) (bits_to-half db p way.at (omega arith) x)
            ∙ sym (along-node db options (bits_to db p) x (drop (p.prefix + 1) range) (width db - (p.prefix + 1)) shown on)
            ∙ sym (ap (λ (n : ℕ). listed_along db options (x ∷ drop (p.prefix + 1) range) n (bits_to db p)) left)
            ∙ sym (ap (λ (r : List Bool). listed_along db options r (width db - p.prefix) (bits_to db p)) rest)
            ∙ way.along;
      }

  starts : listed_along db options (drop p.prefix range) (width db - p.prefix) (bits_to db p) ≡ listed_from db options p → listed_of_stack db options (p ∷ []) ≡ listed db options range
  starts same = stack-push db options [] p ∙ nothing_more db options (listed_from db options p) ∙ sym same ∙ way.along

  at_full : width db - p.prefix ≡ 0 → listed_along db options (drop p.prefix range) (width db - p.prefix) (bits_to db p) ≡ listed_from db options p
  at_full none = rw none (along-full db options (bits_to db p) (drop p.prefix range))

  pub way-ends : is_hidden db options (bits_to db p) ≡ false → IsEnd db p → IsStart db options range p
  way-ends shown ended = record {
    placed = record {
      at = way.at;
      room = omega arith;
      room_below = elim ended [ inl full ↦ λ _. omega (arith, full) | inr off ↦ λ on. absurd (omega (arith, off, on)) ];
    };
    lists = starts (elim ended [
      | inl full ↦ at_full (omega (arith, full))
      | inr off ↦ along-leaf db options (bits_to db p) (drop p.prefix range) (width db - p.prefix) shown (let r = way.at.reached in omega (arith, r, off))
    ]);
  }

  pub way-there : length range ≤ p.prefix → IsStart db options range p
  way-there there = let before = way.before in record {
    placed = record {
      at = way.at;
      room = omega arith;
      room_below = λ _. omega (arith, before, there, fits);
    };
    lists = starts (ap (λ (r : List Bool). listed_along db options r (width db - p.prefix) (bits_to db p)) (drop_all p.prefix range there) ∙ along-there db options (bits_to db p) (width db - p.prefix));
  }

-- ---- the bits of a range

pub length-range : (w prefix address : ℕ) → prefix ≤ w → length (take prefix (bits_of w address)) ≡ prefix
length-range w prefix address h = length-take-le prefix (bits_of w address) (omega (arith, length-bits_of w address))

pub range-bit : (w prefix address k : ℕ) → prefix ≤ w → k < prefix → get_or (take prefix (bits_of w address)) k false ≡ bit_of address (w - k - 1)
range-bit w prefix address k h below =
    let same : w - 1 - k ≡ w - k - 1 = omega arith in
    get_or-take prefix (bits_of w address) k false below ∙ get_or-bits_of w address k false (omega arith) ∙ ap (bit_of address) same
