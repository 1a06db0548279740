-- Laws of parts.
use Rattle.std.proofs.Common.{◌≡◌, ℕ, true, refl, ap, sym, ◌∙◌}
use Rattle.mmdb_compare.specs.declared.walk.Stand.{Stand}
use Rattle.mmdb_compare.specs.declared.walk.Stand.TheVariants.{Nowhere}
use Rattle.mmdb_compare.specs.Coming.{Coming, coming, coming_from}
use Rattle.mmdb_compare.specs.Parts.{IsPast}
use Rattle.mmdb_compare.specs.Walks.{Standing, left_of, behind_of, IsMet, IsDone}
use Rattle.mmdb_compare.proofs.WalkLaws.{behind_is}

-- after a leaf that can't be read
behind_left : (stand : Stand) (s : Standing) → s.stand ≡ Nowhere → s.is_unknown ≡ true → left_of s ≡ coming s.leaves true
behind_left stand s e u = rw (e, u) refl

pub past : (before : Coming) (at : ℕ) (c : Coming) (s : Standing) → IsMet c s → c ≡ coming_from at before → IsPast at before (coming_from at (left_of s))
past before at c s met same = record {
  leaves = s.leaves;
  is_unknown = met.is_unknown;
  met = sym same ∙ met.met;
  left = ap (coming_from at) (behind_left s.stand s met.stands met.unknown);
}

-- a leaf that comes after one network that all are at
pub unread_first : (at : ℕ) (c : Coming) (s : Standing) → IsMet c s → coming_from at c ≡ c
unread_first at c s met = rw met.met refl

-- what comes after a network of which nothing is left
pub done_left : (at : ℕ) (s : Standing) → IsDone s at → coming_from at (left_of s) ≡ coming_from at (behind_of s)
done_left at s d = behind_is at s (rw d.stands d.ends)
