-- A walk of which all is wanted.
use Rattle.std.proofs.Common.{◌≡◌, inl, inr, List, [], ◌∷◌, ◌++◌, ℕ, Option, None, Result, Ok, Err, IfOk, IfErr, sym, ap, ◌∙◌, subst}
use Rattle.mmdb_net.specs.declared.network.IpNetwork.{IpNetwork}
use Rattle.mmdb_blocks.specs.declared.kind.Kinds.{Kinds}
use Rattle.mmdb_blocks.specs.declared.kind.Kinds.TheVariants.{Both}
use Rattle.mmdb_query.specs.Ends.{IsLeft, BreaksOff, StopsBy}
use Rattle.mmdb_query.specs.Parts.{ComesInPart}
use Rattle.mmdb_query.specs.Taking.{Asked, Takes}
use Rattle.mmdb_query.specs.Walks.{Item, Goes}
use Rattle.mmdb_query.specs.Walks.Item.{Found}
use Rattle.mmdb_query.specs.declared.error.QueryError.{QueryError}
use Rattle.mmdb_query.specs.declared.error.QueryError.TheVariants as ends
use Rattle.mmdb_query.specs.declared.part.Part.{Part}
use Rattle.mmdb_query.proofs.PartLaws.{all_parts}

module _ {W X : Type 0} (A : Type 0) (comes : W → List Item → Type 0) (a : Asked X) where
  -- what comes of a part of it
  abbrev pub of_part : Part W A → List Item → Type 0
  of_part p = ComesInPart p.kinds p.range (comes p.walk)

  abbrev pub all_of : W → Part W A
  all_of walk = record { walk = walk; kinds = Both; range = None }

  goes_all : (walk later : W) (items : List Item) → Goes comes walk items later → Goes of_part (all_of walk) items (all_of later)
  goes_all walk later items goes rest (own, come, is) = (items ++ own, goes own come, ap (λ (t : List Item). items ++ t) (is ∙ all_parts own) ∙ sym (all_parts (items ++ own)))

  left_all : (walk : W) (old : X) (text : List ℕ) (e : QueryError) → IsLeft comes a walk old text e → IsLeft of_part a (all_of walk) old text e
  left_all walk old text e (inl none) = inl none
  left_all walk old text e (inr (had, later, goes, says, leaves)) = inr (had, all_of later, goes_all walk later (Found had ∷ []) goes, says, leaves)

  breaks_all : (walk : W) (old : X) (before after : Option (List ℕ)) (e : QueryError) → BreaksOff comes a walk old before after e → BreaksOff of_part a (all_of walk) old before after e
  breaks_all walk old before after e b = record {
    later = all_of b.later;
    items = b.items;
    put = b.put;
    text = b.text;
    part = b.part;
    new = b.new;
    faults = b.faults;
    first = goes_all walk b.later b.items b.first;
    picked = b.picked;
    ran = b.ran;
    left = left_all b.later b.new b.part e b.left;
    written = b.written;
  }

  stops_all : (walk : W) (old : X) (before after : Option (List ℕ)) (e : QueryError) → StopsBy comes a walk old before after e → StopsBy of_part a (all_of walk) old before after e
  stops_all walk old before after ends.Memory b = breaks_all walk old before after ends.Memory b
  stops_all walk old before after (ends.Write x) b = tt
  stops_all walk old before after ends.TooMany (items, later, goes, many) = (items, all_of later, goes_all walk later items goes, many)
  stops_all walk old before after ends.OutOfOrder b = breaks_all walk old before after ends.OutOfOrder b

  is_all : (p : Part W A) → p.kinds ≡ Both → p.range ≡ None → all_of p.walk ≡ p
  is_all p both none = sym (ap (λ (k : Kinds). record { walk = p.walk; kinds = k; range = p.range }) both ∙ ap (λ (r : Option IpNetwork). record { walk = p.walk; kinds = Both; range = r }) none)

  pub stopped_of_all : {T : Type 0} (r : Result T QueryError) (p : Part W A) (old : X) (before after : Option (List ℕ)) → p.kinds ≡ Both → p.range ≡ None
      → IfErr r (StopsBy comes a p.walk old before after) → IfErr r (StopsBy of_part a p old before after)
  stopped_of_all (Ok x) p old before after both none stops = tt
  stopped_of_all (Err e) p old before after both none stops = subst (λ q. StopsBy of_part a q old before after e) (is_all p both none) (stops_all p.walk old before after e stops)

  takes_all : (walk : W) (old new : X) (before after : Option (List ℕ)) (unread : ℕ) → Takes (comes walk) a old new before after unread → Takes (of_part (all_of walk)) a old new before after unread
  takes_all walk old new before after unread t = record {
    items = t.items;
    put = t.put;
    text = t.text;
    come = (t.items, t.come, sym (all_parts t.items));
    picked = t.picked;
    ran = t.ran;
    written = t.written;
  }

  pub taken_of_all : {E : Type 0} (r : Result ℕ E) (p : Part W A) (old new : X) (before after : Option (List ℕ)) → p.kinds ≡ Both → p.range ≡ None
      → IfOk r (Takes (comes p.walk) a old new before after) → IfOk r (Takes (of_part p) a old new before after)
  taken_of_all (Ok unread) p old new before after both none t = subst (λ q. Takes (of_part q) a old new before after unread) (is_all p both none) (takes_all p.walk old new before after unread t)
  taken_of_all (Err e) p old new before after both none t = tt
