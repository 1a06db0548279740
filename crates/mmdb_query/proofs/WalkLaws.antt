-- Walks.
use Rattle.std.proofs.Common.{◌≡◌, ℕ, List, [], ◌∷◌, ◌++◌, map, Option, Some, None, Result, Ok, Err, IfSome, IfOk, sym, ap, ◌∙◌, subst, append_assoc}
use Rattle.std.specs.declared.convert.AsSlice.{Ghosts}
use Rattle.mmdb_format.specs.Error.{MemoryApart}
use Rattle.mmdb_format.specs.declared.error.MaxMindDbError.{MaxMindDbError}
use Rattle.mmdb_format.specs.declared.error.MaxMindDbError.TheVariants.{Memory, InvalidDatabase, Io, Decoding, ResourceLimit, InvalidNetwork, InvalidInput}
use Rattle.mmdb_reader.specs.File.{Database, data_section}
use Rattle.mmdb_reader.specs.Found.{database_asked, leaf_of, offset_found, shown_as_ipv4}
use Rattle.mmdb_reader.specs.Enumeration.{database_walked, items_to_come, YieldsItem}
use Rattle.mmdb_reader.specs.declared.lookup_result.LookupResult.{LookupResult}
use Rattle.mmdb_reader.specs.declared.within.Within.{Within}
use Rattle.mmdb_query.specs.Had.{shown_bits, had_alone, section_alone}
use Rattle.mmdb_query.specs.Walks.{Item, Goes, IsStep, item_listed, section_walked, comes_alone}
use Rattle.mmdb_query.specs.Walks.Item.{Found, Unread}

-- what holds anyhow holds unless memory is out
pub apart : {P : Type 0} (e : MaxMindDbError) → P → MemoryApart e P
apart Memory p = tt
apart (InvalidDatabase message offset) p = p
apart (Io e) p = p
apart (Decoding message offset path) p = p
apart (ResourceLimit message offset path) p = p
apart (InvalidNetwork e) p = p
apart (InvalidInput message) p = p

-- ---- one database

module _ {S : Type 0} {G : Ghosts S ℕ} where
  pub step_alone : (w v : Within S G) (r : Option (Result (LookupResult S G) MaxMindDbError)) → YieldsItem w r v → IsStep comes_alone had_alone w r v
  step_alone w v None is = sym (ap (map (item_listed (database_walked w))) is.0.0)
  step_alone w v (Some (Ok r)) is = λ rest comes.
      let db = database_walked w in
      let left = items_to_come v in
      let f : Database → Item = λ (d : Database). Found (record { bits = shown_bits d (leaf_of r) (shown_as_ipv4 r); as_ipv4 = shown_as_ipv4 r; offsets = offset_found r ∷ [] }) in
      ap (λ (l : List Item). f (database_asked r) ∷ l) (comes ∙ ap (λ (d : Database). map (item_listed d) left) is.1.0)
      ∙ ap (λ (d : Database). f d ∷ map (item_listed db) left) is.1.1
      ∙ sym (ap (map (item_listed db)) is.0)
  step_alone w v (Some (Err e)) is = apart e (λ rest comes.
      let db = database_walked w in
      ap (λ (l : List Item). Unread ∷ l) (comes ∙ ap (λ (d : Database). map (item_listed d) (items_to_come v)) is.1.0)
      ∙ sym (ap (map (item_listed db)) is.0))

  pub of_alone : (w v : Within S G) (r : Option (Result (LookupResult S G) MaxMindDbError)) → YieldsItem w r v → IfSome r (λ item. IfOk item (λ answer. section_alone answer ≡ section_walked w))
  of_alone w v None is = tt
  of_alone w v (Some (Ok r)) is = ap (λ (d : Database). data_section d ∷ []) is.1.1
  of_alone w v (Some (Err e)) is = tt

-- ---- any walk

pub goes_none : {W : Type 0} (comes : W → List Item → Type 0) (w : W) → Goes comes w [] w
goes_none comes w = λ rest come. come

pub goes_on : {W : Type 0} (comes : W → List Item → Type 0) (first now next : W) (done more : List Item) → Goes comes first done now → Goes comes now more next → Goes comes first (done ++ more) next
goes_on comes first now next done more p q = λ rest come. subst (comes first) (sym (append_assoc done more rest)) (p (more ++ rest) (q rest come))
