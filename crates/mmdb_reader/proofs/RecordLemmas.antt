-- Records that can be read, by the set of their offsets.
use Rattle.std.proofs.Common.{◌≡◌, ◌↔◌, ℕ, suc, List, [], ◌∷◌, Bool, true, inl, inr, sym, subst, ◌∙◌, arith}
use Rattle.std.specs.List.{Contains}
use Rattle.mmdb_format.specs.Error.{Kind, OfDatabase, OfIo, OfDecoding, OfLimit, OfNetwork, OfInput, OfMemory, kind_of, MemoryApart}
use Rattle.mmdb_format.specs.declared.error.MaxMindDbError.{MaxMindDbError}
use Rattle.mmdb_format.specs.declared.error.MaxMindDbError.TheVariants.{InvalidDatabase, Io, Decoding, ResourceLimit, InvalidNetwork, InvalidInput, Memory}
use Rattle.mmdb_offsets.specs.OffsetSet.{holds}
use Rattle.mmdb_offsets.proofs.Members.{In, any-in, in-any}
use Rattle.mmdb_check.proofs.Members.{contains-in}
use Rattle.mmdb_costs.specs.Readable.{IsReadable, AreReadable, IsGoodAt, AreGoodAt}
use Rattle.mmdb_value.proofs.StandingLaws.{answer_is_whole_value}
use Rattle.mmdb_tree.specs.Stops.{offsets}
use Rattle.mmdb_reader.specs.File.{Database, data_section}
use Rattle.mmdb_reader.specs.Stops.{stops}
use Rattle.mmdb_reader.specs.Working.{HoldsOffsets}
use Rattle.mmdb_reader.specs.Whole.{IsWhole, HasReadableRecords}
use Rattle.mmdb_reader.specs.WholeLaws.{RecordsAreDecoded}
use Rattle.mmdb_reader.proofs.WholeLemmas.{value_good}
use Rattle.mmdb_reader.proofs.AliasedLookups.{answered_offsets_are_walked}

-- ---- errors of one kind

abbrev ApartAs : Kind → Type 0 → Type 0
ApartAs OfMemory P = Unit {0}
ApartAs _ P = P

to_kind : (e : MaxMindDbError) (P : Type 0) → MemoryApart e P → ApartAs (kind_of e) P
to_kind (InvalidDatabase message offset) P h = h
to_kind (Io error) P h = h
to_kind (Decoding message offset path) P h = h
to_kind (ResourceLimit message offset path) P h = h
to_kind (InvalidNetwork error) P h = h
to_kind (InvalidInput message) P h = h
to_kind Memory P h = h

of_kind : (e : MaxMindDbError) (P : Type 0) → ApartAs (kind_of e) P → MemoryApart e P
of_kind (InvalidDatabase message offset) P h = h
of_kind (Io error) P h = h
of_kind (Decoding message offset path) P h = h
of_kind (ResourceLimit message offset path) P h = h
of_kind (InvalidNetwork error) P h = h
of_kind (InvalidInput message) P h = h
of_kind Memory P h = h

pub apart_as : (a b : MaxMindDbError) (P : Type 0) → kind_of a ≡ kind_of b → MemoryApart b P → MemoryApart a P
apart_as a b P same h = of_kind a P (subst (λ (kind : Kind). ApartAs kind P) (sym same) (to_kind b P h))

-- ---- offsets of a set

in_contains : (ps : List ℕ) (q : ℕ) → In q ps → Contains ps q
in_contains [] q h = absurd h
in_contains (p ∷ ps) q (inl is) = (0, omega arith, is)
in_contains (p ∷ ps) q (inr h) = let w = in_contains ps q h in (suc w.0, let below = w.1 in omega (arith, below), w.2)

held_contains : (db : Database) (set : List Bool) (q : ℕ) → HoldsOffsets db set → holds set q ≡ true → Contains (offsets (stops db)) q
held_contains db set q has h = in_contains (offsets (stops db)) q (any-in q (offsets (stops db)) (sym (has q) ∙ h))

pub held_good : (db : Database) (section : List ℕ) (set : List Bool) → section ≡ data_section db → HoldsOffsets db set → IsWhole db → AreGoodAt section set
held_good db section set same has whole q h = subst (λ s. IsGoodAt s q) (sym same) (value_good db q whole.values (held_contains db set q has h))

pub held_readable : (db : Database) (section : List ℕ) (set : List Bool) → section ≡ data_section db → HoldsOffsets db set → AreReadable section set ↔ HasReadableRecords db
held_readable db section set same has = (
  (λ all q there. subst (λ s. IsReadable s q) same (all q (has q ∙ in-any q (offsets (stops db)) (contains-in (offsets (stops db)) q there)))),
  (λ all q h. subst (λ s. IsReadable s q) (sym same) (all q (held_contains db set q has h))),
)

-- ---- lookups

pub records_are_decoded : RecordsAreDecoded
records_are_decoded db whole readable address leaf offset at =
    let found = readable offset (answered_offsets_are_walked db whole.tree.faultless address leaf offset at) in
    (found.0, (answer_is_whole_value true (data_section db) offset found.0).1 found.1)
