-- What a file is, by its last marker.
use Rattle.std.proofs.Common.{◌≡◌, ℕ, List, false, Option, Some, None, arith, sym, ◌∙◌, ap, subst}
use Rattle.mmdb_format.specs.Error.{MemoryApart}
use Rattle.mmdb_format.specs.declared.error.MaxMindDbError.{MaxMindDbError}
use Rattle.mmdb_format.specs.declared.error.MaxMindDbError.TheVariants.{InvalidDatabase, Io, Decoding, ResourceLimit, InvalidNetwork, InvalidInput, Memory}
use Rattle.mmdb_decode.specs.Errors.{Fails}
use Rattle.mmdb_reader.specs.Metadata.{MetadataDatum}
use Rattle.mmdb_reader.specs.File.{Database, database, IsLastMarker, IsSupported, HasRoom, metadata_section}
use Rattle.mmdb_reader.specs.Source.{metadata_read, IsDatabaseOf, IsNoDatabase}
use Rattle.mmdb_reader.specs.Working.{HasNoMarker}

-- what follows from what is claimed memory apart, is claimed so too
pub apart : (e : MaxMindDbError) (P Q : Type 0) → (P → Q) → MemoryApart e P → MemoryApart e Q
apart (InvalidDatabase message offset) P Q f p = f p
apart (Io error) P Q f p = f p
apart (Decoding message offset path) P Q f p = f p
apart (ResourceLimit message offset path) P Q f p = f p
apart (InvalidNetwork error) P Q f p = f p
apart (InvalidInput message) P Q f p = f p
apart Memory P Q f p = p

-- what an error of a reading says, memory apart
pub apart_from_reading : {A : Type 0} (e : MaxMindDbError) (read : Option A) (P : Type 0) → (read ≡ None → P) → Fails false e read → MemoryApart e P
apart_from_reading (InvalidDatabase message offset) read P f p = f p
apart_from_reading (Io error) read P f p = f p
apart_from_reading (Decoding message offset path) read P f p = f p
apart_from_reading (ResourceLimit message offset path) read P f p = f p
apart_from_reading (InvalidNetwork error) read P f p = f p
apart_from_reading (InvalidInput message) read P f p = f p
apart_from_reading Memory read P f p = tt

-- a file has one last marker
pub one_marker : (file : List ℕ) (a b : ℕ) → IsLastMarker file a → IsLastMarker file b → a ≡ b
one_marker file a b p q = let low = q.last a p.stands in let high = p.last b q.stands in omega arith

-- without a marker a file is no database
pub no_marker : (file bytes : List ℕ) → bytes ≡ file → HasNoMarker bytes → IsNoDatabase file
no_marker file bytes same none db is =
    let P : List ℕ → Type 0 = λ b. HasNoMarker b in subst P same none db.marker is.marker.stands

-- with what is read after its last marker a file can be one database alone
only_metadata : (file : List ℕ) (marker : ℕ) (read : Option MetadataDatum) (db : Database) → IsLastMarker file marker → metadata_read (metadata_section file marker) ≡ read → IsDatabaseOf file db → read ≡ Some db.metadata
only_metadata file marker read db last reads is =
    let e = one_marker file marker db.marker last is.marker in
    sym reads ∙ ap (λ m. metadata_read (metadata_section file m)) e ∙ is.metadata.reads

-- without metadata after its last marker a file is no database
pub no_metadata : (file bytes : List ℕ) (marker : ℕ) (section : List ℕ) → bytes ≡ file → IsLastMarker bytes marker → section ≡ metadata_section bytes marker → metadata_read section ≡ None → IsNoDatabase file
no_metadata file bytes marker section same last cut reads db is =
    let P : List ℕ → Type 0 = λ b. IsDatabaseOf b db in
    let none = only_metadata bytes marker None db last (ap metadata_read (sym cut) ∙ reads) (subst P (sym same) is) in
    cc

-- with metadata that are not supported, or no room, a file is no database
pub not_accepted : (file bytes : List ℕ) (marker : ℕ) (section : List ℕ) (metadata : MetadataDatum) → bytes ≡ file → IsLastMarker bytes marker → section ≡ metadata_section bytes marker → metadata_read section ≡ Some metadata
    → ¬ (IsSupported metadata × HasRoom (database file marker metadata)) → IsNoDatabase file
not_accepted file bytes marker section metadata same last cut reads rejected db is =
    let P : List ℕ → Type 0 = λ b. IsDatabaseOf b db in
    let here = subst P (sym same) is in
    let read = only_metadata bytes marker (Some metadata) db last (ap metadata_read (sym cut) ∙ reads) here in
    let equal : metadata ≡ db.metadata = cc in
    let at = one_marker bytes marker db.marker last here.marker in
    let S : MetadataDatum → Type 0 = λ m. IsSupported m in
    let R : ℕ → Type 0 = λ m. HasRoom (database file m db.metadata) in
    let T : MetadataDatum → Type 0 = λ m. HasRoom (database file marker m) in
    rejected (subst S (sym equal) is.metadata.supported, subst T (sym equal) (subst R (sym at) is.room))

-- two databases of one file are equal
pub one_database : (file : List ℕ) (a b : Database) → IsDatabaseOf file a → IsDatabaseOf file b → a ≡ b
one_database file a b p q =
    let marker = one_marker file a.marker b.marker p.marker q.marker in
    let read = only_metadata file a.marker (Some a.metadata) b p.marker p.metadata.reads q in
    let metadata : a.metadata ≡ b.metadata = cc in
    let bytes : a.bytes ≡ b.bytes = p.bytes ∙ sym q.bytes in
    ap (λ x. database x a.marker a.metadata) bytes ∙ ap (λ x. database b.bytes x a.metadata) marker ∙ ap (λ x. database b.bytes b.marker x) metadata
