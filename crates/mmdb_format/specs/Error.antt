-- What a contract says of an error: its kind, and what it was made of.
use Rattle.std.specs.Prelude.{◌≡◌, ◌⊎◌, ℕ, List, Option, Some, None, option_map, string_bytes, Result, Ok, Err}
use Rattle.mmdb_format.specs.Message.{message_made}
use Rattle.mmdb_format.specs.declared.error.MaxMindDbError.{MaxMindDbError}
use Rattle.mmdb_format.specs.declared.error.MaxMindDbError.TheVariants.{InvalidDatabase, Io, Decoding, ResourceLimit, InvalidNetwork, InvalidInput, Memory}

-- the variants, without what they hold
pub data Kind : Type 0 where
  OfDatabase : Kind
  OfIo : Kind
  OfDecoding : Kind
  OfLimit : Kind
  OfNetwork : Kind
  OfInput : Kind
  OfMemory : Kind

abbrev pub kind_of : MaxMindDbError → Kind
kind_of (InvalidDatabase message offset) = OfDatabase
kind_of (Io e) = OfIo
kind_of (Decoding message offset path) = OfDecoding
kind_of (ResourceLimit message offset path) = OfLimit
kind_of (InvalidNetwork e) = OfNetwork
kind_of (InvalidInput message) = OfInput
kind_of Memory = OfMemory

-- Memory apart: the error is for memory, which ran out, or this holds of it. A call whose
-- contract says so owes nothing where a growth failed, the making of an error's text included.
abbrev pub MemoryApart : MaxMindDbError → Type 0 → Type 0
MemoryApart Memory P = Unit {0}
MemoryApart (InvalidDatabase message offset) P = P
MemoryApart (Io e) P = P
MemoryApart (Decoding message offset path) P = P
MemoryApart (ResourceLimit message offset path) P = P
MemoryApart (InvalidNetwork e) P = P
MemoryApart (InvalidInput message) P = P

-- the error is of this kind, or for memory
abbrev pub IsOfOrMemory : Kind → MaxMindDbError → Type 0
IsOfOrMemory kind e = (kind_of e ≡ kind) ⊎ (kind_of e ≡ OfMemory)

-- the call failed, with an error of this kind
abbrev pub FailsAs : {T : Type 0} → Kind → Result T MaxMindDbError → Type 0
FailsAs kind (Ok x) = ⊥
FailsAs kind (Err e) = kind_of e ≡ kind

-- what a constructor is given
pub record Parts : Type 0 where
  pub kind : Kind
  pub message : List ℕ
  pub offset : Option ℕ
  pub path : Option (List ℕ)

abbrev pub parts : Kind → List ℕ → Option ℕ → Option (List ℕ) → Parts
parts kind message offset path = record { kind = kind; message = message; offset = offset; path = path }

-- the error holds copies of what its constructor was given, or is for memory
abbrev pub IsMadeOf : Parts → MaxMindDbError → Type 0
IsMadeOf p (InvalidDatabase message offset) =
    (p.kind ≡ OfDatabase) × ((message_made message ≡ Some p.message) × ((offset ≡ p.offset) × (p.path ≡ None)))
IsMadeOf p (Decoding message offset path) =
    (p.kind ≡ OfDecoding) × ((message_made message ≡ Some p.message) × ((offset ≡ p.offset) × (option_map (λ text. string_bytes text.value) path ≡ p.path)))
IsMadeOf p (ResourceLimit message offset path) =
    (p.kind ≡ OfLimit) × ((message_made message ≡ Some p.message) × ((offset ≡ p.offset) × (option_map (λ text. string_bytes text.value) path ≡ p.path)))
IsMadeOf p (InvalidInput message) =
    (p.kind ≡ OfInput) × ((message_made message ≡ Some p.message) × ((p.offset ≡ None) × (p.path ≡ None)))
IsMadeOf p (Io e) = ⊥
IsMadeOf p (InvalidNetwork e) = ⊥
IsMadeOf p Memory = Unit {0}

-- an error that is made of a cause is of this variant, and holds that cause
abbrev pub HoldsCause : {C : Type 0} → (C → MaxMindDbError) → (C → MaxMindDbError → Type 0) → Type 0
HoldsCause {C = C} variant gives = (cause : C) (e : MaxMindDbError) → gives cause e → e ≡ variant cause
