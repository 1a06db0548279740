-- How a type is decoded.
use Rattle.std.specs.Prelude.{◌≡◌, Bool, true, false}
use Rattle.mmdb_decode.specs.Reading.{Meaning}
use Rattle.mmdb_record.specs.declared.decode.Decode.{Ghosts}

-- What a type says of itself: what its values say, what is where it is read, whether this meaning is exact, whether a
-- reading at the start begins a budget, and whether a success takes no memory.
pub record Decoding (X A : Type 0) : Type 0 where
  pub datum : X → A
  pub meaning : Meaning A
  pub exact : Bool
  pub starts : Bool
  pub free : Bool

abbrev pub decoding : {X : Type 0} → (t : Ghosts X) → Decoding X t.Datum
decoding t =
    record { datum = t.datum; meaning = t.meaning; exact = t.exact; starts = t.starts; free = t.free }

-- a type whose values say so, which is read so, exactly, and begins a budget or takes memory or not
pub record IsShape {X A : Type 0} (of : Decoding X A) (says : X → A) (read : Meaning A) (budget no_memory : Bool) : Type 0 where
  pub agrees : (v : X) → of.datum v ≡ says v
  pub is_read : of.meaning ≡ read
  pub is_exact : of.exact ≡ true
  pub begins : of.starts ≡ budget
  pub takes_none : of.free ≡ no_memory

-- a scalar, a text or a byte string that is lent: no budget, no memory
abbrev pub IsScalarShape : {X A : Type 0} → Decoding X A → (X → A) → Meaning A → Type 0
IsScalarShape of says read = IsShape of says read false true

-- a small number: it begins a budget, and takes no memory
abbrev pub IsSmallShape : {X A : Type 0} → Decoding X A → (X → A) → Meaning A → Type 0
IsSmallShape of says read = IsShape of says read true true

-- a text or a byte string of one's own: no budget, but memory
abbrev pub IsOwnedShape : {X A : Type 0} → Decoding X A → (X → A) → Meaning A → Type 0
IsOwnedShape of says read = IsShape of says read false false

-- a container or any value: a budget, and memory
abbrev pub IsContainerShape : {X A : Type 0} → Decoding X A → (X → A) → Meaning A → Type 0
IsContainerShape of says read = IsShape of says read true false
