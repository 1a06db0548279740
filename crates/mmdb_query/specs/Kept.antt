-- What is kept by numbers of records. It is sound for the data sections of one walk alone.
use Rattle.std.specs.Prelude.{◌≡◌, ◌<◌, ℕ, List, Option, Some, None, Bool, true}
use Rattle.std.specs.List.{All}
use Rattle.std.specs.Global.{Vec}
use Rattle.mmdb_cache.specs.declared.cache.CacheEntry.{CacheEntry}
use Rattle.mmdb_cache.specs.declared.table.Memo.{Memo}
use Rattle.mmdb_query.specs.Keys.{IsKey}
use Rattle.mmdb_query.specs.declared.choice.Choice.{Choice}
use Rattle.mmdb_query.specs.declared.choice.RecordKey.{RecordKey}
use Rattle.mmdb_query.specs.declared.rows.RowMaker.{RowMaker}

-- what a row may have after its network, of the records at these offsets of data sections
abbrev pub MayTail : Type 1
MayTail = List (List ℕ) → List (Option ℕ) → List ℕ → Type 0

-- what conditions may say of the records at these offsets
abbrev pub MaySay : Type 1
MaySay = List (List ℕ) → List (Option ℕ) → Bool → Type 0

-- what is kept for a number is what rows have after their network of all records with that number
abbrev pub IsTailKept : MayTail → List (List ℕ) → Option (CacheEntry (Vec ℕ)) → Type 0
IsTailKept is_tail s None = Unit {0}
IsTailKept is_tail s (Some entry) = (offsets : List (Option ℕ)) → IsKey s offsets entry.key → is_tail s offsets entry.value.items

abbrev pub AreTailsKept : MayTail → List (List ℕ) → List (Option (CacheEntry (Vec ℕ))) → Type 0
AreTailsKept is_tail s kept = All (IsTailKept is_tail s) kept

-- what was made last is what rows have after their network of all records with its number, if it has one
abbrev pub IsLastKept : MayTail → List (List ℕ) → Option ℕ → List ℕ → Type 0
IsLastKept is_tail s None tail = Unit {0}
IsLastKept is_tail s (Some key) tail = (offsets : List (Option ℕ)) → IsKey s offsets key → is_tail s offsets tail

-- all that rows keep is of records of these data sections, and so is what a template keeps to make them
pub record RowsFit {T K : Type 0} (is_tail : T → MayTail) (fits : T → List (List ℕ) → K → Type 0) (s : List (List ℕ)) (maker : RowMaker T K) : Type 0 where
  pub tails : AreTailsKept (is_tail maker.template.now) s maker.kept
  pub last : IsLastKept (is_tail maker.template.now) s maker.last_key maker.last.items
  pub scratch : fits maker.template.now s maker.scratch

-- the number of no records
abbrev pub no_number : ℕ
no_number = 18446744073709551615

abbrev pub IsOfNone : Memo RecordKey Bool → Type 0
IsOfNone memo = memo.key.number ≡ no_number

-- what is kept for a number is whether the records with that number meet all conditions
abbrev pub IsSaid : MaySay → List (List ℕ) → Memo RecordKey Bool → Type 0
IsSaid says s memo = memo.key.number < no_number → (offsets : List (Option ℕ)) → IsKey s offsets memo.key.number → says s offsets memo.value

abbrev pub AreSaid : MaySay → List (List ℕ) → List (Memo RecordKey Bool) → Type 0
AreSaid says s kept = All (IsSaid says s) kept

-- all that a choice keeps is of records of these data sections
pub record ChoiceFits {C : Type 0} (says : C → MaySay) (s : List (List ℕ)) (choice : Choice C) : Type 0 where
  pub said : AreSaid (says choice.conditions.now) s choice.kept
  pub any : choice.are_none ≡ true → (t : List (List ℕ)) (offsets : List (Option ℕ)) → says choice.conditions.now t offsets true

-- a choice that keeps nothing
pub record IsFresh {C : Type 0} (says : C → MaySay) (choice : Choice C) : Type 0 where
  pub none : All IsOfNone choice.kept
  pub any : choice.are_none ≡ true → (t : List (List ℕ)) (offsets : List (Option ℕ)) → says choice.conditions.now t offsets true
