-- What a file in the making has after each call.
use Rattle.std.proofs.Common.{◌≡◌, inl, inr, take, ℕ, zero, suc, List, [], ◌∷◌, ◌++◌, length, map, Option, Some, None, Result, Ok, Err, IfOk, IfErr, Vec, Global, refl, ap, sym, ◌∙◌, subst}
use Rattle.std.specs.List.{AllByRecursion, AllZip, slice_get}
use Rattle.std.specs.Map.{lookup}
use Rattle.std.specs.Str.{bytes_eq}
use Rattle.std.proofs.lemmas.List.{length-map, map-append}
use Rattle.mmdb_format.specs.Unfolding.{Tree}
use Rattle.mmdb_nodes.specs.declared.entry.NodeEntry.{NodeEntry}
use Rattle.mmdb_section.specs.declared.value.SectionPart.TheVariants.{At}
use Rattle.mmdb_section.specs.Known.{HasEachOnce}
use Rattle.mmdb_section.specs.Bytes.{shape_bytes}
use Rattle.mmdb_section.specs.Sections.{Tile, Shape}
use Rattle.mmdb_value.specs.declared.any_value.Value.{Value}
use Rattle.mmdb_value.specs.Values.{value_tree}
use Rattle.mmdb_writer.specs.declared.error.WriteError.{WriteError}
use Rattle.mmdb_writer.specs.declared.error.WriteError.TheVariants as errors
use Rattle.mmdb_writer.specs.declared.limits.ValueError.{ValueError}
use Rattle.mmdb_writer.specs.declared.options.Options.{Options}
use Rattle.mmdb_writer.specs.declared.row.Row.{Row}
use Rattle.mmdb_writer.specs.declared.row.RowError.{RowError}
use Rattle.mmdb_writer.specs.declared.writer.Writer.{Writer}
use Rattle.mmdb_writer.specs.Errors.{IsWrongRow, IsErrorOf, IsOfOptions, IsOfRow}
use Rattle.mmdb_writer.specs.Limits.{CanBeRead, Exceeds}
use Rattle.mmdb_writer.specs.Making.{AllBegin, IsOffsetOf, IsEntryOf, IsMadeOf, Stays, IsErrorAfterValue, IsErrorAfterRow, IsErrorAfter, Writes, HasFullSection, DoesNotFit, IsNotMeant, DoesNotFitAfter, IsNotMeantAfter, IsTooLarge}
use Rattle.mmdb_writer.specs.Layout.{IsLaidOut}
use Rattle.mmdb_writer.proofs.LayoutLemmas.{has_added, still_large}
use Rattle.mmdb_writer.specs.Written.{IsWritten}
use Rattle.mmdb_writer.specs.Working.{HoldsBeside, Keeps, IsFileOf}
use Rattle.mmdb_writer.proofs.FileLemmas.{writes_of}
use Rattle.mmdb_writer.proofs.RowLemmas.{zip_snoc}
use Rattle.mmdb_writer.proofs.SectionLemmas.{still_all, all_snoc}

-- ---- lists

at_front : {X : Type 0} (xs ys : List X) (i : ℕ) (x : X) → slice_get xs i ≡ Some x → slice_get (xs ++ ys) i ≡ Some x
at_front [] ys i x at = absurd (cc)
at_front (z ∷ zs) ys zero x at = at
at_front (z ∷ zs) ys (suc i) x at = at_front zs ys i x at

at_end : {X : Type 0} (xs : List X) (x : X) → slice_get (xs ++ x ∷ []) (length xs) ≡ Some x
at_end [] x = refl
at_end (z ∷ zs) x = at_end zs x

all_more : {X : Type 0} (P : X → Type 0) (xs : List X) (x : X) → AllByRecursion P xs → P x → AllByRecursion P (xs ++ x ∷ [])
all_more P [] x all last = (last, tt)
all_more P (z ∷ zs) x all last = (all.0, all_more P zs x all.1 last)

as_many_zipped : {A B : Type 0} (R : A → B → Type 0) (xs : List A) (ys : List B) → AllZip R xs ys → length ys ≡ length xs
as_many_zipped R [] [] all = refl
as_many_zipped R [] (y ∷ ys) all = absurd all
as_many_zipped R (x ∷ xs) [] all = absurd all
as_many_zipped R (x ∷ xs) (y ∷ ys) all = ap suc (as_many_zipped R xs ys all.1)

-- one value has one offset
as_many : (tiles : List Tile) (vs : List Tree) (offsets : List ℕ) → AllBegin tiles vs offsets → length offsets ≡ length vs
as_many tiles [] [] h = refl
as_many tiles [] (o ∷ os) h = absurd h
as_many tiles (v ∷ vs) [] h = absurd h
as_many tiles (v ∷ vs) (o ∷ os) h = ap suc (as_many tiles vs os h.1)

-- ---- entries stay those of their rows where more values are added

still_offset : (offsets more : List ℕ) (value found : Option ℕ) → IsOffsetOf offsets value found → IsOffsetOf (offsets ++ more) value found
still_offset offsets more None found h = h
still_offset offsets more (Some index) found h = (h.0, at_front offsets more index h.0 h.1, h.2)

still_entries : (offsets more : List ℕ) (rows : List Row) (entries : List NodeEntry) → AllZip (IsEntryOf offsets) rows entries → AllZip (IsEntryOf (offsets ++ more)) rows entries
still_entries offsets more [] [] all = tt
still_entries offsets more [] (e ∷ es) all = absurd all
still_entries offsets more (r ∷ rs) [] all = absurd all
still_entries offsets more (r ∷ rs) (e ∷ es) all = (
  record { block = all.0.block; bits = all.0.bits; offset = still_offset offsets more r.value e.offset all.0.offset },
  still_entries offsets more rs es all.1,
)

-- ---- what calls do

module _ (values : List Value) (rows : List Row) (options : Options) (old : Writer) (made : IsMadeOf values rows options old) where
  pub values_so_far : length old.offsets.items ≡ length values
  values_so_far = as_many made.tiles (map value_tree values) old.offsets.items made.begin ∙ length-map values value_tree

  pub rows_so_far : length old.entries.items ≡ length rows
  rows_so_far = as_many_zipped (IsEntryOf old.offsets.items) rows old.entries.items made.entries_are

  pub value_added : (value : Value) (new : Writer) (offset : ℕ) → CanBeRead (value_tree value) → HoldsBeside (value_tree value) old.section new.section (At offset)
      → new.options ≡ old.options → new.offsets.items ≡ old.offsets.items ++ offset ∷ [] → new.entries ≡ old.entries → IsMadeOf (values ++ value ∷ []) rows options new
  value_added value new offset can puts same grown kept =
      let put = puts made.tiles made.once in
      let tiles : List Tile = made.tiles ++ put.more in
      let all : AllBegin tiles (map value_tree values ++ value_tree value ∷ []) (old.offsets.items ++ offset ∷ []) =
      all_snoc tiles (map value_tree values) old.offsets.items (value_tree value) offset (still_all made.tiles put.more (map value_tree values) old.offsets.items made.begin) put.is_part in
      record {
        options_are = same ∙ made.options_are;
        readable = all_more (λ v. CanBeRead (value_tree v)) values value made.readable can;
        tiles = tiles;
        once = put.once;
        begin = subst (AllBegin tiles (map value_tree (values ++ value ∷ []))) (sym grown)
            (subst (λ (vs : List Tree). AllBegin tiles vs (old.offsets.items ++ offset ∷ [])) (sym (map-append value_tree values (value ∷ []))) all);
        entries_are = subst (λ (os : List ℕ). AllZip (IsEntryOf os) rows new.entries.items) (sym grown)
            (subst (λ es. AllZip (IsEntryOf (old.offsets.items ++ offset ∷ [])) rows es.items) (sym kept) (still_entries old.offsets.items (offset ∷ []) rows old.entries.items made.entries_are));
      }

  pub row_added : (row : Row) (new : Writer) (entry : NodeEntry) → IsEntryOf old.offsets.items row entry
      → new.options ≡ old.options → new.section ≡ old.section → new.offsets ≡ old.offsets → new.entries.items ≡ old.entries.items ++ entry ∷ [] → IsMadeOf values (rows ++ row ∷ []) options new
  row_added row new entry is same section offsets grown = record {
    options_are = same ∙ made.options_are;
    readable = made.readable;
    tiles = made.tiles;
    once = subst (HasEachOnce made.tiles) (sym section) made.once;
    begin = subst (λ os. AllBegin made.tiles (map value_tree values) os.items) (sym offsets) made.begin;
    entries_are = subst (λ os. AllZip (IsEntryOf os.items) (rows ++ row ∷ []) new.entries.items) (sym offsets)
        (subst (AllZip (IsEntryOf old.offsets.items) (rows ++ row ∷ [])) (sym grown) (zip_snoc (IsEntryOf old.offsets.items) rows old.entries.items row entry made.entries_are is));
  }

-- a section that has more, and nothing else that is new
pub stays_grown : (old new : Writer) → new.options ≡ old.options → new.offsets.items ≡ old.offsets.items → new.entries.items ≡ old.entries.items → Keeps old.section new.section → Stays old new
stays_grown old new same offsets entries keeps = λ values rows options made.
    let h = keeps made.tiles made.once in
    record {
      options_are = same ∙ made.options_are;
      readable = made.readable;
      tiles = made.tiles ++ h.0;
      once = h.1;
      begin = subst (AllBegin (made.tiles ++ h.0) (map value_tree values)) (sym offsets) (still_all made.tiles h.0 (map value_tree values) old.offsets.items made.begin);
      entries_are = subst (λ (os : List ℕ). AllZip (IsEntryOf os) rows new.entries.items) (sym offsets) (subst (AllZip (IsEntryOf old.offsets.items) rows) (sym entries) made.entries_are);
    }

-- ---- errors

pub value_error : (value : Value) (writer : Writer) (index : ℕ) (error : ValueError) → index ≡ length writer.offsets.items → Exceeds error (value_tree value) → IsErrorAfterValue value writer (errors.Value index error)
value_error value writer index error next exceeds = λ values rows options made.
    (value, subst (λ (n : ℕ). slice_get (values ++ value ∷ []) n ≡ Some value) (sym (next ∙ values_so_far values rows options writer made)) (at_end values value), exceeds)

pub row_error : (row : Row) (writer : Writer) (index : ℕ) (error : RowError) → index ≡ length writer.entries.items → IsWrongRow writer.options.ip_version (length writer.offsets.items) row error → IsErrorAfterRow row writer (errors.Row index error)
row_error row writer index error next wrong = λ values rows options made. (
  row,
  subst (λ (n : ℕ). slice_get (rows ++ row ∷ []) n ≡ Some row) (sym (next ∙ rows_so_far values rows options writer made)) (at_end rows row),
  subst (λ (o : Options). IsWrongRow o.ip_version (length values) row error) made.options_are
      (subst (λ (n : ℕ). IsWrongRow writer.options.ip_version n row error) (values_so_far values rows options writer made) wrong),
)

-- an error of the first values is one of all, and one of the first rows too
pub more_values : (values more : List Value) (rows : List Row) (options : Options) (e : WriteError) → IsErrorOf values [] options e → IsErrorOf (values ++ more) rows options e
more_values values more rows options (errors.Options error) h = h
more_values values more rows options (errors.Value index error) h = (h.0, at_front values more index h.0 h.1, h.2)
more_values values more rows options (errors.Row index error) h = let at = h.1 in absurd (cc)
more_values values more rows options errors.Memory h = h
more_values values more rows options errors.TooLarge h = h
more_values values more rows options errors.NotAsMeant h = h

pub more_rows : (values : List Value) (rows more : List Row) (options : Options) (e : WriteError) → IsErrorOf values rows options e → IsErrorOf values (rows ++ more) options e
more_rows values rows more options (errors.Options error) h = h
more_rows values rows more options (errors.Value index error) h = h
more_rows values rows more options (errors.Row index error) h = (h.0, at_front rows more index h.0 h.1, h.2)
more_rows values rows more options errors.Memory h = h
more_rows values rows more options errors.TooLarge h = h
more_rows values rows more options errors.NotAsMeant h = h

-- the file of what was laid out has what was added
pub written_if : (writer : Writer) (section : List ℕ) (entries : List NodeEntry) (r : Result (Vec ℕ Global) WriteError) → IsLaidOut writer.section.bytes writer.offsets.items writer.entries.items section entries
    → IfOk r (λ file. IsFileOf writer.options section entries file.items) → IfOk r (λ file. Writes writer file.items)
written_if writer section entries (Ok file) laid f = λ values rows options made.
    subst (λ (o : Options). IsWritten values rows o file.items) made.options_are (writes_of writer.options section entries file.items values rows f made.readable (has_added values rows options writer made section entries laid))
written_if writer section entries (Err e) laid f = tt

pub large_if : (writer : Writer) (section : List ℕ) (entries : List NodeEntry) (r : Result (Vec ℕ Global) WriteError) → IsLaidOut writer.section.bytes writer.offsets.items writer.entries.items section entries
    → IfErr r (λ e. e ≡ errors.TooLarge → DoesNotFit writer.options section entries) → IfErr r (λ e. e ≡ errors.TooLarge → DoesNotFitAfter writer)
large_if writer section entries (Ok file) laid f = tt
large_if writer section entries (Err e) laid f = λ is values rows options made.
    still_large values rows options writer made section entries laid (subst (λ (o : Options). DoesNotFit o section entries) made.options_are (f is))

pub not_meant_if : (writer : Writer) (section : List ℕ) (entries : List NodeEntry) (r : Result (Vec ℕ Global) WriteError) → IsLaidOut writer.section.bytes writer.offsets.items writer.entries.items section entries
    → IfErr r (λ e. e ≡ errors.NotAsMeant → IsNotMeant writer.options section entries) → IfErr r (λ e. e ≡ errors.NotAsMeant → IsNotMeantAfter writer)
not_meant_if writer section entries (Ok file) laid f = tt
not_meant_if writer section entries (Err e) laid f = λ is values rows options made.
    (section, entries, has_added values rows options writer made section entries laid, subst (λ (o : Options). IsNotMeant o section entries) made.options_are (f is))

pub file_written : (writer : Writer) (values : List Value) (rows : List Row) (options : Options) (r : Result (Vec ℕ Global) WriteError) → IsMadeOf values rows options writer → IfOk r (λ file. Writes writer file.items) → IfOk r (λ file. IsWritten values rows options file.items)
file_written writer values rows options (Ok file) made writes = writes values rows options made
file_written writer values rows options (Err e) made writes = tt

pub file_explained : (writer : Writer) (values : List Value) (rows : List Row) (options : Options) (r : Result (Vec ℕ Global) WriteError) → IsMadeOf values rows options writer → IfErr r (IsErrorAfter writer) → IfErr r (IsErrorOf values rows options)
file_explained writer values rows options (Ok file) made explained = tt
file_explained writer values rows options (Err e) made explained = explained values rows options made

-- ---- a file without values and rows

pub made_empty : (options : Options) (writer : Writer) → writer.options ≡ options → writer.section.bytes ≡ [] → writer.section.added ≡ [] → writer.offsets.items ≡ [] → writer.entries.items ≡ [] → IsMadeOf [] [] options writer
made_empty options writer same bytes added offsets entries = record {
  options_are = same;
  readable = tt;
  tiles = [];
  once = record {
    has = record {
      are = record { chain = sym (ap length bytes); each = tt };
      known = λ shape offset is. absurd (none_known shape offset (sym (ap (lookup (bytes_eq (shape_bytes shape))) added) ∙ is));
    };
    each = tt;
  };
  begin = subst (AllBegin [] []) (sym offsets) tt;
  entries_are = subst (AllZip (IsEntryOf writer.offsets.items) []) (sym entries) tt;
} where
  none_known : (shape : Shape) (offset : ℕ) → lookup (bytes_eq (shape_bytes shape)) [] ≡ Some offset → ⊥
  none_known shape offset is = cc

-- ---- what is too large

pub value_too_large : (values : List Value) (rows : List Row) (options : Options) (count : ℕ) (old new : Writer) → IsMadeOf (take count values) [] options old → Stays old new → HasFullSection new → IsTooLarge values rows options
value_too_large values rows options count old new made stays full = inl (count, new, stays (take count values) [] options made, full)

pub no_large_row : (e : WriteError) → IsOfRow e → e ≡ errors.TooLarge → ⊥
no_large_row e (inl memory) is = let h : errors.Memory ≡ errors.TooLarge = sym memory ∙ is in cc
no_large_row e (inr (index, error, same)) is = let h : errors.Row index error ≡ errors.TooLarge = sym same ∙ is in cc

pub no_large_options : (e : WriteError) → IsOfOptions e → e ≡ errors.TooLarge → ⊥
no_large_options e (error, same) is = let h : errors.Options error ≡ errors.TooLarge = sym same ∙ is in cc

pub file_too_large : (writer : Writer) (values : List Value) (rows : List Row) (options : Options) (r : Result (Vec ℕ Global) WriteError) → IsMadeOf values rows options writer
    → IfErr r (λ e. e ≡ errors.TooLarge → DoesNotFitAfter writer) → IfErr r (λ e. e ≡ errors.TooLarge → IsTooLarge values rows options)
file_too_large writer values rows options (Ok file) made large = tt
file_too_large writer values rows options (Err e) made large = λ is. inr (writer, made, large is values rows options made)
