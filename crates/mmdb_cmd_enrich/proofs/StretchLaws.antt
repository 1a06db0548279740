-- Rows that pass in two stretches, one after the other, pass as in one.
use Rattle.std.proofs.Common.{◌≡◌, ℕ, List, [], ◌∷◌, ◌++◌, Option, Some, None, OnSome, refl, sym, ap, ◌∙◌, subst, append_assoc, append-nil}
use Rattle.std.specs.Prelude.{Result, Ok, Err, OnErr, OnOk}
use Rattle.std.specs.Io.KnownBytes.{Appends, IsAtEnd}
use Rattle.std.proofs.KnownBytes.{Appends-nil, Appends-trans}
use Rattle.mmdb_filter.specs.Counting.{count_one}
use Rattle.mmdb_filter.specs.Rows.{rows_after}
use Rattle.mmdb_filter.specs.Lines.{MayAdd, Line, AreLines, AppendsFront, IsFiltered, IsBegun, row_with, written, counted}
use Rattle.mmdb_filter.specs.declared.counts.Counts.{Counts}
use Rattle.mmdb_filter.specs.declared.rows.Rows.{Rows}
use Rattle.mmdb_filter.specs.declared.rows.RowPosition.TheVariants.{Cell}
use Rattle.mmdb_reader.specs.File.{Database}
use Rattle.mmdb_cmd_enrich.specs.Stretches.{Stretch, AreStretches, IsEnriched, IsEnrichedFront, additions_of, lines_of}
use Rattle.mmdb_cmd_enrich.specs.Template.{Template}

lines_then : (rows : Rows) (adds : MayAdd) (lines more : List Line) (xs ys zs : List ℕ) → AreLines rows adds lines xs ys → AreLines rows adds more ys zs → AreLines rows adds (lines ++ more) xs zs
lines_then rows adds [] more xs ys zs are then = subst (λ t. AreLines rows adds more t zs) are then
lines_then rows adds (line ∷ lines) more xs ys zs are then = (are.0, are.1, are.2, lines_then rows adds lines more (rows_after rows Cell xs) ys zs are.3 then)

pub written_then : (lines more : List Line) → written (lines ++ more) ≡ written lines ++ written more
written_then [] more = refl
written_then (line ∷ lines) more =
    let row = row_with line.bytes line.extra line.behind in
    ap (λ t. row ++ t) (written_then lines more) ∙ sym (append_assoc row (written lines) (written more))

pub counted_then : (before : Counts) (lines more : List Line) → counted before (lines ++ more) ≡ counted (counted before lines) more
counted_then before [] more = refl
counted_then before (line ∷ lines) more = counted_then (count_one before line.outcome) lines more

-- no row passed
pub none_filtered : (rows : Rows) (adds : MayAdd) (input old : Option (List ℕ)) (before : Counts) → IsFiltered rows adds input input old old before before
none_filtered rows adds None old before = tt
none_filtered rows adds (Some xs) old before = (xs, [], refl, refl, Appends-nil old, refl)

pub none_begun : (rows : Rows) (adds : MayAdd) (input old : Option (List ℕ)) → IsBegun rows adds input old old
none_begun rows adds None old = tt
none_begun rows adds (Some xs) old = (xs, [], refl, ([], [], refl, Appends-nil old))

-- rows that passed are a beginning
pub begun_by : (rows : Rows) (adds : MayAdd) (input left old new : Option (List ℕ)) (before counts : Counts) → IsFiltered rows adds input left old new before counts → IsBegun rows adds input old new
begun_by rows adds None left old new before counts is = tt
begun_by rows adds (Some xs) left old new before counts (ys, lines, kept, are, put, count) = (ys, lines, are, (written lines, [], sym (append-nil (written lines)), put))

pub filtered_then : (rows : Rows) (adds : MayAdd) (input mid left old now new : Option (List ℕ)) (before counts after : Counts)
    → IsFiltered rows adds input mid old now before counts → IsFiltered rows adds mid left now new counts after → IsFiltered rows adds input left old new before after
filtered_then rows adds None mid left old now new before counts after is then = tt
filtered_then rows adds (Some xs) mid left old now new before counts after (ys, lines, kept, are, put, count) then =
    let (zs, more, rest, are_more, put_more, count_more) = subst (λ m. IsFiltered rows adds m left now new counts after) kept then in (
      zs,
      lines ++ more,
      rest,
      lines_then rows adds lines more xs ys zs are are_more,
      subst (λ t. Appends old new t) (sym (written_then lines more)) (Appends-trans old now new (written lines) (written more) put put_more),
      count_more ∙ ap (λ c. counted c more) count ∙ sym (counted_then before lines more),
    )

front_then : (old now new : Option (List ℕ)) (first second : List ℕ) → Appends old now first → AppendsFront now new second → AppendsFront old new (first ++ second)
front_then old now new first second put (front, rest, split, put_more) =
    (first ++ front, rest, ap (λ t. first ++ t) split ∙ sym (append_assoc first front rest), Appends-trans old now new first front put put_more)

pub begun_then : (rows : Rows) (adds : MayAdd) (input mid old now new : Option (List ℕ)) (before counts : Counts)
    → IsFiltered rows adds input mid old now before counts → IsBegun rows adds mid now new → IsBegun rows adds input old new
begun_then rows adds None mid old now new before counts is then = tt
begun_then rows adds (Some xs) mid old now new before counts (ys, lines, kept, are, put, count) then =
    let (left, more, are_more, front) = subst (λ m. IsBegun rows adds m now new) kept then in (
      left,
      lines ++ more,
      lines_then rows adds lines more xs ys left are are_more,
      subst (λ t. AppendsFront old new t) (sym (written_then lines more)) (front_then old now new (written lines) (written more) put front),
    )

pub end_then : (rows : Rows) (adds : MayAdd) (input mid left old now : Option (List ℕ)) (before counts : Counts) → IsFiltered rows adds input mid old now before counts → OnSome mid (IsAtEnd left) → OnSome input (IsAtEnd left)
end_then rows adds None mid left old now before counts is end = tt
end_then rows adds (Some xs) mid left old now before counts is end = subst (λ m. OnSome m (IsAtEnd left)) is.2 end

-- a stretch after others
last_of : Template → List Database → List Line → Stretch
last_of template dbs lines = record { template = template; databases = dbs; lines = lines }

stretches_then : (rows : Rows) (Are : Template → List Database → Type 0) (template : Template) (dbs : List Database) (stretches : List Stretch) (lines : List Line) (xs ys zs : List ℕ)
    → AreStretches rows Are stretches xs ys → Are template dbs → AreLines rows (additions_of template dbs) lines ys zs → AreStretches rows Are (stretches ++ (last_of template dbs lines ∷ [])) xs zs
unfolding last_of
stretches_then rows Are template dbs [] lines xs ys zs before is are = (zs, is, subst (λ t. AreLines rows (additions_of template dbs) lines t zs) before are, refl)
stretches_then rows Are template dbs (stretch ∷ stretches) lines xs ys zs before is are =
    (before.0, before.1, before.2, stretches_then rows Are template dbs stretches lines before.0 ys zs before.3 is are)

lines_then_last : (template : Template) (dbs : List Database) (stretches : List Stretch) (lines : List Line) → lines_of (stretches ++ (last_of template dbs lines ∷ [])) ≡ lines_of stretches ++ lines
unfolding last_of
lines_then_last template dbs [] lines = append-nil lines
lines_then_last template dbs (stretch ∷ stretches) lines =
    ap (λ l. stretch.lines ++ l) (lines_then_last template dbs stretches lines) ∙ sym (append_assoc stretch.lines (lines_of stretches) lines)

pub none_enriched : (rows : Rows) (Are : Template → List Database → Type 0) (input old : Option (List ℕ)) (before : Counts) → IsEnriched rows Are input input old old before before
none_enriched rows Are None old before = tt
none_enriched rows Are (Some xs) old before = (xs, [], refl, refl, Appends-nil old, refl)

pub enriched_then : (rows : Rows) (Are : Template → List Database → Type 0) (template : Template) (dbs : List Database) (input mid left old now new : Option (List ℕ)) (before counts after : Counts)
    → Are template dbs → IsEnriched rows Are input mid old now before counts → IsFiltered rows (additions_of template dbs) mid left now new counts after → IsEnriched rows Are input left old new before after
enriched_then rows Are template dbs None mid left old now new before counts after is so then = tt
enriched_then rows Are template dbs (Some xs) mid left old now new before counts after is (ys, stretches, kept, are, put, count) then =
    let (zs, lines, rest, are_more, put_more, count_more) = subst (λ m. IsFiltered rows (additions_of template dbs) m left now new counts after) kept then in
    let all = lines_then_last template dbs stretches lines in
    let first = lines_of stretches in (
      zs,
      stretches ++ (last_of template dbs lines ∷ []),
      rest,
      stretches_then rows Are template dbs stretches lines xs ys zs are is are_more,
      subst (λ l. Appends old new (written l)) (sym all) (subst (λ t. Appends old new t) (sym (written_then first lines)) (Appends-trans old now new (written first) (written lines) put put_more)),
      count_more ∙ ap (λ c. counted c lines) count ∙ sym (counted_then before first lines) ∙ ap (λ l. counted before l) (sym all),
    )

pub enriched_front : (rows : Rows) (Are : Template → List Database → Type 0) (input left old new : Option (List ℕ)) (before counts : Counts) → IsEnriched rows Are input left old new before counts → IsEnrichedFront rows Are input old new
enriched_front rows Are None left old new before counts is = tt
enriched_front rows Are (Some xs) left old new before counts (ys, stretches, kept, are, put, count) =
    let text = written (lines_of stretches) in (ys, stretches, are, (text, [], sym (append-nil text), put))

pub enriched_begun : (rows : Rows) (Are : Template → List Database → Type 0) (template : Template) (dbs : List Database) (input mid old now new : Option (List ℕ)) (before counts : Counts)
    → Are template dbs → IsEnriched rows Are input mid old now before counts → IsBegun rows (additions_of template dbs) mid now new → IsEnrichedFront rows Are input old new
enriched_begun rows Are template dbs None mid old now new before counts is so then = tt
enriched_begun rows Are template dbs (Some xs) mid old now new before counts is (ys, stretches, kept, are, put, count) then =
    let (left, lines, are_more, front) = subst (λ m. IsBegun rows (additions_of template dbs) m now new) kept then in
    let all = lines_then_last template dbs stretches lines in
    let first = lines_of stretches in (
      left,
      stretches ++ (last_of template dbs lines ∷ []),
      stretches_then rows Are template dbs stretches lines xs ys left are is are_more,
      subst (λ l. AppendsFront old new (written l)) (sym all) (subst (λ t. AppendsFront old new t) (sym (written_then first lines)) (front_then old now new (written first) (written lines) put front)),
    )

pub enriched_end : (rows : Rows) (Are : Template → List Database → Type 0) (input mid left old now : Option (List ℕ)) (before counts : Counts)
    → IsEnriched rows Are input mid old now before counts → OnSome mid (IsAtEnd left) → OnSome input (IsAtEnd left)
enriched_end rows Are None mid left old now before counts is end = tt
enriched_end rows Are (Some xs) mid left old now before counts is end = subst (λ m. OnSome m (IsAtEnd left)) is.2 end

-- the same rows, output and counts
pub filtered_at : (rows r : Rows) (adds : MayAdd) (input left old o new : Option (List ℕ)) (before b after : Counts)
    → rows ≡ r → old ≡ o → before ≡ b → IsFiltered rows adds input left old new before after → IsFiltered r adds input left o new b after
filtered_at rows r adds input left old o new before b after same_rows same_output same_counts is =
    subst (λ t. IsFiltered t adds input left o new b after) same_rows
    (subst (λ t. IsFiltered rows adds input left t new b after) same_output (subst (λ t. IsFiltered rows adds input left old new t after) same_counts is))

pub begun_at : (rows r : Rows) (adds : MayAdd) (input old o new : Option (List ℕ)) → rows ≡ r → old ≡ o → IsBegun rows adds input old new → IsBegun r adds input o new
begun_at rows r adds input old o new same_rows same_output is =
    subst (λ t. IsBegun t adds input o new) same_rows (subst (λ t. IsBegun rows adds input t new) same_output is)

-- what holds in any case holds of an error
pub on_any_err : {T E A : Type 0} (r : Result T E) → A → OnErr r A
on_any_err (Ok x) a = tt
on_any_err (Err e) a = a

-- what follows of a fact
pub on_err : {T E A B : Type 0} (r : Result T E) → (A → B) → OnErr r A → OnErr r B
on_err (Ok x) f a = tt
on_err (Err e) f a = f a

pub on_ok : {T E A B : Type 0} (r : Result T E) → (A → B) → OnOk r A → OnOk r B
on_ok (Ok x) f a = f a
on_ok (Err e) f a = tt
