-- How the rows that are left complete the whole.
use Rattle.std.proofs.Common.{◌≡◌, ◌≢◌, ℕ, ◌+◌, ◌<◌, ◌≤◌, List, [], ◌∷◌, ◌++◌, length, take, drop, Option, Some, None, OnSome, refl, sym, ap, ◌∙◌, subst, append_assoc, append-nil, take-append-drop, drop-drop, arith, length-append, ◌⊎◌, inl, inr}
use Rattle.std.proofs.lemmas.List.{append_cancel_left}
use Rattle.std.proofs.KnownBytes.{starts_with_rest}
use Rattle.std.specs.Prelude.{IfSome, Result, Ok, Err, OnOk, OnErr}
use Rattle.std.specs.Io.{StartsWith}
use Rattle.std.specs.Io.KnownBytes.{Appends, Consumes, Keeps, IsAtEnd}
use Rattle.std.proofs.KnownBytes.{Appends-nil, Appends-trans}
use Rattle.mmdb_filter.specs.Counting.{count_one}
use Rattle.mmdb_filter.specs.Rows.{row_from, rows_after, Goes, Leads}
use Rattle.mmdb_filter.specs.Lines.{MayAdd, Line, AreLines, IsAdded, StandsBehind, seen_of, is_long, row_with, written, AppendsFront, IsFiltered, IsBegun}
use Rattle.mmdb_filter.specs.Working.{Passes, PassesFront, UnderWay, GoOn, IsPutFrom, IsBegunWith}
use Rattle.mmdb_filter.specs.declared.counts.Counts.{Counts}
use Rattle.mmdb_filter.specs.declared.counts.Outcome.{Outcome}
use Rattle.mmdb_filter.specs.declared.rows.Rows.{Rows}
use Rattle.mmdb_filter.specs.declared.rows.RowPosition.{RowPosition}
use Rattle.mmdb_filter.specs.declared.rows.RowPosition.TheVariants.{Cell, Ended}
use Rattle.mmdb_filter.proofs.FrontLaws.{appends_kept}
use Rattle.mmdb_filter.proofs.PassLaws.{nothing_left}
use Rattle.mmdb_filter.proofs.RowLaws.{row_from_some, row_from_empty, row_from_ended, rows_after_ended, rows_after_nothing}
use Rattle.mmdb_filter.proofs.TextLaws.{or_less, seen_same}

pub started : (rows : Rows) (Adds : MayAdd) (input old : Option (List ℕ)) (before : Counts) → UnderWay rows Adds input input old old [] before before
started rows Adds None old before = tt
started rows Adds (Some all) old before = ([], Appends-nil old, λ rest lines are. (lines, are, refl, refl))

-- the same where what was written was written out
pub way_kept : (rows : Rows) (Adds : MayAdd) (input left old now new : Option (List ℕ)) (ready : List ℕ) (before c : Counts) → UnderWay rows Adds input left old now ready before c → Keeps now new → UnderWay rows Adds input left old new ready before c
way_kept rows Adds None left old now new ready before c way k = tt
way_kept rows Adds (Some all) None old now new ready before c way k = absurd way
way_kept rows Adds (Some all) (Some xs) old now new ready before c way k = (way.0, appends_kept old now new way.0 way.1 k, way.2)

-- the same where a beginning of what is ready was written, and the input was read
pub refilled : (rows : Rows) (Adds : MayAdd) (input left next old now new : Option (List ℕ)) (ready rest : List ℕ) (before c : Counts)
    → UnderWay rows Adds input left old now ready before c → Keeps left next → IsPutFrom ready rest now new → UnderWay rows Adds input next old new rest before c
refilled rows Adds None left next old now new ready rest before c way k put = tt
refilled rows Adds (Some all) None next old now new ready rest before c way k put = absurd way
refilled rows Adds (Some all) (Some xs) None old now new ready rest before c way k put = absurd k
refilled rows Adds (Some all) (Some xs) (Some ys) old now new ready rest before c way k put =
    let (done, appended, goes_on) = way in
    let (more, split, more_appended) = put in (
      done ++ more,
      Appends-trans old now new done more appended more_appended,
      λ behind lines are.
          let (whole, wholes, text, counts) = goes_on behind lines (subst (λ l. AreLines rows Adds lines l behind) k are) in
          let others = written lines in
          (whole, wholes, text ∙ ap (λ r. done ++ (r ++ others)) split ∙ ap (λ l. done ++ l) (append_assoc more rest others) ∙ sym (append_assoc done more (rest ++ others)), counts),
    )

-- what is seen of a chunk is seen of the row
pub seen_whole : (most : ℕ) (rows : Rows) (position : RowPosition) (chunk ys : List ℕ) → (position ≢ Ended → length chunk < most + 3 → ys ≡ [])
    → (seen_of most (chunk ++ row_from rows position ys) ≡ seen_of most chunk) × (is_long most (chunk ++ row_from rows position ys) ≡ is_long most chunk)
seen_whole most rows position chunk ys ready = at (or_less (length chunk) (most + 3))
  where
    at : (length chunk < most + 3) ⊎ (most + 3 ≤ length chunk) → (seen_of most (chunk ++ row_from rows position ys) ≡ seen_of most chunk) × (is_long most (chunk ++ row_from rows position ys) ≡ is_long most chunk)
    at (inr h) = seen_same most chunk (row_from rows position ys) h
    at (inl h) =
        let same : chunk ++ row_from rows position ys ≡ chunk = ap (λ r. chunk ++ r) (nothing_left rows position ys (λ e. ready e h)).0 ∙ append-nil chunk in
        (ap (seen_of most) same, ap (is_long most) same)

-- a row of which a chunk was read
begins : (rows : Rows) (Adds : MayAdd) (left : List ℕ) (lines : List Line) (position : RowPosition) (chunk extra xs ys : List ℕ) (behind : ℕ) (outcome : Outcome)
    → (row_from rows Cell xs ≡ chunk ++ row_from rows position ys) × (rows_after rows Cell xs ≡ rows_after rows position ys) → (position ≢ Ended → length chunk < Adds.most + 3 → ys ≡ []) → 0 < length chunk
    → IsAdded Adds chunk extra behind outcome → AreLines rows Adds lines (rows_after rows position ys) left
    → AreLines rows Adds (record { bytes = chunk ++ row_from rows position ys; extra = extra; behind = behind; outcome = outcome } ∷ lines) xs left
begins rows Adds left lines position chunk extra xs ys behind outcome leads ready some added are =
    let line : Line = record { bytes = chunk ++ row_from rows position ys; extra = extra; behind = behind; outcome = outcome } in
    let more : 0 < length (row_from rows Cell xs) = omega (arith, ap length leads.0, length-append chunk (row_from rows position ys)) in
    let seen = seen_whole Adds.most rows position chunk ys ready in (
      row_from_some rows Cell xs more,
      sym leads.0,
      subst (λ t. Adds.adds t (is_long Adds.most line.bytes) extra behind outcome × StandsBehind t (is_long Adds.most line.bytes) behind) (sym seen.0)
          (subst (λ b. Adds.adds (seen_of Adds.most chunk) b extra behind outcome × StandsBehind (seen_of Adds.most chunk) b behind) (sym seen.1) added),
      subst (λ t. AreLines rows Adds lines t left) (sym leads.1) are,
    )

regroup_row : (done front last rest : List ℕ) → done ++ ((front ++ last) ++ rest) ≡ (done ++ front) ++ (last ++ rest)
regroup_row done front last rest = simp append_assoc

pub next_row : (rows : Rows) (Adds : MayAdd) (input left mid next old now new : Option (List ℕ)) (before c : Counts) (position : RowPosition) (chunk extra : List ℕ) (behind : ℕ) (outcome : Outcome)
    → Leads rows Cell left chunk position mid → (position ≢ Ended → length chunk < Adds.most + 3 → OnSome left (IsAtEnd mid)) → 0 < length chunk → IsAdded Adds chunk extra behind outcome
    → (last : List ℕ) → ((position ≢ Ended → length chunk < Adds.most + 3 → IsAtEnd mid) → Passes rows position chunk extra behind mid next now new last)
    → UnderWay rows Adds input left old now [] before c → UnderWay rows Adds input next old new last before (count_one c outcome)
next_row rows Adds None left mid next old now new before c position chunk extra behind outcome leads ready some added last passes way = tt
next_row rows Adds (Some all) None mid next old now new before c position chunk extra behind outcome leads ready some added last passes way = absurd way
next_row rows Adds (Some all) (Some xs) None next old now new before c position chunk extra behind outcome leads ready some added last passes way = absurd leads
next_row rows Adds (Some all) (Some xs) (Some ys) next old now new before c position chunk extra behind outcome leads ready some added last passes way =
    let (done, appended, goes_on) = way in
    let (after, (front, make, put)) = passes ready in
    let line : Line = record { bytes = chunk ++ row_from rows position ys; extra = extra; behind = behind; outcome = outcome } in
    subst (λ n. UnderWay rows Adds (Some all) n old new last before (count_one c outcome)) (sym after) (
      done ++ front,
      Appends-trans old now new done front appended put,
      λ rest lines are.
          let (whole, wholes, text, counts) = goes_on rest (line ∷ lines) (begins rows Adds rest lines position chunk extra xs ys behind outcome leads ready some added are) in
          (whole, wholes, text ∙ ap (λ row. done ++ (row ++ written lines)) make ∙ regroup_row done front last (written lines), counts),
    )

-- all was read
pub read_out : (rows : Rows) (Adds : MayAdd) (input left mid old now : Option (List ℕ)) (before c : Counts) (position : RowPosition) (chunk : List ℕ)
    → Leads rows Cell left chunk position mid → (position ≢ Ended → length chunk < Adds.most + 3 → OnSome left (IsAtEnd mid)) → chunk ≡ [] → UnderWay rows Adds input left old now [] before c
    → UnderWay rows Adds input mid old now [] before c × OnSome input (IsAtEnd mid)
read_out rows Adds None left mid old now before c position chunk leads ready none way = (tt, tt)
read_out rows Adds (Some all) None mid old now before c position chunk leads ready none way = absurd way
read_out rows Adds (Some all) (Some xs) None old now before c position chunk leads ready none way = absurd leads
read_out rows Adds (Some all) (Some xs) (Some ys) old now before c position chunk leads ready none way =
    let end = nothing_left rows position ys (λ e. ready e (omega (arith, ap length none))) in
    let left : row_from rows Cell xs ≡ [] = leads.0 ∙ ap (λ p. p ++ row_from rows position ys) none ∙ end.0 in
    let e : xs ≡ [] = row_from_empty rows xs left in
    let over : ys ≡ [] = sym end.1 ∙ sym leads.1 ∙ ap (rows_after rows Cell) e ∙ rows_after_nothing rows Cell in
    (subst (λ t. UnderWay rows Adds (Some all) (Some t) old now [] before c) (e ∙ sym over) way, over)

-- it ends between two rows
pub ended : (rows : Rows) (Adds : MayAdd) (input left old now : Option (List ℕ)) (before c : Counts) → UnderWay rows Adds input left old now [] before c → IsFiltered rows Adds input left old now before c
ended rows Adds None left old now before c way = tt
ended rows Adds (Some all) None old now before c way = absurd way
ended rows Adds (Some all) (Some xs) old now before c way =
    let (done, appended, goes_on) = way in
    let (whole, wholes, text, counts) = goes_on xs [] refl in
    (xs, whole, refl, wholes, subst (λ t. Appends old now t) (sym (text ∙ append-nil done)) appended, sym counts)

-- what is ready was written
pub ready_put : (rows : Rows) (Adds : MayAdd) (input left old now new : Option (List ℕ)) (ready : List ℕ) (before c : Counts) → UnderWay rows Adds input left old now ready before c → Appends now new ready → UnderWay rows Adds input left old new [] before c
ready_put rows Adds None left old now new ready before c way put = tt
ready_put rows Adds (Some all) None old now new ready before c way put = absurd way
ready_put rows Adds (Some all) (Some xs) old now new ready before c way put =
    let (done, appended, goes_on) = way in (
      done ++ ready,
      Appends-trans old now new done ready appended put,
      λ rest lines are.
          let (whole, wholes, text, counts) = goes_on rest lines are in
          (whole, wholes, text ∙ sym (append_assoc done ready (written lines)), counts),
    )

-- rows at hand passed
pub more_ready : (rows : Rows) (Adds : MayAdd) (input left next old now : Option (List ℕ)) (shown ready more : List ℕ) (n : ℕ) (before c after : Counts)
    → n ≤ length shown → IfSome left (λ xs. StartsWith xs shown) → Consumes left next (take n shown) → GoOn rows Adds shown n ready more c after
    → UnderWay rows Adds input left old now ready before c → UnderWay rows Adds input next old now more before after
more_ready rows Adds None left next old now shown ready more n before c after few front taken on way = tt
more_ready rows Adds (Some all) None next old now shown ready more n before c after few front taken on way = absurd way
more_ready rows Adds (Some all) (Some xs) None old now shown ready more n before c after few front taken on way = absurd taken
more_ready rows Adds (Some all) (Some xs) (Some ys) old now shown ready more n before c after few front taken on way =
    let (done, appended, goes_on) = way in
    let z = drop (length shown) xs in
    let whole_is : xs ≡ shown ++ z = starts_with_rest xs shown front in
    let left_is : drop n shown ++ z ≡ ys =
    append_cancel_left (take n shown) (drop n shown ++ z) ys (sym (append_assoc (take n shown) (drop n shown) z) ∙ ap (λ t. t ++ z) (take-append-drop n shown) ∙ sym whole_is ∙ taken) in (
      done,
      appended,
      λ rest lines are.
          let (mid, mids, put, kept) = on z rest lines (subst (λ t. AreLines rows Adds lines t rest) (sym left_is) are) in
          let (whole, wholes, text, counts) = goes_on rest mid (subst (λ t. AreLines rows Adds mid t rest) (sym whole_is) mids) in
          (whole, wholes, text ∙ ap (λ t. done ++ t) put, counts ∙ kept),
    )

-- an input that was kept
pub way_of_kept : (rows : Rows) (Adds : MayAdd) (input left next old now : Option (List ℕ)) (ready : List ℕ) (before c : Counts) → Keeps left next → UnderWay rows Adds input left old now ready before c → UnderWay rows Adds input next old now ready before c
way_of_kept rows Adds None left next old now ready before c k way = tt
way_of_kept rows Adds (Some all) None next old now ready before c k way = absurd way
way_of_kept rows Adds (Some all) (Some xs) None old now ready before c k way = absurd k
way_of_kept rows Adds (Some all) (Some xs) (Some ys) old now ready before c k way = subst (λ t. UnderWay rows Adds (Some all) (Some t) old now ready before c) (sym k) way

-- what holds where bytes are left of a known input
pub end_too : (rows : Rows) (Adds : MayAdd) (input left old now : Option (List ℕ)) (ready : List ℕ) (before c : Counts) (P : Type 0) → UnderWay rows Adds input left old now ready before c → OnSome left P → OnSome input P
end_too rows Adds None left old now ready before c P way p = tt
end_too rows Adds (Some all) None old now ready before c P way p = absurd way
end_too rows Adds (Some all) (Some xs) old now ready before c P way p = p

-- rows of some bytes
pub go_nowhere : (rows : Rows) (Adds : MayAdd) (xs ready : List ℕ) (c : Counts) → GoOn rows Adds xs 0 ready ready c c
go_nowhere rows Adds xs ready c = λ ys rest lines are. (lines, are, refl, refl)

pub go_row : (rows : Rows) (Adds : MayAdd) (xs : List ℕ) (at n : ℕ) (row extra old now new : List ℕ) (behind : ℕ) (outcome : Outcome) (before c : Counts)
    → row ≡ take n (drop at xs) → 0 < n → n ≤ length (drop at xs) → ((ys : List ℕ) → Goes rows Cell (drop at xs ++ ys) (take n (drop at xs)) Ended (drop n (drop at xs) ++ ys))
    → IsAdded Adds row extra behind outcome → new ≡ now ++ row_with row extra behind → GoOn rows Adds xs at old now before c → GoOn rows Adds xs (at + n) old new before (count_one c outcome)
go_row rows Adds xs at n row extra old now new behind outcome before c is some within goes added put on = λ ys rest lines are.
    let line : Line = record { bytes = row; extra = extra; behind = behind; outcome = outcome } in
    let here = drop at xs ++ ys in
    let (row_is, rest_is) = goes ys in
    let left : drop (at + n) xs ++ ys ≡ rows_after rows Cell here = ap (λ t. t ++ ys) (sym (drop-drop n at xs)) ∙ sym (rest_is ∙ rows_after_ended rows (drop n (drop at xs) ++ ys)) in
    let more : 0 < length here = omega (arith, length-append (drop at xs) ys) in
    let first : row ≡ row_from rows Cell here = is ∙ sym (row_is ∙ ap (λ t. take n (drop at xs) ++ t) (row_from_ended rows (drop n (drop at xs) ++ ys)) ∙ append-nil (take n (drop at xs))) in
    let (whole, wholes, text, counts) = on ys rest (line ∷ lines) (more, first, added, subst (λ t. AreLines rows Adds lines t rest) left are) in
    (whole, wholes, text ∙ sym (append_assoc now (row_with row extra behind) (written lines)) ∙ ap (λ t. t ++ written lines) (sym put), counts)

-- it may have ended or failed
pub either : {T E A B : Type 0} (r : Result T E) → OnOk r A → OnErr r B → (A → B) → B
either (Ok x) a b f = f a
either (Err e) a b f = b

-- given up between two rows, and in a row
pub given_up : (rows : Rows) (Adds : MayAdd) (input left old now : Option (List ℕ)) (ready : List ℕ) (before c : Counts) → UnderWay rows Adds input left old now ready before c → IsBegunWith rows Adds input old now ready
given_up rows Adds None left old now ready before c way = tt
given_up rows Adds (Some all) None old now ready before c way = absurd way
given_up rows Adds (Some all) (Some xs) old now ready before c way =
    let (done, appended, goes_on) = way in
    let (whole, wholes, text, counts) = goes_on xs [] refl in
    (xs, whole, done, [], wholes, text, appended)

pub given_up_between : (rows : Rows) (Adds : MayAdd) (input left old now : Option (List ℕ)) (before c : Counts) → UnderWay rows Adds input left old now [] before c → IsBegun rows Adds input old now
given_up_between rows Adds None left old now before c way = tt
given_up_between rows Adds (Some all) None old now before c way = absurd way
given_up_between rows Adds (Some all) (Some xs) old now before c way =
    let (done, appended, goes_on) = way in
    let (whole, wholes, text, counts) = goes_on xs [] refl in
    (xs, whole, wholes, (done, [], text, appended))

pub begun_with : (rows : Rows) (Adds : MayAdd) (input old now : Option (List ℕ)) → IsBegun rows Adds input old now → IsBegunWith rows Adds input old now []
begun_with rows Adds None old now begun = tt
begun_with rows Adds (Some xs) old now begun =
    let (left, lines, are, part) = begun in
    let (front, rest, split, put) = part in
    (left, lines, front, rest, are, split, put)

-- what is ready was written since, or a beginning of it
pub written_out : (rows : Rows) (Adds : MayAdd) (input old now new : Option (List ℕ)) (ready : List ℕ) → IsBegunWith rows Adds input old now ready → Appends now new ready → IsBegun rows Adds input old new
written_out rows Adds None old now new ready begun put = tt
written_out rows Adds (Some xs) old now new ready begun put =
    let (left, lines, done, rest, are, text, appended) = begun in
    (left, lines, are, (done ++ ready, rest, text ∙ sym (append_assoc done ready rest), Appends-trans old now new done ready appended put))

pub written_in : (rows : Rows) (Adds : MayAdd) (input old now new : Option (List ℕ)) (ready : List ℕ) → IsBegunWith rows Adds input old now ready → AppendsFront now new ready → IsBegun rows Adds input old new
written_in rows Adds None old now new ready begun put = tt
written_in rows Adds (Some xs) old now new ready begun (front, back, split, part) =
    let (left, lines, done, rest, are, text, appended) = begun in
    (left, lines, are, (done ++ front, back ++ rest, text ∙ ap (λ t. done ++ t) (ap (λ t. t ++ rest) split ∙ append_assoc front back rest) ∙ sym (append_assoc done front (back ++ rest)), Appends-trans old now new done front appended part))

pub given_up_in : (rows : Rows) (Adds : MayAdd) (input left mid old now new : Option (List ℕ)) (before c : Counts) (position : RowPosition) (chunk extra : List ℕ) (behind : ℕ) (outcome : Outcome)
    → Leads rows Cell left chunk position mid → (position ≢ Ended → length chunk < Adds.most + 3 → OnSome left (IsAtEnd mid)) → 0 < length chunk → IsAdded Adds chunk extra behind outcome
    → ((position ≢ Ended → length chunk < Adds.most + 3 → IsAtEnd mid) → PassesFront rows position chunk extra behind mid now new)
    → UnderWay rows Adds input left old now [] before c → IsBegun rows Adds input old new
given_up_in rows Adds None left mid old now new before c position chunk extra behind outcome leads ready some added passes way = tt
given_up_in rows Adds (Some all) None mid old now new before c position chunk extra behind outcome leads ready some added passes way = absurd way
given_up_in rows Adds (Some all) (Some xs) None old now new before c position chunk extra behind outcome leads ready some added passes way = absurd leads
given_up_in rows Adds (Some all) (Some xs) (Some ys) old now new before c position chunk extra behind outcome leads ready some added passes way =
    let (done, appended, goes_on) = way in
    let (front, rest, split, more) = passes ready in
    let line : Line = record { bytes = chunk ++ row_from rows position ys; extra = extra; behind = behind; outcome = outcome } in
    let (whole, wholes, text, counts) = goes_on (rows_after rows position ys) (line ∷ []) (begins rows Adds (rows_after rows position ys) [] position chunk extra xs ys behind outcome leads ready some added refl) in
    (rows_after rows position ys, whole, wholes, (done ++ front, rest, text ∙ ap (λ t. done ++ t) (append-nil (row_with line.bytes extra behind) ∙ split) ∙ sym (append_assoc done front rest), Appends-trans old now new done front appended more))
