-- How some bytes lead on in a row.
use Rattle.std.proofs.Common.{◌≡◌, ◌≢◌, ℕ, zero, suc, ◌+◌, ◌<◌, ◌≤◌, List, [], ◌∷◌, ◌++◌, length, take, drop, get_or, Option, Some, None, true, false, ◌==◌, if◌then◌else◌, refl, sym, ap, ◌∙◌, subst, append_assoc, arith, eqb-true, eq-eqb, ne_eqb, take-append-drop, take-take, append-nil, IfSome, OnSome}
use Rattle.std.proofs.lemmas.List.{drop_all, drop_more, take_more, append_cancel_left}
use Rattle.std.proofs.KnownBytes.{starts_with_rest}
use Rattle.std.specs.Io.{StartsWith}
use Rattle.std.specs.Io.KnownBytes.{Keeps, Consumes}
use Rattle.mmdb_filter.specs.Rows.{is_ended, position_after, row_from, rows_after, Goes, Leads}
use Rattle.mmdb_filter.specs.declared.rows.Rows.{Rows}
use Rattle.mmdb_filter.specs.declared.rows.Rows.TheVariants.{Lines}
use Rattle.mmdb_filter.specs.declared.rows.RowPosition.{RowPosition}
use Rattle.mmdb_filter.specs.declared.rows.RowPosition.TheVariants.{Cell, Plain, Quoted, Closing, Ended}

pub not_ended : (p : RowPosition) → p ≢ Ended → is_ended p ≡ false
not_ended Cell h = refl
not_ended Plain h = refl
not_ended Quoted h = refl
not_ended Closing h = refl
not_ended Ended h = absurd (h refl)

-- nothing is left of a row after its end, or at the end of the text
pub row_from_ended : (rows : Rows) (xs : List ℕ) → row_from rows Ended xs ≡ []
unfolding row_from
row_from_ended rows [] = refl
row_from_ended rows (x ∷ xs) = refl

pub rows_after_ended : (rows : Rows) (xs : List ℕ) → rows_after rows Ended xs ≡ xs
unfolding rows_after
rows_after_ended rows [] = refl
rows_after_ended rows (x ∷ xs) = refl

pub row_from_nothing : (rows : Rows) (p : RowPosition) → row_from rows p [] ≡ []
unfolding row_from
row_from_nothing rows p = refl

pub rows_after_nothing : (rows : Rows) (p : RowPosition) → rows_after rows p [] ≡ []
unfolding rows_after
rows_after_nothing rows p = refl

-- a row that has begun has a byte
pub row_from_some : (rows : Rows) (p : RowPosition) (xs : List ℕ) → 0 < length (row_from rows p xs) → 0 < length xs
unfolding row_from
row_from_some rows p [] h = h
row_from_some rows p (x ∷ xs) h = omega arith

pub row_from_empty : (rows : Rows) (xs : List ℕ) → row_from rows Cell xs ≡ [] → xs ≡ []
unfolding row_from
row_from_empty rows [] e = refl
row_from_empty rows (x ∷ xs) e = absurd (omega (arith, ap length e))

pub goes_nowhere : (rows : Rows) (p : RowPosition) (xs : List ℕ) → Goes rows p xs [] p xs
goes_nowhere rows p xs = (refl, refl)

pub goes_byte : (rows : Rows) (p : RowPosition) (x : ℕ) (xs : List ℕ) → is_ended p ≡ false → Goes rows p (x ∷ xs) (x ∷ []) (position_after rows p x) xs
unfolding row_from rows_after
goes_byte rows p x xs e = (ap (λ b. if b then [] else x ∷ row_from rows (position_after rows p x) xs) e, ap (λ b. if b then x ∷ xs else rows_after rows (position_after rows p x) xs) e)

pub goes_on : (rows : Rows) (p q r : RowPosition) (xs bs ys cs zs : List ℕ) → Goes rows p xs bs q ys → Goes rows q ys cs r zs → Goes rows p xs (bs ++ cs) r zs
goes_on rows p q r xs bs ys cs zs a b = (a.0 ∙ ap (λ t. bs ++ t) b.0 ∙ sym (append_assoc bs cs (row_from rows r zs)), a.1 ∙ b.1)

-- one byte of a slice further
pub goes_one : (rows : Rows) (p q : RowPosition) (at : ℕ) (bytes : List ℕ) (ys xs : List ℕ) → at < length bytes → is_ended q ≡ false
    → Goes rows p xs (take at bytes) q (drop at bytes ++ ys) → Goes rows p xs (take (at + 1) bytes) (position_after rows q (get_or bytes at 0)) (drop (at + 1) bytes ++ ys)
goes_one rows p q at bytes ys xs l e g =
    let here : drop at bytes ++ ys ≡ get_or bytes at 0 ∷ (drop (at + 1) bytes ++ ys) = ap (λ t. t ++ ys) (drop_more bytes at 0 l) in
    let further = goes_on rows p q (position_after rows q (get_or bytes at 0)) xs (take at bytes) (drop at bytes ++ ys) (get_or bytes at 0 ∷ []) (drop (at + 1) bytes ++ ys) g
    (subst (λ t. Goes rows q t (get_or bytes at 0 ∷ []) (position_after rows q (get_or bytes at 0)) (drop (at + 1) bytes ++ ys)) (sym here) (goes_byte rows q (get_or bytes at 0) (drop (at + 1) bytes ++ ys) e)) in
    subst (λ t. Goes rows p xs t (position_after rows q (get_or bytes at 0)) (drop (at + 1) bytes ++ ys)) (sym (take_more bytes at 0 l)) further

line_feed : (d : ℕ) (p : RowPosition) (x : ℕ) → x ≡ 10 → position_after (Lines d) p x ≡ Ended
unfolding position_after
line_feed d p x e = ap (λ b. if b then Ended else p) (eq-eqb x 10 e)

no_line_feed : (d : ℕ) (p : RowPosition) (x : ℕ) → ((x == 10) ≡ true → ⊥) → position_after (Lines d) p x ≡ p
unfolding position_after
no_line_feed d p x h = ap (λ b. if b then Ended else p) (ne_eqb x 10 (λ e. h (eq-eqb x 10 e)))

-- bytes that are no line feed
pub goes_plain : (d : ℕ) (p : RowPosition) (at : ℕ) (bytes ys : List ℕ) → is_ended p ≡ false → at ≤ length bytes → ((k : ℕ) → k < at → (get_or bytes k 0 == 10) ≡ true → ⊥)
    → Goes (Lines d) p (bytes ++ ys) (take at bytes) p (drop at bytes ++ ys)
goes_plain d p zero bytes ys e l h = goes_nowhere (Lines d) p (bytes ++ ys)
goes_plain d p (suc at) bytes ys e l h =
    let before = goes_plain d p at bytes ys e (omega arith) (λ k below. h k (omega arith)) in
    let one = goes_one (Lines d) p p at bytes ys (bytes ++ ys) (omega arith) e before in
    let same : suc at ≡ at + 1 = omega arith in
    subst (λ n. Goes (Lines d) p (bytes ++ ys) (take n bytes) p (drop n bytes ++ ys)) (sym same)
    (subst (λ q. Goes (Lines d) p (bytes ++ ys) (take (at + 1) bytes) q (drop (at + 1) bytes ++ ys)) (no_line_feed d p (get_or bytes at 0) (h at (omega arith))) one)

-- and the line feed after them
pub goes_through : (d : ℕ) (p : RowPosition) (at : ℕ) (bytes ys : List ℕ) → is_ended p ≡ false → at < length bytes → ((k : ℕ) → k < at → (get_or bytes k 0 == 10) ≡ true → ⊥) → (get_or bytes at 0 == 10) ≡ true
    → Goes (Lines d) p (bytes ++ ys) (take (at + 1) bytes) Ended (drop (at + 1) bytes ++ ys)
goes_through d p at bytes ys e l h is =
    let before = goes_plain d p at bytes ys e (omega arith) h in
    subst (λ q. Goes (Lines d) p (bytes ++ ys) (take (at + 1) bytes) q (drop (at + 1) bytes ++ ys)) (line_feed d p (get_or bytes at 0) (eqb-true _ _ is)) (goes_one (Lines d) p p at bytes ys (bytes ++ ys) l e before)

-- the row that is first in some bytes
pub goes_within : (rows : Rows) (p q : RowPosition) (n : ℕ) (bytes : List ℕ) → ((ys : List ℕ) → Goes rows p (bytes ++ ys) (take n bytes) q (drop n bytes ++ ys)) → Goes rows p bytes (take n bytes) q (drop n bytes)
goes_within rows p q n bytes g = subst (λ t. Goes rows p t (take n bytes) q (drop n bytes)) (append-nil bytes) (subst (λ t. Goes rows p (bytes ++ []) (take n bytes) q t) (append-nil (drop n bytes)) (g []))

pub first_ended : (rows : Rows) (q : RowPosition) (n : ℕ) (bytes : List ℕ) → q ≡ Ended → Goes rows Cell bytes (take n bytes) q (drop n bytes)
    → (row_from rows Cell bytes ≡ take n bytes) × (rows_after rows Cell bytes ≡ drop n bytes)
first_ended rows q n bytes e g =
    let ended = subst (λ q. Goes rows Cell bytes (take n bytes) q (drop n bytes)) e g in
    (ended.0 ∙ ap (λ r. take n bytes ++ r) (row_from_ended rows (drop n bytes)) ∙ append-nil (take n bytes), ended.1 ∙ rows_after_ended rows (drop n bytes))

pub first_goes_on : (rows : Rows) (q : RowPosition) (n : ℕ) (bytes : List ℕ) → n ≡ length bytes → Goes rows Cell bytes (take n bytes) q (drop n bytes) → rows_after rows Cell bytes ≡ []
first_goes_on rows q n bytes e g = g.1 ∙ ap (rows_after rows q) (drop_all n bytes (omega (arith, e))) ∙ rows_after_nothing rows q

-- the same where bytes may be unknown
pub leads_nowhere : (rows : Rows) (p : RowPosition) (left : Option (List ℕ)) → Leads rows p left [] p left
leads_nowhere rows p None = tt
leads_nowhere rows p (Some xs) = goes_nowhere rows p xs

pub leads_on : (rows : Rows) (p q r : RowPosition) (a b c : Option (List ℕ)) (bs cs : List ℕ) → Leads rows p a bs q b → Leads rows q b cs r c → Leads rows p a (bs ++ cs) r c
leads_on rows p q r None b c bs cs g h = tt
leads_on rows p q r (Some xs) None c bs cs g h = absurd g
leads_on rows p q r (Some xs) (Some ys) None bs cs g h = absurd h
leads_on rows p q r (Some xs) (Some ys) (Some zs) bs cs g h = goes_on rows p q r xs bs ys cs zs g h

pub leads_kept : (rows : Rows) (p q : RowPosition) (a b c : Option (List ℕ)) (bs : List ℕ) → Leads rows p a bs q b → Keeps b c → Leads rows p a bs q c
leads_kept rows p q None b c bs g k = tt
leads_kept rows p q (Some xs) None c bs g k = absurd g
leads_kept rows p q (Some xs) (Some ys) None bs g k = absurd k
leads_kept rows p q (Some xs) (Some ys) (Some zs) bs g k = subst (λ t. Goes rows p xs bs q t) (sym k) g

pub leads_behind : (rows : Rows) (p q : RowPosition) (a b c : Option (List ℕ)) (bs : List ℕ) → Keeps a b → Leads rows p b bs q c → Leads rows p a bs q c
leads_behind rows p q None b c bs k g = tt
leads_behind rows p q (Some xs) None c bs k g = absurd k
leads_behind rows p q (Some xs) (Some ys) None bs k g = absurd g
leads_behind rows p q (Some xs) (Some ys) (Some zs) bs k g = subst (λ t. Goes rows p t bs q zs) k g

-- the end of an input that was kept
pub end_behind : (a b : Option (List ℕ)) (P : Type 0) → Keeps a b → OnSome b P → OnSome a P
end_behind None b P k h = tt
end_behind (Some xs) None P k h = absurd k
end_behind (Some xs) (Some ys) P k h = h

-- what was consumed of the bytes that the input showed
pub leads_shown : (rows : Rows) (p q : RowPosition) (a c : Option (List ℕ)) (shown : List ℕ) (room n : ℕ) → n ≤ room → IfSome a (λ xs. StartsWith xs shown) → Consumes a c (take n shown)
    → ((ys : List ℕ) → Goes rows p (take room shown ++ ys) (take n (take room shown)) q (drop n (take room shown) ++ ys)) → Leads rows p a (take n shown) q c
leads_shown rows p q None c shown room n l front e g = tt
leads_shown rows p q (Some xs) None shown room n l front e g = absurd e
leads_shown rows p q (Some xs) (Some ys) shown room n l front e g =
    let s = take room shown in
    let z = drop room shown ++ drop (length shown) xs in
    let whole : s ++ z ≡ xs =
    sym (append_assoc s (drop room shown) (drop (length shown) xs)) ∙ ap (λ t. t ++ drop (length shown) xs) (take-append-drop room shown) ∙ sym (starts_with_rest xs shown front) in
    let same : take n s ≡ take n shown = take-take n room shown l in
    let left : drop n s ++ z ≡ ys =
    append_cancel_left (take n s) (drop n s ++ z) ys (sym (append_assoc (take n s) (drop n s) z) ∙ ap (λ t. t ++ z) (take-append-drop n s) ∙ whole ∙ e ∙ ap (λ t. t ++ ys) (sym same)) in
    subst (λ t. Goes rows p xs t q ys) same (subst (λ t. Goes rows p t (take n s) q ys) whole (subst (λ t. Goes rows p (s ++ z) (take n s) q t) left (g z)))
