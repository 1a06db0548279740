-- The text of a list, line by line.
use Rattle.std.proofs.Common.{◌≡◌, ◌+◌, ◌≤◌, ◌⊎◌, ℕ, List, [], ◌∷◌, ◌++◌, length, Option, Some, None, Result, Ok, Err, OnErr, inl, inr, arith, sym, ap, ◌∙◌, subst, refl, append_assoc, append-nil}
use Rattle.std.proofs.lemmas.List.{length-append}
use Rattle.std.specs.Io.KnownBytes.{Appends}
use Rattle.std.proofs.KnownBytes.{Appends-trans}
use Rattle.mmdb_net.specs.declared.network.IpNetwork.{IpNetwork}
use Rattle.mmdb_reader.specs.declared.options.WithinOptions.{WithinOptions}
use Rattle.mmdb_reader.specs.File.{Database}
use Rattle.mmdb_reader.specs.Items.{Item, items_of}
use Rattle.mmdb_reader.specs.Listing.{Listed, IsListing, listed}
use Rattle.mmdb_reader.specs.Shown.{block_in}
use Rattle.mmdb_reader.proofs.ListingLemmas.{range_walk_lists}
use Rattle.mmdb_tool.specs.Lines.{line_of, lines_of}
use Rattle.mmdb_tool.specs.Putting.{AppendsFront}
use Rattle.mmdb_tool.specs.ListText.{BeginsList, HasPutChunk, IfDatabase, chunk_bytes}
use Rattle.mmdb_tool.specs.declared.list.ListError.{ListError}
use Rattle.mmdb_tool.specs.declared.list.ListError.TheVariants.{Database as database_error, Write, Stopped}

lines_of-cons : (db : Database) (i : Item) (rest : List Item) → lines_of db (i ∷ rest) ≡ line_of db i ++ lines_of db rest
unfolding lines_of
lines_of-cons db i rest = refl

lines_of-nil : (db : Database) → lines_of db [] ≡ []
unfolding lines_of
lines_of-nil db = refl

regroup_four : (a b c d : List ℕ) → (a ++ b) ++ (c ++ d) ≡ a ++ ((b ++ c) ++ d)
regroup_four a b c d = simp append_assoc

-- one more line of the text
pub one_more : (db : Database) (all done line : List ℕ) (here : List Item) (i : Item) (rest : List Item)
    → all ≡ done ++ lines_of db here → here ≡ i ∷ rest → line ≡ line_of db i → all ≡ (done ++ line) ++ lines_of db rest
one_more db all done line here i rest split step is_line =
    split ∙ ap (λ (h : List Item). done ++ lines_of db h) step ∙ ap (λ (t : List ℕ). done ++ t) (lines_of-cons db i rest)
    ∙ ap (λ (t : List ℕ). done ++ (t ++ lines_of db rest)) (sym is_line) ∙ sym (append_assoc done line (lines_of db rest))

-- what is put of the lines that are held leaves the rest of them
pub some_put : (all done front left lines rest : List ℕ) → all ≡ done ++ (lines ++ rest) → lines ≡ front ++ left → all ≡ (done ++ front) ++ (left ++ rest)
some_put all done front left lines rest split is_front =
    split ∙ ap (λ (t : List ℕ). done ++ (t ++ rest)) is_front ∙ sym (regroup_four done front left rest)

-- a line more is held
pub one_held : (db : Database) (all done held line : List ℕ) (here : List Item) (i : Item) (rest : List Item)
    → all ≡ done ++ (held ++ lines_of db here) → here ≡ i ∷ rest → line ≡ line_of db i → all ≡ done ++ ((held ++ line) ++ lines_of db rest)
one_held db all done held line here i rest split step is_line =
    split ∙ ap (λ (h : List Item). done ++ (held ++ lines_of db h)) step ∙ ap (λ (t : List ℕ). done ++ (held ++ t)) (lines_of-cons db i rest)
    ∙ ap (λ (t : List ℕ). done ++ (held ++ (t ++ lines_of db rest))) (sym is_line) ∙ ap (λ (t : List ℕ). done ++ t) (sym (append_assoc held line (lines_of db rest)))

-- the whole text, where nothing is left but what is held
pub all_held : (db : Database) (all done held : List ℕ) (here : List Item) → all ≡ done ++ (held ++ lines_of db here) → here ≡ [] → all ≡ done ++ held
all_held db all done held here split none =
    split ∙ ap (λ (h : List Item). done ++ (held ++ lines_of db h)) none ∙ ap (λ (t : List ℕ). done ++ (held ++ t)) (lines_of-nil db) ∙ ap (λ (t : List ℕ). done ++ t) (append-nil held)

-- the whole text, where nothing is left
pub none_left : (db : Database) (all done : List ℕ) (here : List Item) → all ≡ done ++ lines_of db here → here ≡ [] → all ≡ done
none_left db all done here split none =
    split ∙ ap (λ (h : List Item). done ++ lines_of db h) none ∙ ap (λ (t : List ℕ). done ++ t) (lines_of-nil db) ∙ append-nil done

regroup : (a b c d : List ℕ) → (a ++ (b ++ c)) ++ d ≡ (a ++ b) ++ (c ++ d)
regroup a b c d = simp append_assoc

-- a part of one more line is a beginning of the text
pub part_more : (a b c : Option (List ℕ)) (all done line rest : List ℕ) → all ≡ (done ++ line) ++ rest → Appends a b done → AppendsFront b c line → AppendsFront a c all
part_more a b c all done line rest split before part = record {
  front = done ++ part.front;
  rest = part.rest ++ rest;
  is_front = split ∙ ap (λ (t : List ℕ). (done ++ t) ++ rest) part.is_front ∙ regroup done part.front part.rest rest;
  appended = Appends-trans a b c done part.front before part.appended;
}

pub Appends-none : (held : Option (List ℕ)) → Appends held held []
Appends-none None = tt
Appends-none (Some bytes) = sym (append-nil bytes)

-- where nothing was put, the text has begun
pub not_begun : (db : Database) (options : WithinOptions) (range : IpNetwork) (held : Option (List ℕ)) → BeginsList db options range held held
not_begun db options range held = record {
  list = listed db options (block_in db range);
  is_listing = range_walk_lists db options (block_in db range);
  written = record { front = []; rest = lines_of db (items_of db (listed db options (block_in db range))); is_front = refl; appended = Appends-none held };
}

-- the text of the items that were to come is that of the list
pub text_of_list : (first walked db : Database) (all come : List Item) (list : List Listed) → first ≡ walked → walked ≡ db → all ≡ come → come ≡ items_of walked list
    → lines_of db (items_of db list) ≡ lines_of first all
text_of_list first walked db all come list p q r s =
    ap (λ d. lines_of d (items_of d list)) (sym q) ∙ ap (lines_of walked) (sym s) ∙ ap (λ d. lines_of d come) (sym p) ∙ ap (lines_of first) (sym r)

pub listing_of : (walked db : Database) (options : WithinOptions) (range : IpNetwork) (list : List Listed) → walked ≡ db → IsListing walked options (block_in db range) list → IsListing db options (block_in db range) list
listing_of walked db options range list same is =
    let P : Database → Type 0 = λ d. IsListing d options (block_in db range) list in subst P same is

-- what holds of an error holds under a premise too
pub on_err_given : {T E : Type 0} (r : Result T E) (C P : Type 0) → P → OnErr r (C → P)
on_err_given (Ok x) C P p = tt
on_err_given (Err e) C P p = λ _. p

-- what holds anyway holds where the database is named
if_database : {T : Type 0} (r : Result T ListError) (P : Type 0) → P → IfDatabase r P
if_database (Ok x) P p = tt
if_database (Err (database_error e)) P p = p
if_database (Err (Write e)) P p = tt
if_database (Err Stopped) P p = tt

-- a sink is as it was, or a chunk was put
pub kept_more : {S : Type 0} (initial before after : S) (done front left lines : List ℕ) → (before ≡ initial) ⊎ (chunk_bytes ≤ length done) → (after ≡ before) ⊎ ((left ≡ []) × (chunk_bytes ≤ length lines)) → lines ≡ front ++ left
    → (after ≡ initial) ⊎ (chunk_bytes ≤ length (done ++ front))
kept_more initial before after done front left lines (inl same) (inl more) is_front = inl (more ∙ same)
kept_more initial before after done front left lines (inl same) (inr (none, long)) is_front =
    let all : length lines ≡ length front + length left = ap length is_front ∙ length-append front left in
    let nothing : length left ≡ 0 = ap length none in
    inr (omega (arith, long, all, nothing, length-append done front))
kept_more initial before after done front left lines (inr long) more is_front = inr (omega (arith, long, length-append done front))

pub kept_or_put : {S T : Type 0} (r : Result T ListError) (initial after : S) (db : Database) (options : WithinOptions) (range : IpNetwork) (old new : Option (List ℕ)) (begun : BeginsList db options range old new) → (after ≡ initial) ⊎ (chunk_bytes ≤ length begun.written.front)
    → IfDatabase r ((after ≡ initial) ⊎ HasPutChunk db options range old new)
kept_or_put r initial after db options range old new begun (inl same) = if_database r _ (inl same)
kept_or_put r initial after db options range old new begun (inr long) = if_database r _ (inr (record { begun = begun; chunk = long }))
