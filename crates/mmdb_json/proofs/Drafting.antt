-- How drafts grow.
use Rattle.std.proofs.Common.{cond, Result, Ok, Err, OnOk, is_ok, slice_index_or, ◌≡◌, ◌≤◌, ◌+◌, ◌-◌, ℕ, suc, List, [], ◌∷◌, ◌++◌, length, take, drop, slice_range, refl, sym, ap, ◌∙◌, subst, append_assoc, append-nil, arith, length-append}
use Rattle.std.proofs.lemmas.List.Elements.{All-append}
use Rattle.std.proofs.lemmas.List.{take-append-le, drop-append-le, take_all, drop_all, length-drop}
use Rattle.std.proofs.Math.Seq.{drop-append_seam}
use Rattle.mmdb_json.specs.declared.draft.Hole.{Hole}
use Rattle.mmdb_json.specs.Drafts.{Drafted, later_string, filled, shown, AreWithin, Grows, IsBehind}

pub grows_nothing : (d : Drafted) → Grows d d []
grows_nothing d = record { shows = sym (append-nil (shown d)); holes = omega arith; plain = λ _. sym (append-nil d.text) }

pub grows_more : (a b c : Drafted) (x y : List ℕ) → Grows a b x → Grows b c y → Grows a c (x ++ y)
grows_more a b c x y first second =
    let h = first.holes in
    let i = second.holes in
    record {
      shows = second.shows ∙ ap (λ l. l ++ y) first.shows ∙ append_assoc (shown a) x y;
      holes = omega (arith, h, i);
      plain = λ e.
          second.plain (omega (arith, h, i, e)) ∙ ap (λ l. l ++ y) (first.plain (omega (arith, h, i, e))) ∙ append_assoc a.text x y;
    }

-- what is appended to the text comes after what is shown
rest_within : (text : List ℕ) (h : Hole) (hs : List Hole) → AreWithin text (h ∷ hs) → AreWithin text hs
rest_within text h hs all k d within = all (suc k) d (omega (arith, within))

first_within : (text : List ℕ) (h : Hole) (hs : List Hole) → AreWithin text (h ∷ hs) → h.at ≤ length text
first_within text h hs all = all 0 h (omega arith)

range_behind : (from to : ℕ) (text x : List ℕ) → from ≤ length text → to ≤ length text → slice_range (text ++ x) from to ≡ slice_range text from to
range_behind from to text x begins ends =
    let size : length (drop from text) ≡ length text - from = length-drop from text in
    ap (take (to - from)) (drop-append-le from text x begins) ∙ take-append-le (to - from) (drop from text) x (omega (arith, size, begins, ends))

pub filled_behind : (from : ℕ) (text x : List ℕ) (hs : List Hole) → from ≤ length text → AreWithin text hs → filled from (text ++ x) hs ≡ filled from text hs ++ x
filled_behind from text x [] begins all = drop-append-le from text x begins
filled_behind from text x (h ∷ hs) begins all =
    let here = first_within text h hs all in
    ap (λ l. l ++ (later_string h.later ++ filled h.at (text ++ x) hs)) (range_behind from h.at text x begins here)
    ∙ ap (λ l. slice_range text from h.at ++ (later_string h.later ++ l)) (filled_behind h.at text x hs here (rest_within text h hs all))
    ∙ ap (λ l. slice_range text from h.at ++ l) (sym (append_assoc (later_string h.later) (filled h.at text hs) x))
    ∙ sym (append_assoc (slice_range text from h.at) (later_string h.later ++ filled h.at text hs) x)

-- and so does what is put in at its end
range_to_end : (from : ℕ) (text : List ℕ) → from ≤ length text → slice_range text from (length text) ≡ drop from text
range_to_end from text begins =
    let size : length (drop from text) ≡ length text - from = length-drop from text in
    take_all (length text - from) (drop from text) (omega (arith, size))

nothing_behind : (text : List ℕ) → drop (length text) text ≡ []
nothing_behind text = drop_all (length text) text (omega arith)

pub filled_with : (from : ℕ) (text : List ℕ) (hs : List Hole) (h : Hole) → from ≤ length text → AreWithin text hs → h.at ≡ length text → filled from text (hs ++ h ∷ []) ≡ filled from text hs ++ later_string h.later
filled_with from text [] h begins all is =
    ap (λ n. slice_range text from n ++ (later_string h.later ++ drop n text)) is
    ∙ ap (λ l. slice_range text from (length text) ++ (later_string h.later ++ l)) (nothing_behind text)
    ∙ ap (λ l. slice_range text from (length text) ++ l) (append-nil (later_string h.later))
    ∙ ap (λ l. l ++ later_string h.later) (range_to_end from text begins)
filled_with from text (g ∷ hs) h begins all is =
    ap (λ l. slice_range text from g.at ++ (later_string g.later ++ l)) (filled_with g.at text hs h (first_within text g hs all) (rest_within text g hs all) is)
    ∙ ap (λ l. slice_range text from g.at ++ l) (sym (append_assoc (later_string g.later) (filled g.at text hs) (later_string h.later)))
    ∙ sym (append_assoc (slice_range text from g.at) (later_string g.later ++ filled g.at text hs) (later_string h.later))

pub within_behind : (text x : List ℕ) (hs : List Hole) → AreWithin text hs → AreWithin (text ++ x) hs
within_behind text x hs all k d within =
    let longer : length (text ++ x) ≡ length text + length x = length-append text x in
    let here = all k d within in
    omega (arith, longer, here)

-- a text that is longer by bytes
pub text_grows : (old new : Drafted) (x : List ℕ) → AreWithin old.text old.holes → new.text ≡ old.text ++ x → new.holes ≡ old.holes → Grows old new x
text_grows old new x all grown same = record {
  shows = ap (filled 0 new.text) same ∙ ap (λ l. filled 0 l old.holes) grown ∙ filled_behind 0 old.text x old.holes (omega arith) all;
  holes = let e = ap length same in omega (arith, e);
  plain = λ _. grown;
}

-- a string more that is put in last
pub hole_grows : (old new : Drafted) (h : Hole) → AreWithin old.text old.holes → new.text ≡ old.text → new.holes ≡ old.holes ++ h ∷ [] → h.at ≡ length old.text → Grows old new (later_string h.later)
hole_grows old new h all same grown is =
    let more : length new.holes ≡ length old.holes + 1 = ap length grown ∙ length-append old.holes (h ∷ []) in
    record {
      shows = ap (λ l. filled 0 l new.holes) same ∙ ap (filled 0 old.text) grown ∙ filled_with 0 old.text old.holes h (omega arith) all is;
      holes = omega (arith, more);
      plain = λ e. absurd (omega (arith, more, e));
    }

-- what was appended last is the end of the text, where nothing of it is put in last
pub end_of_text : (old new : Drafted) (x back : List ℕ) → Grows old new x → length new.holes ≡ length old.holes → back ≡ drop (length old.text) new.text → back ≡ x
end_of_text old new x back grows same is = is ∙ ap (drop (length old.text)) (grows.plain same) ∙ drop-append_seam old.text x

-- what stays within a text that is not shorter
pub within_longer : (old new : List ℕ) (hs : List Hole) → IsBehind old new → AreWithin old hs → AreWithin new hs
within_longer old new hs (rest, grown) all = subst (λ l. AreWithin l hs) (sym grown) (within_behind old rest hs all)

pub within_more : (text : List ℕ) (hs more : List Hole) (h : Hole) → AreWithin text hs → h.at ≡ length text → more ≡ hs ++ h ∷ [] → AreWithin text more
within_more text hs more h all is put = subst (AreWithin text) (sym put) (All-append (λ (g : Hole). g.at ≤ length text) hs (h ∷ []) all (λ k d within. let first : k ≡ 0 = omega arith in subst (λ i. (slice_index_or (h ∷ []) i d).at ≤ length text) (sym first) (omega (arith, is))))

pub behind_itself : (old : List ℕ) → IsBehind old old
behind_itself old = ([], sym (append-nil old))

pub behind_more : (a b c : List ℕ) → IsBehind a b → IsBehind b c → IsBehind a c
behind_more a b c (x, e) (y, f) = (x ++ y, f ∙ ap (λ l. l ++ y) e ∙ append_assoc a x y)

pub behind_extended : {T E : Type 0} (r : Result T E) (old new x : List ℕ) → new ≡ cond (is_ok r) (old ++ x) old → IsBehind old new
behind_extended (Ok v) old new x e = (x, e)
behind_extended (Err v) old new x e = ([], e ∙ sym (append-nil old))

-- what comes before what is after it
pub front_of : (old new : List ℕ) → IsBehind old new → take (length old) new ≡ old
front_of old new (rest, e) = ap (take (length old)) e ∙ take-append-le (length old) old rest (omega arith) ∙ take_all (length old) old (omega arith)

-- the same of the fields of a draft that is open
pub grows_in : (first : Drafted) (text more x : List ℕ) (hs : List Hole) → record { text = text; holes = hs } ≡ first → AreWithin text hs → more ≡ text ++ x → Grows first (record { text = more; holes = hs }) x
grows_in first text more x hs is all grown = subst (λ old. Grows old (record { text = more; holes = hs }) x) is (text_grows (record { text = text; holes = hs }) (record { text = more; holes = hs }) x all grown refl)

pub grew_in : {T E : Type 0} (r : Result T E) (first : Drafted) (text more x : List ℕ) (hs : List Hole) → record { text = text; holes = hs } ≡ first → AreWithin text hs → more ≡ cond (is_ok r) (text ++ x) text → OnOk r (Grows first (record { text = more; holes = hs }) x)
grew_in (Ok v) first text more x hs is all grown = grows_in first text more x hs is all grown
grew_in (Err e) first text more x hs is all grown = tt

pub string_grew_in : {T E : Type 0} (r : Result T E) (first : Drafted) (text more x : List ℕ) (hs : List Hole) → record { text = text; holes = hs } ≡ first → AreWithin text hs → OnOk r (more ≡ text ++ x) → OnOk r (Grows first (record { text = more; holes = hs }) x)
string_grew_in (Ok v) first text more x hs is all grown = grows_in first text more x hs is all grown
string_grew_in (Err e) first text more x hs is all grown = tt

pub hole_grows_in : (first : Drafted) (text : List ℕ) (hs more : List Hole) (h : Hole) → record { text = text; holes = hs } ≡ first → AreWithin text hs → more ≡ hs ++ h ∷ [] → h.at ≡ length text → Grows first (record { text = text; holes = more }) (later_string h.later)
hole_grows_in first text hs more h is all put at = subst (λ old. Grows old (record { text = text; holes = more }) (later_string h.later)) is (hole_grows (record { text = text; holes = hs }) (record { text = text; holes = more }) h all refl put at)
