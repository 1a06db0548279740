-- What was taken and written of the items that came.
use Rattle.std.proofs.Common.{◌≡◌, inl, inr, ℕ, ◌+◌, ◌≤◌, List, [], ◌∷◌, ◌++◌, Option, Some, None, Bool, true, false, Result, Ok, Err, IfOk, IfErr, refl, sym, ap, ◌∙◌, subst, append_assoc, append-nil, arith}
use Rattle.std.proofs.lemmas.List.{length-append}
use Rattle.std.specs.Io.KnownBytes.{Appends, Keeps}
use Rattle.std.proofs.KnownBytes.{Appends-nil, Appends-trans}
use Rattle.mmdb_format.specs.Error.{MemoryApart}
use Rattle.mmdb_format.specs.declared.error.MaxMindDbError.{MaxMindDbError}
use Rattle.mmdb_format.specs.declared.error.MaxMindDbError.TheVariants.{Memory, InvalidDatabase, Io, Decoding, ResourceLimit, InvalidNetwork, InvalidInput}
use Rattle.mmdb_query.specs.Had.{Had}
use Rattle.mmdb_query.specs.Walks.{Item, Goes, IsStep}
use Rattle.mmdb_query.specs.Walks.Item.{Found, Unread}
use Rattle.mmdb_query.specs.Taking.{Asked, IsPicked, ArePicked, Runs, Takes, IsDone, IsDoneOrNot}
use Rattle.mmdb_query.specs.Steps.{is_memory, IsTried, IsPut, TakesItem, TakesKnown, TakesStep, StopsStep, PutsStep, FitsOf, UnderWay}
use Rattle.mmdb_query.specs.Ends.{IsOfOutput, WritesNone, Leaves, left_of, BreaksOff, TooManyCome, StopsBy, EndsBy}
use Rattle.mmdb_query.specs.declared.error.QueryError.{QueryError}
use Rattle.mmdb_query.specs.declared.error.QueryError.TheVariants as ends
use Rattle.mmdb_query.proofs.WalkLaws.{goes_none, goes_on}

-- ---- known output

pub kept_nil : (before after : Option (List ℕ)) → Keeps before after → Appends before after []
kept_nil None after kept = tt
kept_nil (Some xs) None kept = absurd kept
kept_nil (Some xs) (Some ys) kept = kept ∙ sym (append-nil xs)

-- nothing, and then nothing
pub nothing_more : (before one after : Option (List ℕ)) → Appends before one [] → Appends one after [] → Appends before after []
nothing_more before one after p q = Appends-trans before one after [] [] p q

-- what holds unless memory is out
pub unless_memory : {P : Type 0} (e : MaxMindDbError) → is_memory e ≡ false → MemoryApart e P → P
unless_memory Memory is p = cc
unless_memory (InvalidDatabase message offset) is p = p
unless_memory (Io e) is p = p
unless_memory (Decoding message offset path) is p = p
unless_memory (ResourceLimit message offset path) is p = p
unless_memory (InvalidNetwork e) is p = p
unless_memory (InvalidInput message) is p = p

-- what holds unless memory is out, and what follows from it
pub apart_on : {P Q : Type 0} (e : MaxMindDbError) → (P → Q) → MemoryApart e P → MemoryApart e Q
apart_on Memory f p = p
apart_on (InvalidDatabase message offset) f p = f p
apart_on (Io e) f p = f p
apart_on (Decoding message offset path) f p = f p
apart_on (ResourceLimit message offset path) f p = f p
apart_on (InvalidNetwork e) f p = f p
apart_on (InvalidInput message) f p = f p

-- ---- networks, one after another

module _ {X : Type 0} (puts : Had → X → List ℕ → X → Type 0) where
  runs_both : (some others : List Had) (old one new : X) (text more : List ℕ) → Runs puts some old text one → Runs puts others one more new → Runs puts (some ++ others) old (text ++ more) new
  runs_both [] others old one new text more (same, none) rest =
      subst (λ t. Runs puts others old (t ++ more) new) (sym none) (subst (λ x. Runs puts others x more new) same rest)
  runs_both (had ∷ some) others old one new text more (next, first, rest, put, left, is) after =
      (next, first, rest ++ more, put, runs_both some others next one new rest more left after, ap (λ t. t ++ more) is ∙ append_assoc first rest more)

  runs_one : (had : Had) (old new : X) (text : List ℕ) → puts had old text new → Runs puts (had ∷ []) old text new
  runs_one had old new text put = (new, text, [], put, (refl, refl), sym (append-nil text))

picked_both : {X : Type 0} (a : Asked X) (some others : List Item) (put more : List Had) (m n : ℕ) → ArePicked a some put m → ArePicked a others more n → ArePicked a (some ++ others) (put ++ more) (m + n)
picked_both a [] others put more m n (none, zero) rest =
    let same : n ≡ m + n = omega (arith, zero) in
    subst (λ k. ArePicked a others (put ++ more) k) same (subst (λ t. ArePicked a others t n) (ap (λ t. t ++ more) (sym none)) rest)
picked_both a (item ∷ some) others put more m n (first, after, fault, faults, one, left, is, sum) rest =
    (first, after ++ more, fault, faults + n, one, picked_both a some others after more faults n left rest, ap (λ t. t ++ more) is ∙ append_assoc first after more, omega (arith, sum))

picked_one : {X : Type 0} (a : Asked X) (item : Item) (put : List Had) (fault : ℕ) → IsPicked a item put fault → ArePicked a (item ∷ []) put fault
picked_one a item put fault one = (put, [], fault, 0, one, (refl, refl), sym (append-nil put), omega arith)

-- ---- the loop

module _ {W X : Type 0} (comes : W → List Item → Type 0) (a : Asked X) where
  pub started : (first : W) (old : X) (before : Option (List ℕ)) → UnderWay comes a first first old old before before 0 0
  started first old before = record { done = []; put = []; text = []; counted = refl; came = goes_none comes first; picked = (refl, refl); ran = (refl, refl); written = Appends-nil before }

  item_taken : (first now next : W) (old one new : X) (before at after : Option (List ℕ)) (faults added count : ℕ) (item : Item)
      → UnderWay comes a first now old one before at faults count → Goes comes now (item ∷ []) next → TakesItem a item added one new at after
      → UnderWay comes a first next old new before after (faults + added) (count + 1)
  item_taken first now next old one new before at after faults added count item way goes takes = record {
    done = way.done ++ item ∷ [];
    put = way.put ++ takes.put;
    text = way.text ++ takes.text;
    counted = let both = length-append way.done (item ∷ []) in let so_far = way.counted in omega (arith, both, so_far);
    came = goes_on comes first now next way.done (item ∷ []) way.came goes;
    picked = picked_both a way.done (item ∷ []) way.put takes.put faults added way.picked (picked_one a item takes.put added takes.picked);
    ran = runs_both a.puts way.put takes.put old one new way.text takes.text way.ran takes.ran;
    written = Appends-trans before at after way.text takes.text way.written takes.written;
  }

  unread_taken : (first now next : W) (old one new : X) (before at after : Option (List ℕ)) (faults added count : ℕ)
      → UnderWay comes a first now old one before at faults count → Goes comes now (Unread ∷ []) next → added ≡ 1 → new ≡ one → Appends at after []
      → UnderWay comes a first next old new before after (faults + added) (count + 1)
  unread_taken first now next old one new before at after faults added count way goes is same written =
      item_taken first now next old one new before at after faults added count Unread way goes
      (record { put = []; text = []; picked = (refl, is); ran = (same, refl); written = written })

  pub ended : (first now : W) (old new : X) (before after : Option (List ℕ)) (faults count : ℕ) → UnderWay comes a first now old new before after faults count → comes now []
      → Takes (comes first) a old new before after faults
  ended first now old new before after faults count way over = record {
    items = way.done;
    put = way.put;
    text = way.text;
    come = subst (comes first) (append-nil way.done) (way.came [] over);
    picked = way.picked;
    ran = way.ran;
    written = way.written;
  }

  -- of the next item nothing was written, where memory is out
  stopped_before : (first now : W) (old one : X) (before at after : Option (List ℕ)) (faults count : ℕ) → UnderWay comes a first now old one before at faults count → Appends at after []
      → BreaksOff comes a first old before after ends.Memory
  stopped_before first now old one before at after faults count way none = record {
    later = now;
    items = way.done;
    put = way.put;
    text = way.text;
    part = [];
    new = one;
    faults = faults;
    first = way.came;
    picked = way.picked;
    ran = way.ran;
    left = inl (refl, refl);
    written = Appends-trans before at after way.text [] way.written none;
  }

  unread_stopped : (first now : W) (old one : X) (before at after : Option (List ℕ)) (faults count : ℕ) (e : QueryError) → UnderWay comes a first now old one before at faults count
      → WritesNone at after e → StopsBy comes a first old before after e
  unread_stopped first now old one before at after faults count ends.Memory way none = stopped_before first now old one before at after faults count way none
  unread_stopped first now old one before at after faults count (ends.Write x) way none = tt
  unread_stopped first now old one before at after faults count ends.TooMany way none = absurd none
  unread_stopped first now old one before at after faults count ends.OutOfOrder way none = absurd none

  -- what was written of the next network, which was not put
  network_stopped : (first now next : W) (old one : X) (before at after : Option (List ℕ)) (faults count : ℕ) (e : QueryError) (had : Had) → UnderWay comes a first now old one before at faults count
      → Goes comes now (Found had ∷ []) next → (part : List ℕ) → left_of a had one part e → Appends at after part → BreaksOff comes a first old before after e
  network_stopped first now next old one before at after faults count e had way goes part left written = record {
    later = now;
    items = way.done;
    put = way.put;
    text = way.text;
    part = part;
    new = one;
    faults = faults;
    first = way.came;
    picked = way.picked;
    ran = way.ran;
    left = elim left [ inl none ↦ inl none | inr (says, leaves) ↦ inr (had, next, goes, says, leaves) ];
    written = Appends-trans before at after way.text part way.written written;
  }

  found_stopped : (first now next : W) (old one : X) (before at after : Option (List ℕ)) (faults count : ℕ) (e : QueryError) (had : Had) → UnderWay comes a first now old one before at faults count
      → Goes comes now (Found had ∷ []) next → Leaves (left_of a had one) at after e → StopsBy comes a first old before after e
  found_stopped first now next old one before at after faults count ends.Memory had way goes (part, left, written) = network_stopped first now next old one before at after faults count ends.Memory had way goes part left written
  found_stopped first now next old one before at after faults count (ends.Write x) had way goes left = tt
  found_stopped first now next old one before at after faults count ends.TooMany had way goes left = absurd left
  found_stopped first now next old one before at after faults count ends.OutOfOrder had way goes (part, left, written) = network_stopped first now next old one before at after faults count ends.OutOfOrder had way goes part left written

  pub too_many : (first now : W) (old one : X) (before at : Option (List ℕ)) (faults count : ℕ) → UnderWay comes a first now old one before at faults count
      → count ≡ 18446744073709551615 → TooManyCome comes first
  too_many first now old one before at faults count way all = (way.done, now, way.came, way.counted ∙ all)

-- one step of a walk, of which the answers are of these data sections
pub step_taken : {W A X : Type 0} (comes : W → List Item → Type 0) (of : List (List ℕ) → Asked X) (s : List (List ℕ)) (sections : A → List (List ℕ)) (had : A → Had) (item : Result A MaxMindDbError)
    (first now next : W) (old one new : X) (before at after : Option (List ℕ)) (faults added count : ℕ)
    → UnderWay comes (of s) first now old one before at faults count → IsStep comes had now (Some item) next → IfOk item (λ answer. sections answer ≡ s)
    → TakesStep of sections had item added one new at after → UnderWay comes (of s) first next old new before after (faults + added) (count + 1)
step_taken comes of s sections had (Ok answer) first now next old one new before at after faults added count way step same takes =
    item_taken comes (of s) first now next old one new before at after faults added count (Found (had answer)) way step (subst (λ t. TakesItem (of t) (Found (had answer)) added one new at after) same takes)
step_taken comes of s sections had (Err e) first now next old one new before at after faults added count way step same (is, once, kept, written) =
    unread_taken comes (of s) first now next old one new before at after faults added count way (unless_memory e is step) once kept written

-- what was written of an item that was not put
pub ended_early : {W A X : Type 0} (comes : W → List Item → Type 0) (of : List (List ℕ) → Asked X) (s : List (List ℕ)) (sections : A → List (List ℕ)) (had : A → Had) (item : Result A MaxMindDbError)
    (first now next : W) (old one : X) (before at after : Option (List ℕ)) (faults count : ℕ) (e : QueryError)
    → UnderWay comes (of s) first now old one before at faults count → IsStep comes had now (Some item) next → IfOk item (λ answer. sections answer ≡ s)
    → StopsStep of sections had item one at after e → StopsBy comes (of s) first old before after e
ended_early comes of s sections had (Ok answer) first now next old one before at after faults count e way step same stops =
    found_stopped comes (of s) first now next old one before at after faults count e (had answer) way step (subst (λ t. Leaves (left_of (of t) (had answer) one) at after e) same stops)
ended_early comes of s sections had (Err x) first now next old one before at after faults count e way step same stops =
    unread_stopped comes (of s) first now old one before at after faults count e way stops

-- by a sink that leaves nothing of a network that it does not take
module _ {W X : Type 0} (comes : W → List Item → Type 0) (a : Asked X) (none : (had : Had) (old : X) (text : List ℕ) (e : QueryError) → a.leaves had old text e → (e ≡ ends.Memory) × (text ≡ [])) where
  left_none : (walk : W) (old : X) (before after : Option (List ℕ)) (e : QueryError) (b : BreaksOff comes a walk old before after e) → (e ≡ ends.Memory) × (b.part ≡ [])
  left_none walk old before after e b = elim b.left [ inl is ↦ is | inr (had, later, goes, says, leaves) ↦ none had b.new b.part e leaves ]

  ends_whole : (walk : W) (old : X) (before after : Option (List ℕ)) (e : QueryError) → StopsBy comes a walk old before after e → EndsBy comes a walk old before after e
  ends_whole walk old before after ends.Memory b = record {
    later = b.later;
    items = b.items;
    put = b.put;
    text = b.text;
    new = b.new;
    faults = b.faults;
    first = b.first;
    picked = b.picked;
    ran = b.ran;
    written = subst (Appends before after) (ap (λ (t : List ℕ). b.text ++ t) (left_none walk old before after ends.Memory b).1 ∙ append-nil b.text) b.written;
  }
  ends_whole walk old before after (ends.Write x) b = tt
  ends_whole walk old before after ends.TooMany b = b
  ends_whole walk old before after ends.OutOfOrder b = let is = (left_none walk old before after ends.OutOfOrder b).0 in cc

  pub ended_whole : {T : Type 0} (r : Result T QueryError) (walk : W) (old : X) (before after : Option (List ℕ)) → IfErr r (StopsBy comes a walk old before after) → IfErr r (EndsBy comes a walk old before after)
  ended_whole (Ok x) walk old before after stops = tt
  ended_whole (Err e) walk old before after stops = ends_whole walk old before after e stops

-- what a walk handed out was given back to it
pub stepped_back : {W A : Type 0} (comes : W → List Item → Type 0) (had : A → Had) (item : Result A MaxMindDbError) (now mid next : W)
    → IsStep comes had now (Some item) mid → Goes comes mid [] next → IsStep comes had now (Some item) next
stepped_back comes had (Ok answer) now mid next step back = goes_on comes now mid next (Found (had answer) ∷ []) [] step back
stepped_back comes had (Err e) now mid next step back = apart_on e (λ p. goes_on comes now mid next (Unread ∷ []) [] p back) step

pub fits_on : {A K : Type 0} (sections : A → List (List ℕ)) (fits : List (List ℕ) → K → Type 0) (s : List (List ℕ)) (item : Result A MaxMindDbError) (old new : K)
    → IfOk item (λ answer. sections answer ≡ s) → fits s old → FitsOf sections fits item old new → fits s new
fits_on sections fits s (Ok answer) old new same before now = subst (λ t. fits t new) same now
fits_on sections fits s (Err e) old new same before still = still s before

pub fits_for : {A K : Type 0} (sections : A → List (List ℕ)) (fits : List (List ℕ) → K → Type 0) (s : List (List ℕ)) (item : Result A MaxMindDbError) (old : K)
    → IfOk item (λ answer. sections answer ≡ s) → fits s old → IfOk item (λ answer. fits (sections answer) old)
fits_for sections fits s (Ok answer) old same before = subst (λ t. fits t old) (sym same) before
fits_for sections fits s (Err e) old same before = tt

pub all_same : {A : Type 0} (sections : A → List (List ℕ)) (t s : List (List ℕ)) (item : Result A MaxMindDbError) → IfOk item (λ answer. sections answer ≡ t) → t ≡ s → IfOk item (λ answer. sections answer ≡ s)
all_same sections t s (Ok answer) of same = of ∙ same
all_same sections t s (Err e) of same = tt

-- ---- memory that is out

-- nothing was written before
none_before : {X : Type 0} (a : Asked X) (had : Had) (e : QueryError) (old one : X) (before at after : Option (List ℕ)) → one ≡ old → Appends before at [] → Leaves (left_of a had one) at after e
    → Leaves (left_of a had old) before after e
none_before a had ends.Memory old one before at after same none (part, left, written) =
    (part, subst (λ x. left_of a had x part ends.Memory) same left, Appends-trans before at after [] part none written)
none_before a had (ends.Write x) old one before at after same none left = tt
none_before a had ends.TooMany old one before at after same none left = left
none_before a had ends.OutOfOrder old one before at after same none (part, left, written) =
    (part, subst (λ x. left_of a had x part ends.OutOfOrder) same left, Appends-trans before at after [] part none written)

-- nothing was written of a network
of_output : {X : Type 0} (a : Asked X) (had : Had) (e : QueryError) (old : X) (before after : Option (List ℕ)) → IsOfOutput e → Appends before after [] → Leaves (left_of a had old) before after e
of_output a had ends.Memory old before after is none = ([], inl (refl, refl), none)
of_output a had (ends.Write x) old before after is none = tt
of_output a had ends.TooMany old before after is none = absurd is
of_output a had ends.OutOfOrder old before after is none = absurd is

-- memory is out, and nothing was written
pub out_of_memory : {X : Type 0} (a : Asked X) (had : Had) (old : X) (before after : Option (List ℕ)) → Appends before after [] → Leaves (left_of a had old) before after ends.Memory
out_of_memory a had old before after none = ([], inl (refl, refl), none)

-- a leaf that can't be read was reported
pub leaf_reported : {A X : Type 0} (of : List (List ℕ) → Asked X) (sections : A → List (List ℕ)) (had : A → Had) (e : MaxMindDbError) (r : Result ℕ QueryError) (old new : X) (before after : Option (List ℕ))
    → IfOk r (λ fault. (fault ≡ 1) × (is_memory e ≡ false)) → IfErr r IsOfOutput → new ≡ old → Appends before after [] → PutsStep of sections had (Err e) r old new before after
leaf_reported of sections had e (Ok fault) old new before after (once, is) failed same none = (is, once, same, none)
leaf_reported of sections had e (Err ends.Memory) old new before after reported failed same none = none
leaf_reported of sections had e (Err (ends.Write x)) old new before after reported failed same none = tt
leaf_reported of sections had e (Err ends.TooMany) old new before after reported failed same none = failed
leaf_reported of sections had e (Err ends.OutOfOrder) old new before after reported failed same none = failed

-- a network adds one at most to the count of those that can't be read
few_faults : {X : Type 0} (a : Asked X) (had : Had) (put : List Had) (fault : ℕ) → IsPicked a (Found had) put fault → fault ≤ 1
few_faults a had put fault (inl (chosen, zero)) = omega (arith, zero)
few_faults a had put fault (inr (cant, none, once)) = omega (arith, once)

pub few_put : {X : Type 0} (a : Asked X) (had : Had) (r : Result ℕ QueryError) (old new : X) (before after : Option (List ℕ)) → IsPut a had r old new before after → IfOk r (λ fault. fault ≤ 1)
few_put a had (Ok fault) old new before after takes = few_faults a had takes.put fault takes.picked
few_put a had (Err e) old new before after left = tt

-- what a network that comes does
pub step_put : {A X : Type 0} (of : List (List ℕ) → Asked X) (sections : A → List (List ℕ)) (had : A → Had) (answer : A) (r : Result ℕ QueryError) (old new : X) (before after : Option (List ℕ))
    → IsPut (of (sections answer)) (had answer) r old new before after → PutsStep of sections had (Ok answer) r old new before after
step_put of sections had answer (Ok fault) old new before after put = put
step_put of sections had answer (Err e) old new before after left = left

-- ---- one network

-- it can't be read whether a network is chosen
pub unsaid_tried : {X : Type 0} (a : Asked X) (had : Had) (e : MaxMindDbError) (old : X) (before : Option (List ℕ))
    → MemoryApart e (a.unsaid had.offsets) → IsTried a had (Some e) old old before before
unsaid_tried a had e old before cant = (apart_on e (λ p. inl p) cant, refl, Appends-nil before)

-- a network that can't be put was reported
pub tried_reported : {X : Type 0} (a : Asked X) (had : Had) (r : Result ℕ QueryError) (e : MaxMindDbError) (old one new : X) (before at after : Option (List ℕ))
    → IsTried a had (Some e) old one before at → new ≡ one → IfOk r (λ fault. (fault ≡ 1) × (is_memory e ≡ false)) → IfErr r IsOfOutput → Appends at after []
    → IsPut a had r old new before after
tried_reported a had (Ok fault) e old one new before at after (cant, kept, none) same (one-fault, is) failed more =
    record { put = []; text = []; picked = inr (unless_memory e is cant, refl, one-fault); ran = (same ∙ kept, refl); written = nothing_more before at after none more }
tried_reported a had (Err x) e old one new before at after (cant, kept, none) same reported failed more = of_output a had x old before after failed (nothing_more before at after none more)

-- a network that is not chosen
pub passed : {X : Type 0} (a : Asked X) (had : Had) (old : X) (before : Option (List ℕ)) → a.says had.offsets false → TakesItem a (Found had) 0 old old before before
passed a had old before says = record { put = []; text = []; picked = inl (inr (says, refl), refl); ran = (refl, refl); written = Appends-nil before }

-- a chosen network was taken
chosen_one : {X : Type 0} (a : Asked X) (had : Had) (old new : X) (before after : Option (List ℕ)) (text : List ℕ) → a.says had.offsets true
    → a.puts had old text new → Appends before after text → TakesItem a (Found had) 0 old new before after
chosen_one a had old new before after text says put written =
    record { put = had ∷ []; text = text; picked = inl (inl (says, refl), refl); ran = runs_one a.puts had old new text put; written = written }

-- a chosen network was taken, or can't be
pub chosen_tried : {E X : Type 0} (a : Asked X) (had : Had) (r : Result (Option MaxMindDbError) E) (old new : X) (before after : Option (List ℕ))
    → a.says had.offsets true → IfOk r (λ u. IsDone (a.puts had) (a.unput had.offsets) u old new before after)
    → IfOk r (λ u. IsTried a had u old new before after)
chosen_tried a had (Ok None) old new before after says (text, put, written) = chosen_one a had old new before after text says put written
chosen_tried a had (Ok (Some e)) old new before after says (cant, kept, written) = (apart_on e (λ p. inr (says, p)) cant, kept, written)
chosen_tried a had (Err x) old new before after says done = tt

-- a chosen network was not taken
pub chosen_left : {T X : Type 0} (a : Asked X) (had : Had) (r : Result T QueryError) (old : X) (before after : Option (List ℕ))
    → a.says had.offsets true → IfErr r (Leaves (a.leaves had old) before after) → IfErr r (Leaves (left_of a had old) before after)
chosen_left a had (Ok x) old before after says left = tt
chosen_left a had (Err ends.Memory) old before after says (text, left, written) = (text, inr (says, left), written)
chosen_left a had (Err (ends.Write x)) old before after says left = tt
chosen_left a had (Err ends.TooMany) old before after says left = left
chosen_left a had (Err ends.OutOfOrder) old before after says (text, left, written) = (text, inr (says, left), written)

-- a network that is known to be chosen was taken at once, or nothing was taken
pub known_taken : {E X : Type 0} (a : Asked X) (had : Had) (r : Result Bool E) (old new : X) (before after : Option (List ℕ))
    → a.says had.offsets true → IfOk r (λ done. IsDoneOrNot (a.puts had) done old new before after)
    → IfOk r (λ done. TakesKnown a (Found had) done old new before after)
known_taken a had (Ok true) old new before after says (text, put, written) = chosen_one a had old new before after text says put written
known_taken a had (Ok false) old new before after says taken = taken
known_taken a had (Err x) old new before after says taken = tt

-- a network was put, and nothing was taken nor written before
pub taken_after_none : {X : Type 0} (a : Asked X) (had : Had) (r : Result ℕ QueryError) (old one new : X) (before at after : Option (List ℕ))
    → one ≡ old → Appends before at [] → IsPut a had r one new at after → IsPut a had r old new before after
taken_after_none a had (Ok fault) old one new before at after same none taken = record {
  put = taken.put;
  text = taken.text;
  picked = taken.picked;
  ran = subst (λ x. Runs a.puts taken.put x taken.text new) same taken.ran;
  written = Appends-trans before at after [] taken.text none taken.written;
}
taken_after_none a had (Err e) old one new before at after same none left = none_before a had e old one before at after same none left

-- a network was put, or can't be, and nothing was written before
pub done_after_none : {E X : Type 0} (puts : X → List ℕ → X → Type 0) (unput : Type 0) (r : Result (Option MaxMindDbError) E) (old new : X) (before at after : Option (List ℕ))
    → Appends before at [] → IfOk r (λ u. IsDone puts unput u old new at after) → IfOk r (λ u. IsDone puts unput u old new before after)
done_after_none puts unput (Ok None) old new before at after none (text, put, written) = (text, put, Appends-trans before at after [] text none written)
done_after_none puts unput (Ok (Some e)) old new before at after none (cant, kept, more) = (cant, kept, nothing_more before at after none more)
done_after_none puts unput (Err x) old new before at after none done = tt
