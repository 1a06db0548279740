-- Laws of databases side by side.
use Rattle.std.proofs.Common.{◌≡◌, ℕ, ◌+◌, ◌-◌, ◌≤◌, ◌<◌, ◌^◌, min, inl, inr, Bool, true, false, ◌&&◌, ◌||◌, Option, Some, List, [], ◌∷◌, ◌++◌, map, get_or, set, length, take, refl, ap, arith, sym, subst, ◌∙◌}
use Rattle.std.specs.List.{list_all, list_any, All}
use Rattle.std.proofs.lemmas.Bool.{cases_lt, lt-ltb}
use Rattle.std.proofs.lemmas.Bool.Decides.{nat_tests}
use Rattle.std.proofs.lemmas.List.{length-map, length-set, get_or-map, get_or_default, set-get_or, map-set, map_push, take_more, take_more_set, take_all, drop_more, drop-set-lt}
use Rattle.std.proofs.lemmas.List.Elements.{All-push, All-head, All-tail, All-more, All-weaker, All-get_or, All-same, All-nil, All-cons}
use Rattle.std.proofs.lemmas.Grind.{drop_more_same}
use Rattle.std.proofs.lemmas.List.Folds.{list_all-append, list_any-append}
use Rattle.std.proofs.Math.Seq.{map-set_same}
use Rattle.std.proofs.Math.Dec.{ltb}
use Rattle.mmdb_blocks.specs.declared.block.Block.{Block}
use Rattle.std.proofs.lemmas.Nat.{pow_pos}
use Rattle.mmdb_blocks.specs.Blocks.{end, size, IsBlock, IsWithin}
use Rattle.mmdb_compare.specs.declared.walk.Stand.{Stand}
use Rattle.mmdb_compare.specs.declared.walk.Stand.TheVariants.{Nowhere, AtNetwork, AtEnd}
use Rattle.mmdb_compare.specs.declared.walk.Here.{Here}
use Rattle.mmdb_compare.specs.declared.walk.Here.TheVariants.{Record as RecordHere, Nothing as NothingHere, Unknown as UnknownHere}
use Rattle.mmdb_compare.specs.declared.walk_list.AllHere.{AllHere}
use Rattle.mmdb_compare.specs.Coming.{Leaf, Coming, Answer, coming, coming_from, answer_at, between}
use Rattle.mmdb_compare.specs.Coming.Leaf.{Network}
use Rattle.mmdb_compare.specs.Coming.Answer.{Record, Nothing, Unknown}
use Rattle.mmdb_compare.specs.Parts.{start_of}
use Rattle.mmdb_compare.specs.Walks.{Standing, left_at, left_of, behind_of, IsFromAt, IsFrom, IsMet, IsTaken, IsGone, IsHere, IsSaid, IsDone, StandsAround, last_here, is_record_here}
use Rattle.mmdb_compare.specs.Together.{Abreast, answers_at, all_from, is_readable, is_known, is_record, are_shown, ArePassed, IsNextBlock, IsNextUnreadOf}
use Rattle.mmdb_compare.specs.WalkList.{left_from, said_at, all_said, held_by, held_at, block_at, AllGone, AllPassed, AreDone, IsAtBlock, IsMetOf, AreHere, AreShownAt, ArePassedAt, AreNarrowest, AreNarrowestUpTo, AreShared, AreReached, GoneUpTo, PassedUpTo, is_known_here, abreast, databases_of}
use Rattle.mmdb_compare.proofs.ComingLaws.{once_more, same_answer, answer_inside, answer_before}
use Rattle.mmdb_compare.proofs.ListedLaws.{from_first}
use Rattle.mmdb_compare.proofs.PartLaws.{past, unread_first, done_left}
use Rattle.mmdb_compare.proofs.WalkLaws.{from_stays, around, done}

-- what is left of each further on is left of what was left
pub all_once_more : (a b : ℕ) (cs : List Coming) → a ≤ b → all_from b (all_from a cs) ≡ all_from b cs
all_once_more a b [] le = refl
all_once_more a b (c ∷ cs) le =
    let first = once_more a b c le in
    let rest = all_once_more a b cs le in
    ap (λ (x : Coming). x ∷ all_from b (all_from a cs)) first ∙ ap (λ (xs : List Coming). coming_from b c ∷ xs) rest

-- the same of walks
pub walks_on : (a b : ℕ) (walks : List Standing) → a ≤ b → all_from b (map (left_from a) walks) ≡ map (left_from b) walks
walks_on a b [] le = refl
walks_on a b (s ∷ walks) le =
    let first = once_more a b (left_of s) le in
    let rest = walks_on a b walks le in
    ap (λ (x : Coming). x ∷ all_from b (map (left_from a) walks)) first ∙ ap (λ (xs : List Coming). left_from b s ∷ xs) rest

pub left_on : (a b : ℕ) (walks : List Standing) (cs : List Coming) → a ≤ b → map (left_from a) walks ≡ all_from a cs → map (left_from b) walks ≡ all_from b cs
left_on a b walks cs le same = sym (walks_on a b walks le) ∙ ap (all_from b) same ∙ all_once_more a b cs le

-- from an address on the answers are those of what is left there
pub same_answers : (a b : ℕ) (cs : List Coming) → a ≤ b → answers_at b cs ≡ answers_at b (all_from a cs)
same_answers a b [] le = refl
same_answers a b (c ∷ cs) le =
    let first = same_answer a b c le in
    let rest = same_answers a b cs le in
    ap (λ (x : Answer). x ∷ answers_at b cs) first ∙ ap (λ (xs : List Answer). answer_at b (coming_from a c) ∷ xs) rest

pub same_said : (a b : ℕ) (walks : List Standing) → a ≤ b → answers_at b (map (left_from a) walks) ≡ all_said b walks
same_said a b [] le = refl
same_said a b (s ∷ walks) le =
    let first = sym (same_answer a b (left_of s) le) in
    let rest = same_said a b walks le in
    ap (λ (x : Answer). x ∷ answers_at b (map (left_from a) walks)) first ∙ ap (λ (xs : List Answer). said_at b s ∷ xs) rest

-- what walks say of an address is what was to come
pub said : (before : List Coming) (walks : List Standing) (at address : ℕ) → at ≤ address → map (left_from at) walks ≡ all_from at before → answers_at address before ≡ all_said address walks
said before walks at address on left = same_answers at address before on ∙ ap (answers_at address) (sym left) ∙ same_said at address walks on

-- where an answer is known, it is what the network that the walk is at says
held_at_end : (at : ℕ) (leaves : List Leaf) (u : Bool) → leaves ≡ [] → is_known (answer_at at (coming leaves u)) ≡ true → answer_at at (coming leaves u) ≡ Nothing
held_at_end at [] true e k = cc
held_at_end at [] false e k = refl
held_at_end at (leaf ∷ leaves) u e k = cc

held_between : (u : Bool) (answer : Answer) → answer ≡ between u → is_known answer ≡ true → answer ≡ Nothing
held_between true answer e k = absurd (cc (sym k ∙ ap is_known e))
held_between false answer e k = e

held_before : (at : ℕ) (block : Block) (offset : Option ℕ) (answer : Answer) → at < block.first → answer ≡ Nothing → answer ≡ held_by AtNetwork block offset at
held_before at block offset answer lt e = e ∙ rw (lt-ltb at block.first lt) refl

held_inside : (at : ℕ) (block : Block) (offset : Option ℕ) (answer : Answer) → block.first ≤ at → answer ≡ Record offset → answer ≡ held_by AtNetwork block offset at
held_inside at block offset answer ge a = let e : ltb at block.first ≡ false = grind (arith, nat_tests) in a ∙ rw e refl

held_is : (stand : Stand) (at : ℕ) (block : Block) (offset : Option ℕ) (leaves : List Leaf) (u : Bool) → IsFromAt stand at block leaves → is_known (answer_at at (left_at stand block offset leaves u)) ≡ true → answer_at at (left_at stand block offset leaves u) ≡ held_by stand block offset at
held_is Nowhere at block offset leaves u f k = absurd f
held_is AtEnd at block offset leaves u f k = held_at_end at leaves u f k
held_is AtNetwork at block offset leaves u f k =
    let answer = answer_at at (coming (Network block offset ∷ leaves) u) in
    elim (cases_lt at block.first) [
      | inl lt ↦ held_before at block offset answer lt (held_between u answer (answer_before at block offset leaves u lt) k)
      | inr ge ↦ held_inside at block offset answer ge (answer_inside at block offset leaves u ge f)
    ]

-- of two tests that both hold each holds
both : (a b : Bool) → (a && b) ≡ true → (a ≡ true) × (b ≡ true)
both true b e = (refl, e)
both false b e = cc

pub all_held : (walks : List Standing) (at : ℕ) → All (IsFrom at) walks → list_all is_known (all_said at walks) ≡ true → all_said at walks ≡ map (held_at at) walks
all_held [] at f k = refl
all_held (s ∷ walks) at f k =
    let known = both (is_known (said_at at s)) (list_all is_known (all_said at walks)) k in
    let first = held_is s.stand at s.block s.offset s.leaves s.is_unknown (All-head (IsFrom at) s walks f) known.0 in
    let rest = all_held walks at (All-tail (IsFrom at) s walks f) known.1 in
    ap (λ (x : Answer). x ∷ all_said at walks) first ∙ ap (λ (xs : List Answer). held_at at s ∷ xs) rest

-- ---- the walks one after another

-- what one walk has at an address, as it counts among all
record IsOne (s : Standing) (at : ℕ) (here : Here) : Type 0 where
  within : at ≤ last_here here
  fits : last_here here < 2 ^ 128
  each : (address : ℕ) → at ≤ address → address ≤ last_here here → said_at address s ≡ said_at at s
  readable : is_readable (said_at at s) ≡ true
  known : is_known_here here ≡ is_known (said_at at s)
  some : is_record_here here ≡ is_record (said_at at s)

one_of : (s : Standing) (at last : ℕ) (answer : Answer) → IsSaid (left_of s) at last answer → (address : ℕ) → at ≤ address → address ≤ last → said_at address s ≡ said_at at s
one_of s at last answer h address from to = h.each address from to ∙ sym (h.each at (omega arith) h.within)

one : (s : Standing) (at : ℕ) (here : Here) → IsHere s at here → IsOne s at here
one s at (RecordHere last) h =
    let e : said_at at s ≡ Record s.offset = h.each at (omega arith) h.within in
    record { within = h.within; fits = h.fits; each = one_of s at last (Record s.offset) h; readable = ap is_readable e; known = sym (ap is_known e); some = sym (ap is_record e) }
one s at (NothingHere last) h =
    let e : said_at at s ≡ Nothing = h.each at (omega arith) h.within in
    record { within = h.within; fits = h.fits; each = one_of s at last Nothing h; readable = ap is_readable e; known = sym (ap is_known e); some = sym (ap is_record e) }
one s at (UnknownHere last) h =
    let e : said_at at s ≡ Unknown = h.each at (omega arith) h.within in
    record { within = h.within; fits = h.fits; each = one_of s at last Unknown h; readable = ap is_readable e; known = sym (ap is_known e); some = sym (ap is_record e) }

and_true : (b : Bool) → (b && true) ≡ b
and_true true = refl
and_true false = refl

or_false : (b : Bool) → (b || false) ≡ b
or_false true = refl
or_false false = refl

all_push : (p : Answer → Bool) (xs : List Answer) (x : Answer) → list_all p (xs ++ x ∷ []) ≡ (list_all p xs && p x)
all_push p xs x = list_all-append p xs (x ∷ []) ∙ ap (λ (b : Bool). list_all p xs && b) (and_true (p x))

any_push : (p : Answer → Bool) (xs : List Answer) (x : Answer) → list_any p (xs ++ x ∷ []) ≡ (list_any p xs || p x)
any_push p xs x = list_any-append p xs (x ∷ []) ∙ ap (λ (b : Bool). list_any p xs || b) (or_false (p x))

one_more : (walks : List Standing) (s : Standing) (at : ℕ) (all result : AllHere) (here : Here) → AreHere walks at all → IsOne s at here → result.last ≡ min (last_here here) all.last → result.is_known ≡ (all.is_known && is_known_here here) → result.has_record ≡ (all.has_record || is_record_here here) → AreHere (walks ++ s ∷ []) at result
one_more walks s at all result here a o last known some =
    let push : (address : ℕ) → all_said address (walks ++ s ∷ []) ≡ all_said address walks ++ said_at address s ∷ [] = λ address. map_push (said_at address) walks s in
    let w = a.within in
    let f = a.fits in
    let ow = o.within in
    record {
      within = omega (arith, last, w, ow);
      fits = omega (arith, last, f);
      each = λ address from to.
          let some_same = a.each address from (omega (arith, last, to)) in
          let one_same = o.each address from (omega (arith, last, to)) in
          push address ∙ ap (λ (xs : List Answer). xs ++ said_at address s ∷ []) some_same ∙ ap (λ (x : Answer). all_said at walks ++ x ∷ []) one_same ∙ sym (push at);
      readable = rw (push at, list_all-append is_readable (all_said at walks) (said_at at s ∷ []), a.readable, o.readable) refl;
      known = known ∙ ap (λ (b : Bool). b && is_known_here here) a.known ∙ ap (λ (b : Bool). list_all is_known (all_said at walks) && b) o.known ∙ sym (all_push is_known (all_said at walks) (said_at at s)) ∙ ap (list_all is_known) (sym (push at));
      some = some ∙ ap (λ (b : Bool). b || is_record_here here) a.some ∙ ap (λ (b : Bool). list_any is_record (all_said at walks) || b) o.some ∙ sym (any_push is_record (all_said at walks) (said_at at s)) ∙ ap (list_any is_record) (sym (push at));
    }

pub more_here : (walks : List Standing) (s : Standing) (place at : ℕ) (all result : AllHere) (here : Here) → AreHere (take place walks) at all → IsHere s at here → place < length walks → s ≡ get_or walks place s → result.last ≡ min (last_here here) all.last → result.is_known ≡ (all.is_known && is_known_here here) → result.has_record ≡ (all.has_record || is_record_here here) → AreHere (take (place + 1) walks) at result
more_here walks s place at all result here a h lt is last known some =
    let more : take (place + 1) walks ≡ take place walks ++ s ∷ [] = take_more walks place s lt ∙ ap (λ (x : Standing). take place walks ++ x ∷ []) (sym is) in
    subst (λ (xs : List Standing). AreHere xs at result) (sym more) (one_more (take place walks) s at all result here a (one s at here h) last known some)

-- a walk went on, with which nothing is left out
gone_same : (at : ℕ) (s t : Standing) → IsGone at s t → left_from at t ≡ left_from at s
gone_same at s t gone = from_stays at t gone.«from» ∙ gone.left

-- one of the walks goes on, of the same database
pub same_databases : (before walks : List Standing) (s t : Standing) (place : ℕ) → databases_of walks ≡ databases_of before → s ≡ get_or walks place s → t.database ≡ s.database → databases_of (set walks place t) ≡ databases_of before
same_databases before walks s t place same is kept =
    map-set_same (λ (x : Standing). x.database) walks place t s (kept ∙ ap (λ (x : Standing). x.database) is) ∙ same

pub gone_more : (before walks : List Standing) (s t : Standing) (place at : ℕ) → GoneUpTo place at before walks → place < length walks → s ≡ get_or walks place s → IsGone at s t → t.database ≡ s.database → GoneUpTo (place + 1) at before (set walks place t)
gone_more before walks s t place at g lt is gone kept = record {
  databases = same_databases before walks s t place g.databases is kept;
  left = map-set_same (left_from at) walks place t s (gone_same at s t gone ∙ ap (left_from at) is) ∙ g.left;
  stand = subst (All (IsFrom at)) (sym (take_more_set walks place t lt)) (All-push (IsFrom at) (take place walks) t g.stand gone.«from»);
}

pub gone_all : (before walks : List Standing) (place at : ℕ) → GoneUpTo place at before walks → length walks ≤ place → AllGone at before walks
gone_all before walks place at g le = record { left = g.left; stand = subst (All (IsFrom at)) (take_all place walks le) g.stand }

pub met_of : (before walks : List Standing) (s t : Standing) (place at : ℕ) → AllPassed at before walks → place < length walks → s ≡ get_or walks place s → IsMet (left_from at s) t → IsMetOf place at before (set walks place t)
met_of before walks s t place at left lt is met =
    let same : length walks ≡ length before = sym (length-map walks (left_from at)) ∙ ap length left ∙ length-map before (left_from at) in
    record {
      one = left_from at s;
      walk = t;
      within = omega (arith, same, lt);
      there = ap (left_from at) is ∙ sym (get_or-map (left_from at) walks place s (left_from at s) lt) ∙ ap (λ (xs : List Coming). get_or xs place (left_from at s)) left;
      met = met;
      others = map-set (left_from at) walks place t ∙ ap (λ (xs : List Coming). set xs place (left_from at t)) left;
    }

-- all walks have as many leaves left as before
pub as_many : (before walks : List Standing) (place at : ℕ) → GoneUpTo place at before walks → length walks ≡ length before
as_many before walks place at g = sym (length-map walks (left_from at)) ∙ ap length g.left ∙ length-map before (left_from at)

-- the walks are what they were, where one of them is written back
pub written_back : (walks : List Standing) (s t : Standing) (place : ℕ) → place < length walks → s ≡ get_or walks place s → t ≡ s → set walks place t ≡ walks
written_back walks s t place lt is same = ap (set walks place) (same ∙ is) ∙ set-get_or walks place s

-- ---- the walks go on from where they are

-- what a walk is at that was not yet passed is what it was at
unmoved : (before walks : List Standing) (s : Standing) (place : ℕ) → PassedUpTo place before walks → place < length walks → s ≡ get_or walks place s → s ≡ get_or before place s
unmoved before walks s place g lt is =
    let first = λ (xs : List Standing). get_or xs 0 s in
    is ∙ sym (ap first (drop_more walks place s lt)) ∙ ap first g.rest ∙ ap first (drop_more before place s (omega (arith, g.many, lt)))

done_of : (before walks : List Standing) (s : Standing) (place at : ℕ) → PassedUpTo place before walks → place < length walks → s ≡ get_or walks place s → AreDone at before → IsDone s at
done_of before walks s place at g lt is all =
    subst (λ (x : Standing). IsDone x at) (sym (unmoved before walks s place g lt is)) (All-get_or (λ (x : Standing). IsDone x at) before place s (omega (arith, g.many, lt)) all)

-- of one of which nothing was left nothing is left out
taken_same : (at : ℕ) (s t : Standing) → IsDone s at → IsTaken (behind_of s) t → left_from at t ≡ left_from at s
taken_same at s t d taken = ap (coming_from at) taken.left ∙ sym (done_left at s d)

pub passed_more : (before walks : List Standing) (s t : Standing) (place : ℕ) → PassedUpTo place before walks → place < length walks → s ≡ get_or walks place s → IsTaken (behind_of s) t → t.database ≡ s.database → PassedUpTo (place + 1) before (set walks place t)
passed_more before walks s t place g lt is taken kept = record {
  databases = same_databases before walks s t place g.databases is kept;
  rest = drop-set-lt (place + 1) walks place t (omega arith) ∙ drop_more_same walks before place g.rest;
  many = length-set walks place t ∙ g.many;
  left = λ at all.
      let one = taken_same at s t (done_of before walks s place at g lt is all) taken in
      map-set_same (left_from at) walks place t s (one ∙ ap (left_from at) is) ∙ g.left at all;
}

pub met_on : (before walks : List Standing) (s t : Standing) (place : ℕ) → PassedUpTo place before walks → place < length walks → s ≡ get_or walks place s → IsMet (behind_of s) t → (at : ℕ) → AreDone at before → IsMetOf place at before (set walks place t)
met_on before walks s t place g lt is met at all =
    let first = done_left at s (done_of before walks s place at g lt is all) ∙ unread_first at (behind_of s) t met in
    met_of before walks s t place at (g.left at all) lt is (subst (λ (c : Coming). IsMet c t) (sym first) met)

-- ---- the narrowest of networks

pub narrowest_more : (walks : List Standing) (s : Standing) (place at : ℕ) (before after : Block) (were_even are_even : Bool) → AreNarrowestUpTo place walks at before were_even → place < length walks → s ≡ get_or walks place s → (s.stand ≡ AtNetwork) × (s.block.first ≤ at) → IsBlock s.block → IsBlock after → before.prefix ≤ after.prefix → s.block.prefix ≤ after.prefix → (are_even ≡ true → were_even ≡ true) → (are_even ≡ true → after.prefix ≡ before.prefix) → (are_even ≡ true → s.block.prefix ≡ after.prefix) → AreNarrowestUpTo (place + 1) walks at after are_even
narrowest_more walks s place at before after were_even are_even n lt is begun is_block is_after wider narrower even same one = record {
  is_block = is_after;
  around =
      let longer = All-weaker (λ (x : Standing). StandsAround x (block_at at before.prefix)) (λ (x : Standing). StandsAround x (block_at at after.prefix)) (λ x a. record { stands = a.stands; first = a.first; prefix = let p = a.prefix in omega (arith, p, wider); is_block = a.is_block }) (take place walks) n.around in
      let this : StandsAround s (block_at at after.prefix) = record { stands = begun.0; first = begun.1; prefix = narrower; is_block = is_block } in
      All-more (λ (x : Standing). StandsAround x (block_at at after.prefix)) walks place s lt longer (subst (λ (x : Standing). StandsAround x (block_at at after.prefix)) is this);
  even = λ e.
      let before_same = All-weaker (λ (x : Standing). x.block.prefix ≡ before.prefix) (λ (x : Standing). x.block.prefix ≡ after.prefix) (λ x p. p ∙ sym (same e)) (take place walks) (n.even (even e)) in
      All-more (λ (x : Standing). x.block.prefix ≡ after.prefix) walks place s lt before_same (subst (λ (x : Standing). x.block.prefix ≡ after.prefix) is (one e));
}

pub narrowest_all : (walks : List Standing) (place at : ℕ) (block : Block) (are_even : Bool) → AreNarrowestUpTo place walks at block are_even → length walks ≤ place → 0 < length walks → block.first ≡ at → AreNarrowest walks at block are_even
narrowest_all walks place at block are_even n le some begins =
    let all = take_all place walks le in
    record {
      is_block = n.is_block;
      begins = begins;
      some = some;
      around =
          let each = All-weaker (λ (x : Standing). StandsAround x (block_at at block.prefix)) (λ (x : Standing). StandsAround x block) (λ x a. record { stands = a.stands; first = let f = a.first in omega (arith, f, begins); prefix = a.prefix; is_block = a.is_block }) (take place walks) n.around in
          All-same (λ (x : Standing). StandsAround x block) walks (take place walks) (sym all) each;
      even = λ e. All-same (λ (x : Standing). x.block.prefix ≡ block.prefix) walks (take place walks) (sym all) (n.even e);
    }

abbrev record_of : Standing → Answer
record_of s = Record s.offset

-- at each address of a block that all networks hold each walk has its record
around_all : (walks : List Standing) (block : Block) (at address : ℕ) → block.first ≡ at → All (IsFrom at) walks → All (λ s. StandsAround s block) walks → IsBlock block → IsWithin address block → all_said address walks ≡ map record_of walks
around_all [] block at address begins f a is inn = refl
around_all (s ∷ walks) block at address begins f a is inn =
    let first = around s block at begins (All-head (IsFrom at) s walks f) (All-head (λ (x : Standing). StandsAround x block) s walks a) is address inn in
    let rest = around_all walks block at address begins (All-tail (IsFrom at) s walks f) (All-tail (λ (x : Standing). StandsAround x block) s walks a) is inn in
    ap (λ (x : Answer). x ∷ all_said address walks) first ∙ ap (λ (xs : List Answer). record_of s ∷ xs) rest

held_around : (stand : Stand) (at : ℕ) (block : Block) (offset : Option ℕ) → stand ≡ AtNetwork → block.first ≤ at → held_by stand block offset at ≡ Record offset
held_around stand at block offset e le = let t : ltb at block.first ≡ false = grind (arith, nat_tests) in rw (e, t) refl

held_all : (walks : List Standing) (block : Block) (at : ℕ) → block.first ≡ at → All (λ s. StandsAround s block) walks → map (held_at at) walks ≡ map record_of walks
held_all [] block at begins a = refl
held_all (s ∷ walks) block at begins a =
    let this = All-head (λ (x : Standing). StandsAround x block) s walks a in
    let f = this.first in
    let first : held_at at s ≡ record_of s = held_around s.stand at s.block s.offset this.stands (omega (arith, f, begins)) in
    let rest = held_all walks block at begins (All-tail (λ (x : Standing). StandsAround x block) s walks a) in
    ap (λ (x : Answer). x ∷ map (held_at at) walks) first ∙ ap (λ (xs : List Answer). record_of s ∷ xs) rest

records_known : (walks : List Standing) → list_all is_known (map record_of walks) ≡ true
records_known [] = refl
records_known (s ∷ walks) = records_known walks

records_shown : (walks : List Standing) → 0 < length walks → are_shown (map record_of walks) ≡ true
records_shown [] some = absurd (omega (arith, some))
records_shown (s ∷ walks) some = ap (λ (b : Bool). b && true) (records_known walks)

done_all : (walks : List Standing) (block : Block) (at : ℕ) → block.first ≡ at → All (IsFrom at) walks → All (λ s. StandsAround s block) walks → IsBlock block → All (λ s. s.block.prefix ≡ block.prefix) walks → AreDone (end block) walks
done_all [] block at begins f a is same = All-nil (λ (x : Standing). IsDone x (end block))
done_all (s ∷ walks) block at begins f a is same =
    let around_one = All-head (λ (x : Standing). StandsAround x block) s walks a in
    let one = done s block at begins (All-head (IsFrom at) s walks f) around_one is (All-head (λ (x : Standing). x.block.prefix ≡ block.prefix) s walks same) in
    let rest = done_all walks block at begins (All-tail (IsFrom at) s walks f) (All-tail (λ (x : Standing). StandsAround x block) s walks a) is (All-tail (λ (x : Standing). x.block.prefix ≡ block.prefix) s walks same) in
    All-cons (λ (x : Standing). IsDone x (end block)) s walks one rest

pub narrowest_shown : (walks : List Standing) (at : ℕ) (block : Block) (are_even : Bool) → All (IsFrom at) walks → AreNarrowest walks at block are_even → AreShownAt walks at block are_even
narrowest_shown walks at block are_even f n =
    let held = held_all walks block at n.begins n.around in
    record {
      is_block = n.is_block;
      begins = n.begins;
      said = λ address inn. around_all walks block at address n.begins f n.around n.is_block inn ∙ sym held;
      shown = ap are_shown held ∙ records_shown walks n.some;
      even = λ e. done_all walks block at n.begins f n.around n.is_block (n.even e);
    }

-- ---- what all have, one by one

-- where a block is handed out
pub here_shown : (walks : List Standing) (at : ℕ) (here : AllHere) (block : Block) → All (IsFrom at) walks → AreHere walks at here → (here.is_known && here.has_record) ≡ true → IsBlock block → block.first ≡ at → end block ≤ here.last + 1 → AreShownAt walks at block false
here_shown walks at here block stand h shown is begins within =
    let tests = both here.is_known here.has_record shown in
    let known : list_all is_known (all_said at walks) ≡ true = sym h.known ∙ tests.0 in
    let some : list_any is_record (all_said at walks) ≡ true = sym h.some ∙ tests.1 in
    let held : all_said at walks ≡ map (held_at at) walks = all_held walks at stand known in
    record {
      is_block = is;
      begins = begins;
      said = λ address inn. h.each address (omega (arith, begins, inn.0)) (omega (arith, within, inn.1)) ∙ held;
      shown = ap are_shown (sym held) ∙ ap (λ (b : Bool). b && list_any is_record (all_said at walks)) known ∙ some;
      even = λ e. absurd (cc e);
    }

hidden_at : (answers said : List Answer) (here : AllHere) → answers ≡ said → list_all is_readable said ≡ true → here.is_known ≡ list_all is_known said → here.has_record ≡ list_any is_record said → (here.is_known && here.has_record) ≡ false → ArePassed answers
hidden_at answers said here e readable known some hidden = record {
  readable = ap (list_all is_readable) e ∙ readable;
  hidden = ap are_shown e ∙ ap (λ (b : Bool). b && list_any is_record said) (sym known) ∙ ap (λ (b : Bool). here.is_known && b) (sym some) ∙ hidden;
}

-- where nothing is
pub here_passed : (walks : List Standing) (at : ℕ) (here : AllHere) → AreHere walks at here → (here.is_known && here.has_record) ≡ false → ArePassedAt walks at here.last
here_passed walks at here h hidden = record {
  within = h.within;
  fits = h.fits;
  each = λ address from to. hidden_at (all_said address walks) (all_said at walks) here (h.each address from to) h.readable h.known h.some hidden;
}

-- ---- the parts

-- nothing was passed yet
pub all_start : (at : Option ℕ) (shown_at : ℕ) (walks : List Standing) → AreReached (abreast at shown_at walks) (abreast at shown_at walks)
all_start at shown_at walks = record {
  behind = omega arith;
  skipped = λ address from to. absurd (omega (arith, from, to));
  left = sym (walks_on (start_of at) (start_of at) walks (omega arith));
  databases = refl;
}

-- where all walks go on to the address, the same is left
pub all_gone : (before : Abreast) (at shown_at : ℕ) (walks gone : List Standing) → AreReached before (abreast (Some at) shown_at walks) → AllGone at walks gone → databases_of gone ≡ databases_of walks → AreReached before (abreast (Some at) shown_at gone)
all_gone before at shown_at walks gone r g same = record { behind = r.behind; skipped = r.skipped; left = g.left ∙ r.left; databases = same ∙ r.databases }

-- where addresses are passed
pub all_passed : (before : Abreast) (at shown_at last : ℕ) (next : Option ℕ) (walks : List Standing) → AreReached before (abreast (Some at) shown_at walks) → ArePassedAt walks at last → start_of next ≡ last + 1 → AreReached before (abreast next shown_at walks)
all_passed before at shown_at last next walks r h e = record {
  behind = omega (arith, r.behind, h.within, e);
  skipped = λ address from to. elim (cases_lt address at) [
    | inl lt ↦ r.skipped address from lt
    | inr ge ↦ subst ArePassed (sym (said before.left walks at address ge r.left)) (h.each address ge (omega (arith, to, e)))
  ];
  left = left_on at (start_of next) walks before.left (omega (arith, h.within, e)) r.left;
  databases = r.databases;
}

-- where a block is handed out
pub all_stretch : (before : Abreast) (at shown_at : ℕ) (next : Option ℕ) (walks : List Standing) (block : Block) (are_even : Bool) → AreReached before (abreast (Some at) shown_at walks) → AreShownAt walks at block are_even → start_of next ≡ end block → IsNextBlock before (abreast next at walks) block
all_stretch before at shown_at next walks block are_even r h e = let begins = h.begins in record {
  block = h.is_block;
  behind = omega (arith, r.behind, begins);
  skipped = λ address from to. r.skipped address from (omega (arith, to, begins));
  answered = λ address inn. said before.left walks at address (omega (arith, begins, inn.0)) r.left ∙ h.said address inn;
  shown = h.shown;
  at = e;
  left = left_on at (start_of next) walks before.left (omega (arith, e, begins)) r.left;
}

-- after a leaf that can't be read
pub all_unread : (before : Abreast) (at shown_at place : ℕ) (walks met : List Standing) → AreReached before (abreast (Some at) shown_at walks) → IsMetOf place at walks met → IsNextUnreadOf before (abreast (Some at) shown_at met) place
all_unread before at shown_at place walks met r m =
    let many : length walks ≡ length before.left = sym (length-map walks (left_from at)) ∙ ap length r.left ∙ length-map before.left (coming_from at) in
    let within : place < length before.left = omega (arith, many, m.within) in
    let one = get_or before.left place m.one in
    let is : one ≡ get_or before.left place one = get_or_default before.left place m.one one within in
    let from : m.one ≡ coming_from at one = m.there ∙ ap (λ (xs : List Coming). get_or xs place m.one) r.left ∙ get_or-map (coming_from at) before.left place m.one m.one within in
    record {
      behind = r.behind;
      skipped = r.skipped;
      past = record {
        one = one;
        left = left_from at m.walk;
        within = within;
        there = is;
        past = past one at m.one m.walk m.met from;
        others = m.others ∙ ap (λ (xs : List Coming). set xs place (left_from at m.walk)) r.left;
      };
    }

-- at the first address nothing is past
pub walks_begin : (walks : List Standing) → map (left_from 0) walks ≡ map left_of walks
walks_begin [] = refl
walks_begin (s ∷ walks) = ap (λ (x : Coming). x ∷ map (left_from 0) walks) (from_first (left_of s)) ∙ ap (λ (xs : List Coming). left_of s ∷ xs) (walks_begin walks)

-- ---- all at one network

from_in : (stand : Stand) (start : ℕ) (of block : Block) (leaves : List Leaf) → stand ≡ AtNetwork → of ≡ block → start < end block → IsFromAt stand start of leaves
from_in Nowhere start of block leaves e same lt = cc
from_in AtEnd start of block leaves e same lt = cc
from_in AtNetwork start of block leaves e same lt = subst (λ (b : Block). start < end b) (sym same) lt

shared_from : (walks : List Standing) (at start : ℕ) (block : Block) → AreShared walks at block → start < end block → All (IsFrom start) walks
shared_from walks at start block h lt =
    All-weaker (IsAtBlock block) (IsFrom start) (λ x a. from_in x.stand start x.block block x.leaves a.0 a.1 lt) walks h.each

shared_around : (walks : List Standing) (at : ℕ) (block : Block) → AreShared walks at block → AreNarrowest walks block.first block true
shared_around walks at block h = record {
  is_block = h.is_block;
  begins = refl;
  some = h.some;
  around = All-weaker (IsAtBlock block) (λ (x : Standing). StandsAround x block) (λ x a. record { stands = a.0; first = let f = ap (λ (b : Block). b.first) a.1 in omega (arith, f); prefix = let p = ap (λ (b : Block). b.prefix) a.1 in omega (arith, p); is_block = subst IsBlock (sym a.1) h.is_block }) walks h.each;
  even = λ e. All-weaker (IsAtBlock block) (λ (x : Standing). x.block.prefix ≡ block.prefix) (λ x a. ap (λ (b : Block). b.prefix) a.1) walks h.each;
}

-- before it nothing is handed out
said_before : (stand : Stand) (address : ℕ) (of block : Block) (offset : Option ℕ) (leaves : List Leaf) (u : Bool) → stand ≡ AtNetwork → of ≡ block → address < block.first → answer_at address (left_at stand of offset leaves u) ≡ between u
said_before Nowhere address of block offset leaves u e same lt = cc
said_before AtEnd address of block offset leaves u e same lt = cc
said_before AtNetwork address of block offset leaves u e same lt = answer_before address of offset leaves u (let f = ap (λ (b : Block). b.first) same in omega (arith, f, lt))

between_readable : (u : Bool) → is_readable (between u) ≡ true
between_readable true = refl
between_readable false = refl

between_empty : (u : Bool) → is_record (between u) ≡ false
between_empty true = refl
between_empty false = refl

and_false : (b : Bool) → (b && false) ≡ false
and_false true = refl
and_false false = refl

readable_before : (walks : List Standing) (address : ℕ) (block : Block) → All (IsAtBlock block) walks → address < block.first → list_all is_readable (all_said address walks) ≡ true
readable_before [] address block a lt = refl
readable_before (s ∷ walks) address block a lt =
    let this = All-head (IsAtBlock block) s walks a in
    let first = ap is_readable (said_before s.stand address s.block block s.offset s.leaves s.is_unknown this.0 this.1 lt) ∙ between_readable s.is_unknown in
    ap (λ (b : Bool). b && list_all is_readable (all_said address walks)) first ∙ readable_before walks address block (All-tail (IsAtBlock block) s walks a) lt

empty_before : (walks : List Standing) (address : ℕ) (block : Block) → All (IsAtBlock block) walks → address < block.first → list_any is_record (all_said address walks) ≡ false
empty_before [] address block a lt = refl
empty_before (s ∷ walks) address block a lt =
    let this = All-head (IsAtBlock block) s walks a in
    let first = ap is_record (said_before s.stand address s.block block s.offset s.leaves s.is_unknown this.0 this.1 lt) ∙ between_empty s.is_unknown in
    ap (λ (b : Bool). b || list_any is_record (all_said address walks)) first ∙ empty_before walks address block (All-tail (IsAtBlock block) s walks a) lt

shared_passed : (walks : List Standing) (at address : ℕ) (block : Block) → AreShared walks at block → address < block.first → ArePassed (all_said address walks)
shared_passed walks at address block h lt = record {
  readable = readable_before walks address block h.each lt;
  hidden = ap (λ (b : Bool). list_all is_known (all_said address walks) && b) (empty_before walks address block h.each lt) ∙ and_false (list_all is_known (all_said address walks));
}

shared_reached : (before : Abreast) (at shown_at : ℕ) (walks : List Standing) (block : Block) → AreReached before (abreast (Some at) shown_at walks) → AreShared walks at block → AreReached before (abreast (Some block.first) shown_at walks)
shared_reached before at shown_at walks block r h = record {
  behind = omega (arith, r.behind, h.behind);
  skipped = λ address from to. elim (cases_lt address at) [
    | inl lt ↦ r.skipped address from lt
    | inr ge ↦ subst ArePassed (sym (said before.left walks at address ge r.left)) (shared_passed walks at address block h to)
  ];
  left = left_on at block.first walks before.left h.behind r.left;
  databases = r.databases;
}

shared_shown : (walks : List Standing) (at : ℕ) (block : Block) → AreShared walks at block → AreShownAt walks block.first block true
shared_shown walks at block h =
    let some : 0 < size block = pow_pos (128 - block.prefix) in
    let begins : block.first < end block = omega (arith, some) in
    narrowest_shown walks block.first block true (shared_from walks at block.first block h begins) (shared_around walks at block h)

pub shared_stretch : (before : Abreast) (at shown_at : ℕ) (next : Option ℕ) (walks : List Standing) (block : Block) → AreReached before (abreast (Some at) shown_at walks) → AreShared walks at block → start_of next ≡ end block → IsNextBlock before (abreast next block.first walks) block
shared_stretch before at shown_at next walks block r h e =
    all_stretch before block.first shown_at next walks block true (shared_reached before at shown_at walks block r h) (shared_shown walks at block h) e

pub shared_done : (walks : List Standing) (at : ℕ) (block : Block) → AreShared walks at block → AreDone (end block) walks
shared_done walks at block h = (shared_shown walks at block h).even refl

-- where nothing is left of the networks that they were at, the same is left
pub all_on : (before : Abreast) (at shown_at : ℕ) (walks passed : List Standing) → AreReached before (abreast (Some at) shown_at walks) → AllPassed at walks passed → databases_of passed ≡ databases_of walks → AreReached before (abreast (Some at) shown_at passed)
all_on before at shown_at walks passed r left same = record { behind = r.behind; skipped = r.skipped; left = left ∙ r.left; databases = same ∙ r.databases }
