-- That the walk of two databases side by side is whole.
use Rattle.std.proofs.Common.{◌≡◌, ◌∙◌, ℕ, zero, suc, ◌<◌, ◌≤◌, Bool, true, false, ◌&&◌, inl, inr, List, [], ◌∷◌, length, map, get_or, set, Option, refl, sym, ap, subst, arith}
use Rattle.std.specs.Prelude.{IsSomeAnd}
use Rattle.std.specs.List.{All, Contains, list_all}
use Rattle.std.specs.declared.convert.AsSlice.{Ghosts}
use Rattle.std.proofs.lemmas.Bool.{cases_lt, lt-ltb}
use Rattle.std.proofs.lemmas.Bool.Decides.{nat_tests}
use Rattle.std.proofs.lemmas.List.{get_or-map}
use Rattle.std.proofs.lemmas.List.Elements.{All-tail, All-contains_itself}
use Rattle.std.proofs.Math.Dec.{ltb}
use Rattle.mmdb_blocks.specs.declared.block.Block.{Block}
use Rattle.mmdb_blocks.specs.Blocks.{IsWithin, end}
use Rattle.mmdb_net.specs.Network.{ip_of}
use Rattle.mmdb_net.specs.declared.network.IpNetwork.{IpNetwork}
use Rattle.mmdb_reader.specs.File.{Database}
use Rattle.mmdb_reader.specs.Found.{offset_found}
use Rattle.mmdb_reader.specs.Lookup.{CanAsk}
use Rattle.mmdb_reader.specs.declared.lookup_result.LookupResult.{LookupResult}
use Rattle.mmdb_compare.specs.Agreeing.{IsLeftOf, IsFoundAsAnswered}
use Rattle.mmdb_compare.specs.Coming.{Leaf, Coming, Answer, coming, passed, coming_from, answer_of, answer_at}
use Rattle.mmdb_compare.specs.Coming.Leaf.{Network, Unread}
use Rattle.mmdb_compare.specs.Coming.Answer.{Record, Nothing, Unknown, Unreadable}
use Rattle.mmdb_compare.specs.Found.{numbered_ip, IsFoundAt}
use Rattle.mmdb_compare.specs.Listed.{all_of}
use Rattle.mmdb_compare.specs.Parts.{IsPast}
use Rattle.mmdb_compare.specs.Together.{Abreast, answers_at, all_from, is_readable, is_known, are_shown, ArePassedTo, IsNextBlock, IsNextUnreadOf}
use Rattle.mmdb_cmd_diff.specs.Walked.{has_at, all_at}

-- ---- one database

-- a network that ends after an address, or not
stays : (at : ℕ) (block : Block) (offset : Option ℕ) (leaves : List Leaf) (u : Bool) → at < end block → passed at (Network block offset ∷ leaves) u ≡ coming (Network block offset ∷ leaves) u
stays at block offset leaves u h = rw (lt-ltb at (end block) h) refl

goes : (at : ℕ) (block : Block) (offset : Option ℕ) (leaves : List Leaf) (u : Bool) → end block ≤ at → passed at (Network block offset ∷ leaves) u ≡ passed at leaves false
goes at block offset leaves u h = let e : ltb at (end block) ≡ false = grind (arith, nat_tests) in rw e refl

has-here : (at : ℕ) (block : Block) (offset : Option ℕ) (leaves : List Leaf) (u : Bool) → at < end block → has_at at (Network block offset ∷ leaves) u ≡ answer_of at (Network block offset ∷ leaves) u
has-here at block offset leaves u h = rw (lt-ltb at (end block) h) refl

has-behind : (at : ℕ) (block : Block) (offset : Option ℕ) (leaves : List Leaf) (u : Bool) → end block ≤ at → has_at at (Network block offset ∷ leaves) u ≡ has_at at leaves false
has-behind at block offset leaves u h = let e : ltb at (end block) ≡ false = grind (arith, nat_tests) in rw e refl

-- what is left from an address on has the same there
has-left : (a b : ℕ) (leaves : List Leaf) (u : Bool) → a ≤ b → has_at b (passed a leaves u).leaves (passed a leaves u).is_unknown ≡ has_at b leaves u
has-left a b [] u le = refl
has-left a b (Unread ∷ leaves) u le = refl
has-left a b (Network block offset ∷ leaves) u le = elim (cases_lt a (end block)) [
  | inl lt ↦ ap (λ (left : Coming). has_at b left.leaves left.is_unknown) (stays a block offset leaves u lt)
  | inr ge ↦ ap (λ (left : Coming). has_at b left.leaves left.is_unknown) (goes a block offset leaves u ge) ∙ has-left a b leaves false le ∙ sym (has-behind b block offset leaves u (omega arith))
]

-- where the answer is no leaf that can't be read, it is what the database has
has-answered : (at : ℕ) (leaves : List Leaf) (u : Bool) → is_readable (answer_at at (coming leaves u)) ≡ true → has_at at leaves u ≡ answer_at at (coming leaves u)
has-answered at [] u h = refl
has-answered at (Unread ∷ leaves) u h = absurd (cc)
has-answered at (Network block offset ∷ leaves) u h = elim (cases_lt at (end block)) [
  | inl lt ↦ has-here at block offset leaves u lt ∙ sym (ap (λ (left : Coming). answer_of at left.leaves left.is_unknown) (stays at block offset leaves u lt))
  | inr ge ↦ (
      let same : answer_at at (coming (Network block offset ∷ leaves) u) ≡ answer_at at (coming leaves false) = ap (λ (left : Coming). answer_of at left.leaves left.is_unknown) (goes at block offset leaves u ge) in
      has-behind at block offset leaves u ge ∙ has-answered at leaves false (subst (λ (a : Answer). is_readable a ≡ true) same h) ∙ sym same)
]

-- ---- several

both-true : (a b : Bool) → (a && b) ≡ true → (a ≡ true) × (b ≡ true)
both-true true true h = (refl, refl)
both-true true false h = absurd (cc)
both-true false b h = absurd (cc)

one-readable : (a : Answer) → is_known a ≡ true → is_readable a ≡ true
one-readable (Record offset) h = refl
one-readable Nothing h = refl
one-readable Unknown h = refl
one-readable Unreadable h = h

known-readable : (answers : List Answer) → list_all is_known answers ≡ true → list_all is_readable answers ≡ true
known-readable [] h = refl
known-readable (a ∷ answers) h =
    let (one, rest) = both-true (is_known a) (list_all is_known answers) h in
    rw (one-readable a one) (known-readable answers rest)

all-answered : (at : ℕ) (left : List Coming) → list_all is_readable (answers_at at left) ≡ true → all_at left at ≡ answers_at at left
all-answered at [] h = refl
all-answered at (c ∷ left) h =
    let (one, rest) = both-true (is_readable (answer_at at c)) (list_all is_readable (answers_at at left)) h in
    ap (λ (a : Answer). a ∷ all_at left at) (has-answered at c.leaves c.is_unknown one) ∙ ap (λ (rest : List Answer). answer_at at c ∷ rest) (all-answered at left rest)

all-left : (a b : ℕ) (left : List Coming) → a ≤ b → all_at (all_from a left) b ≡ all_at left b
all-left a b [] le = refl
all-left a b (c ∷ left) le =
    ap (λ (x : Answer). x ∷ all_at (all_from a left) b) (has-left a b c.leaves c.is_unknown le) ∙ ap (λ (rest : List Answer). has_at b c.leaves c.is_unknown ∷ rest) (all-left a b left le)

-- ---- parts of a walk

-- after a stretch the same is had from its end on
pub goes-on : (before after : Abreast) (next : Block) (address : ℕ) → IsNextBlock before after next → after.at ≤ address → all_at after.left address ≡ all_at before.left address
goes-on before after next address step le =
    ap (λ (left : List Coming). all_at left address) step.left ∙ all-left after.at address before.left le

-- in it the answers are what both have
pub has-within : (before after : Abreast) (next : Block) (address : ℕ) → IsNextBlock before after next → IsWithin address next → all_at before.left address ≡ after.answers
has-within before after next address step within =
    let same = step.answered address within in
    let known = known-readable after.answers (both-true _ _ step.shown).0 in
    all-answered address before.left (subst (λ (answers : List Answer). list_all is_readable answers ≡ true) (sym same) known) ∙ same

-- at an address that is passed nothing is shown
pub passed-hidden : (t : Abreast) (to address : ℕ) → ArePassedTo to t → t.at ≤ address → address < to → are_shown (all_at t.left address) ≡ true → ⊥
passed-hidden t to address passes le lt shown =
    let passed = passes address le lt in
    let hidden = passed.hidden in
    let same = all-answered address t.left passed.readable in
    absurd (cc)

map-set : {A B : Type 0} (f : A → B) (xs : List A) (i : ℕ) (y d : A) → i < length xs → f y ≡ f (get_or xs i d) → map f (set xs i y) ≡ map f xs
map-set f [] i y d lt same = absurd (omega (arith, lt))
map-set f (x ∷ xs) zero y d lt same = ap (λ z. z ∷ map f xs) same
map-set f (x ∷ xs) (suc i) y d lt same = ap (λ zs. f x ∷ zs) (map-set f xs i y d (omega (arith, lt)) same)

abbrev has : ℕ → Coming → Answer
has address c = has_at address c.leaves c.is_unknown

has-past : (at address : ℕ) (one left : Coming) → IsPast at one left → at ≤ address → has address left ≡ has address one
has-past at address one left past le =
    ap (has address) past.left ∙ has-left at address past.leaves true le ∙ sym (ap (has address) past.met) ∙ has-left at address one.leaves one.is_unknown le

-- after a leaf that can't be read too
pub goes-on-unread : (before after : Abreast) (place address : ℕ) → IsNextUnreadOf before after place → after.at ≤ address → all_at after.left address ≡ all_at before.left address
goes-on-unread before after place address step le =
    let p = step.past in
    let there : get_or (all_from after.at before.left) place (coming_from after.at p.one) ≡ coming_from after.at p.one =
    get_or-map (coming_from after.at) before.left place p.one (coming_from after.at p.one) p.within ∙ ap (coming_from after.at) (sym p.there) in
    let same : has address p.left ≡ has address (get_or (all_from after.at before.left) place (coming_from after.at p.one)) =
    has-past after.at address p.one p.left p.past le ∙ sym (has-left after.at address p.one.leaves p.one.is_unknown le) ∙ sym (ap (has address) there) in
    let within : place < length (all_from after.at before.left) = omega (arith, p.within, Rattle.std.proofs.lemmas.List.length-map before.left (coming_from after.at)) in
    ap (λ (left : List Coming). all_at left address) p.others ∙ map-set (has address) (all_from after.at before.left) place p.left (coming_from after.at p.one) within same
    ∙ all-left after.at address before.left le

-- ---- what a lookup finds

pub has-record : (db : Database) (range : IpNetwork) (at : ℕ) (leaves : List Leaf) (u : Bool) (offset : Option ℕ) → All (Contains (all_of db range).leaves) leaves → has_at at leaves u ≡ Record offset
    → (c : Coming) × IsLeftOf db range c × (answer_at at c ≡ Record offset)
has-record db range at [] true offset all h = absurd (cc)
has-record db range at [] false offset all h = absurd (cc)
has-record db range at (Unread ∷ leaves) u offset all h = has-record db range at leaves true offset (All-tail (Contains (all_of db range).leaves) Unread leaves all) h
has-record db range at (Network block o ∷ leaves) u offset all h = elim (cases_lt at (end block)) [
  | inl lt ↦ (
    coming (Network block o ∷ leaves) u,
    all,
    ap (λ (left : Coming). answer_of at left.leaves left.is_unknown) (stays at block o leaves u lt) ∙ sym (has-here at block o leaves u lt) ∙ h,
  )
  | inr ge ↦ has-record db range at leaves false offset (All-tail (Contains (all_of db range).leaves) (Network block o) leaves all) (sym (has-behind at block o leaves u ge) ∙ h)
]

-- where a database has a record, a lookup finds it at that offset
pub found-there : {S : Type 0} {G : Ghosts S ℕ} (found : Option (LookupResult S G)) (db : Database) (range : IpNetwork) (at : ℕ) (offset : Option ℕ)
    → IsFoundAsAnswered found → CanAsk db (ip_of range) → has_at at (all_of db range).leaves (all_of db range).is_unknown ≡ Record offset
    → IsFoundAt db (numbered_ip at) found → IsSomeAnd found (λ r. offset_found r ≡ offset)
found-there found db range at offset law can h there =
    let (c, left, answered) = has-record db range at (all_of db range).leaves (all_of db range).is_unknown offset (All-contains_itself (all_of db range).leaves) h in
    law db range c at offset can left answered there
