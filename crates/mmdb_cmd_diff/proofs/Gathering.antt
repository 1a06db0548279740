-- What is told while two databases are compared.
use Rattle.std.proofs.Common.{◌≡◌, ◌∙◌, ◌⊎◌, inl, inr, ℕ, zero, suc, ◌+◌, ◌-◌, ◌<◌, ◌≤◌, ◌^◌, Bool, true, false, List, [], ◌∷◌, ◌++◌, length, get_or, drop, Option, Some, None, is_some, IfSome, Result, Ok, Err, OnOk, set, refl, sym, ap, subst, arith, option_map}
use Rattle.std.specs.Prelude.{IsSomeAnd, slice_get, replicate}
use Rattle.std.specs.Borrow.{Bor}
use Rattle.std.specs.Option.{ForSome}
use Rattle.std.specs.Io.KnownBytes.{Appends, Keeps}
use Rattle.std.proofs.KnownBytes.{Appends-nil, Appends-trans}
use Rattle.std.specs.declared.convert.AsSlice.{Ghosts}
use Rattle.std.proofs.lemmas.Bool.{cases_lt}
use Rattle.std.proofs.lemmas.List.{length-append}
use Rattle.std.proofs.lemmas.Nat.{pow_pos}
use Rattle.mmdb_blocks.specs.declared.block.Block.{Block}
use Rattle.mmdb_blocks.specs.Blocks.{IsWithin, end}
use Rattle.mmdb_blocks.specs.Kinds.{IsWanted}
use Rattle.mmdb_blocks.specs.declared.kind.Kinds.{Kinds}
use Rattle.mmdb_layout.specs.declared.layout.Layout.{Layout}
use Rattle.mmdb_format.specs.Error.{MemoryApart}
use Rattle.mmdb_format.specs.declared.error.MaxMindDbError.{MaxMindDbError}
use Rattle.mmdb_format.specs.declared.error.MaxMindDbError.TheVariants.{Memory, InvalidDatabase, Io, Decoding, ResourceLimit, InvalidNetwork, InvalidInput}
use Rattle.mmdb_net.specs.Network.{ip_of}
use Rattle.mmdb_net.specs.declared.network.IpNetwork.{IpNetwork}
use Rattle.mmdb_reader.specs.File.{Database, data_section}
use Rattle.mmdb_reader.specs.Found.{section_asked, offset_found}
use Rattle.mmdb_reader.specs.Lookup.{CanAsk}
use Rattle.mmdb_reader.specs.declared.lookup_result.LookupResult.{LookupResult}
use Rattle.mmdb_compare.specs.Agreeing.{IsFoundAsAnswered}
use Rattle.mmdb_compare.specs.Coming.{Coming, Answer}
use Rattle.mmdb_compare.specs.Coming.Answer.{Record, Nothing, Unknown, Unreadable}
use Rattle.mmdb_compare.specs.Found.{numbered_ip, IsFoundAt}
use Rattle.mmdb_compare.specs.Kept.{AreKeptAs, IsIn}
use Rattle.mmdb_compare.specs.Listed.{all_of}
use Rattle.mmdb_compare.specs.Same.{Sections}
use Rattle.mmdb_compare.specs.Together.{Abreast, ArePassedTo, AreOver, IsNextBlock, IsNextOfAll, IsNextUnreadOf, are_shown, offset_of, offset_in as offset_among}
use Rattle.mmdb_compare.specs.declared.pairs.KnownPairs.{KnownPairs}
use Rattle.mmdb_compare.specs.declared.pairs.Offsets.{Offsets}
use Rattle.mmdb_compare.specs.declared.side.Side.{Side}
use Rattle.mmdb_compare.specs.declared.together.TogetherPart.{TogetherPart}
use Rattle.mmdb_compare.specs.declared.together.TogetherPart.TheVariants.{Stretch as StretchPart, Unread as UnreadPart}
use Rattle.mmdb_compare.specs.declared.together.TogetherStretch.{TogetherStretch}
use Rattle.mmdb_cmd_diff.specs.Alike.{AreAlike, AreKeptAlike, IsNoMemory, IsOfAlike, IsUnread, IsFoundIn}
use Rattle.mmdb_cmd_diff.specs.Comparing.{AreMarked, AreSoFar, GoesOn, IsLeftOut, IsReady, ShowTheSame, TellsAll, IsTaken, IsTakenPart, IsWaiting, AreAllWaiting, in_stretches, untold, untold_by, with_part}
use Rattle.mmdb_cmd_diff.specs.Lines.{Both, AreWaiting, HasThere, IsInBlock, IsInLines, Tells, kind_of, waiting_in, with_stretch, none}
use Rattle.mmdb_cmd_diff.specs.Showing.{Showing, offset_in}
use Rattle.mmdb_cmd_diff.specs.Walked.{has_at, all_at, both_of, IsShownAt, AreCompared}
use Rattle.mmdb_cmd_diff.specs.declared.changes.Changes.{Changes}
use Rattle.mmdb_cmd_diff.specs.declared.comparison.SoFar.{SoFar}
use Rattle.mmdb_cmd_diff.specs.declared.comparison.Stretch.{Stretch}
use Rattle.mmdb_cmd_diff.proofs.Telling.{tells-as, tells-weaker, tells-then, tells-same, in-lines-front, in-lines-behind, lines-more}
use Rattle.mmdb_cmd_diff.proofs.Walking.{found-there, goes-on, goes-on-unread, has-within, passed-hidden}

-- ---- results

pub always-ok : {T E : Type 0} (r : Result T E) (P : Type 0) → P → OnOk r P
always-ok (Ok x) P p = p
always-ok (Err e) P p = tt

pub both-ok : {T E : Type 0} (r : Result T E) (P Q R : Type 0) → (P → Q → R) → OnOk r P → OnOk r Q → OnOk r R
both-ok (Ok x) P Q R f p q = f p q
both-ok (Err e) P Q R f p q = tt

pub no-memory : (e : MaxMindDbError) → (e ≡ Memory → ⊥) → IsNoMemory e
no-memory Memory f = f refl
no-memory (InvalidDatabase message place) f = tt
no-memory (Io e) f = tt
no-memory (Decoding message place path) f = tt
no-memory (ResourceLimit message place path) f = tt
no-memory (InvalidNetwork e) f = tt
no-memory (InvalidInput message) f = tt

pub apart-read : (e : MaxMindDbError) (P : Type 0) → MemoryApart e P → IsNoMemory e → P
apart-read Memory P h fine = absurd fine
apart-read (InvalidDatabase message place) P h fine = h
apart-read (Io e) P h fine = h
apart-read (Decoding message place path) P h fine = h
apart-read (ResourceLimit message place path) P h fine = h
apart-read (InvalidNetwork e) P h fine = h
apart-read (InvalidInput message) P h fine = h

-- ---- what waits

waiting-as : (showing others : Showing) (both : Both) (changes after : Changes) → others ≡ showing → after ≡ changes → AreWaiting showing both changes → AreWaiting others both after
waiting-as showing others both changes after is same h =
    subst (λ (z : Showing). AreWaiting z both after) (sym is) (subst (λ (k : Changes). AreWaiting showing both k) (sym same) h)

kept-as : (showing others : Showing) (kept after : KnownPairs) → others ≡ showing → after ≡ kept → AreKeptAlike showing kept → AreKeptAlike others after
kept-as showing others kept after is same h =
    subst (λ (z : Showing). AreKeptAlike z after) (sym is) (subst (λ (k : KnownPairs). AreKeptAlike showing k) (sym same) h)

pub ready-as : (both : Both) (s t : SoFar) → t.pairs.shown ≡ s.pairs.shown → t.pairs.kept ≡ s.pairs.kept → t.changes ≡ s.changes → IsReady both s → IsReady both t
ready-as both s t is kept same h = record {
  changes = waiting-as s.pairs.shown t.pairs.shown both s.changes t.changes is same h.changes;
  kept = kept-as s.pairs.shown t.pairs.shown s.pairs.kept t.pairs.kept is kept h.kept;
}

-- what is kept changes, and stays alike
pub ready-kept : (both : Both) (s t : SoFar) → t.pairs.shown ≡ s.pairs.shown → AreKeptAlike s.pairs.shown t.pairs.kept → t.changes ≡ s.changes → IsReady both s → IsReady both t
ready-kept both s t is kept same h = record {
  changes = waiting-as s.pairs.shown t.pairs.shown both s.changes t.changes is same h.changes;
  kept = subst (λ (z : Showing). AreKeptAlike z t.pairs.kept) (sym is) kept;
}

-- what a comparison tells that shows the same
pub told-as : (both : Both) (s t : SoFar) (part : TogetherStretch) (after : Changes) (a b : Option (List ℕ)) → ShowTheSame s t → t.changes ≡ s.changes
    → Tells t.pairs.layout.now t.pairs.shown both (with_stretch part (waiting_in t.changes)) (untold t.kinds t.pairs.shown both after []) a b
    → Tells s.pairs.layout.now s.pairs.shown both (with_stretch part (waiting_in s.changes)) (untold s.kinds s.pairs.shown both after []) a b
told-as both s t part after a b same changes h =
    let one = tells-as s.pairs.layout.now t.pairs.layout.now s.pairs.shown t.pairs.shown both _ _ a b (ap (λ l. l.now) same.layout) same.shown h in
    subst (λ (k : Changes). Tells s.pairs.layout.now s.pairs.shown both (with_stretch part (waiting_in k)) (untold s.kinds s.pairs.shown both after []) a b) changes
    (subst (λ (k : Kinds). Tells s.pairs.layout.now s.pairs.shown both (with_stretch part (waiting_in t.changes)) (untold k s.pairs.shown both after []) a b) same.kinds
    (subst (λ (z : Showing). Tells s.pairs.layout.now s.pairs.shown both (with_stretch part (waiting_in t.changes)) (untold t.kinds z both after []) a b) same.shown one))

-- a report is as what was told before it
pub fault-told : (both : Both) (s t : SoFar) (after : Changes) (a b : Option (List ℕ)) → ShowTheSame s t → t.changes ≡ s.changes
    → Tells t.pairs.layout.now t.pairs.shown both (waiting_in t.changes) (waiting_in after) a b → Tells s.pairs.layout.now s.pairs.shown both (waiting_in s.changes) (waiting_in after) a b
fault-told both s t after a b same changes h =
    subst (λ (k : Changes). Tells s.pairs.layout.now s.pairs.shown both (waiting_in k) (waiting_in after) a b) changes
    (tells-as s.pairs.layout.now t.pairs.layout.now s.pairs.shown t.pairs.shown both _ _ a b (ap (λ l. l.now) same.layout) same.shown h)

-- ---- pairs that are marked

set-marked : (marks : List Bool) (i j : ℕ) (b : Bool) → get_or (set marks i b) j false ≡ true → (get_or marks j false ≡ true) ⊎ ((i ≡ j) × (b ≡ true))
set-marked [] i j b h = inl h
set-marked (x ∷ marks) zero zero b h = inr (refl, h)
set-marked (x ∷ marks) zero (suc j) b h = inl h
set-marked (x ∷ marks) (suc i) zero b h = inl h
set-marked (x ∷ marks) (suc i) (suc j) b h = next (set-marked marks i j b h) where
  next : (get_or marks j false ≡ true) ⊎ ((i ≡ j) × (b ≡ true)) → (get_or marks j false ≡ true) ⊎ ((suc i ≡ suc j) × (b ≡ true))
  next (inl g) = inl g
  next (inr (same, is)) = inr (ap suc same, is)

pub marked-set : (kept : KnownPairs) (pairs : List (Option Offsets)) (marks : List Bool) (i : ℕ) (b : Bool) → AreMarked kept pairs marks → (b ≡ true → IsSomeAnd (slice_get pairs i) (IsIn kept.same))
    → AreMarked kept pairs (set marks i b)
marked-set kept pairs marks i b all one j h = either (set-marked marks i j b h) where
  either : (get_or marks j false ≡ true) ⊎ ((i ≡ j) × (b ≡ true)) → IsSomeAnd (slice_get pairs j) (IsIn kept.same)
  either (inl g) = all j g
  either (inr (same, is)) = subst (λ (k : ℕ). IsSomeAnd (slice_get pairs k) (IsIn kept.same)) same (one is)

-- what is kept grows by nothing
pub grows-by-none : (a b : Option (List ℕ)) → Keeps a b → Appends a b []
grows-by-none None b h = tt
grows-by-none (Some x) None h = absurd h
grows-by-none (Some x) (Some y) h = h ∙ sym (Rattle.std.proofs.Common.append-nil x)

-- ---- addresses that are left out

module _ (kinds : Kinds) (showing : Showing) (both : Both) (stretch : TogetherStretch) (old new : Option ℕ) (there : HasThere both stretch old new) where
  same_there : (is_ipv4 : Bool) (address : ℕ) → IsInBlock stretch.is_ipv4 stretch.block is_ipv4 address → both is_ipv4 address ≡ (old, new)
  same_there is_ipv4 address (kind, within) = ap (λ b. both b address) (sym kind) ∙ there address within

  pub out-alike : AreAlike showing old new → (is_ipv4 : Bool) (address : ℕ) → IsInBlock stretch.is_ipv4 stretch.block is_ipv4 address → IsLeftOut kinds showing both is_ipv4 address
  out-alike alike is_ipv4 address within =
      inr (inl (subst (λ (p : Option ℕ × Option ℕ). AreAlike showing p.0 p.1) (sym (same_there is_ipv4 address within)) alike))

  pub out-unread : (side : Side) → IsUnread showing old new side → (is_ipv4 : Bool) (address : ℕ) → IsInBlock stretch.is_ipv4 stretch.block is_ipv4 address
      → IsLeftOut kinds showing both is_ipv4 address
  out-unread side unread is_ipv4 address within =
      inr (inr (side, subst (λ (p : Option ℕ × Option ℕ). IsUnread showing p.0 p.1 side) (sym (same_there is_ipv4 address within)) unread))

pub out-unwanted : (kinds : Kinds) (showing : Showing) (both : Both) (stretch : TogetherStretch) → ¬ IsWanted kinds (kind_of stretch.is_ipv4)
    → (is_ipv4 : Bool) (address : ℕ) → IsInBlock stretch.is_ipv4 stretch.block is_ipv4 address → IsLeftOut kinds showing both is_ipv4 address
out-unwanted kinds showing both stretch unwanted is_ipv4 address (kind, within) =
    inl (λ wanted. unwanted (subst (λ (b : Bool). IsWanted kinds (kind_of b)) (sym kind) wanted))

module _ (layout : Layout) (kinds : Kinds) (showing : Showing) (both : Both) (stretch : TogetherStretch) where
  -- a stretch is left out after what was told
  pub tells-out : (before after : Changes) (a b : Option (List ℕ)) → ((is_ipv4 : Bool) (address : ℕ) → IsInBlock stretch.is_ipv4 stretch.block is_ipv4 address → IsLeftOut kinds showing both is_ipv4 address)
      → Tells layout showing both (waiting_in before) (waiting_in after) a b
      → Tells layout showing both (with_stretch stretch (waiting_in before)) (untold kinds showing both after []) a b
  tells-out before after a b out told =
      tells-weaker layout showing both (waiting_in before) (waiting_in after) (with_stretch stretch (waiting_in before)) (untold kinds showing both after []) a b due (λ is_ipv4 address still. inl still) told where
        due : (is_ipv4 : Bool) (address : ℕ) → with_stretch stretch (waiting_in before) is_ipv4 address → waiting_in before is_ipv4 address ⊎ untold kinds showing both after [] is_ipv4 address
        due is_ipv4 address (inl waits) = inl waits
        due is_ipv4 address (inr within) = inr (inr (inr (out is_ipv4 address within)))

  -- where nothing is written
  pub tells-out-none : (changes : Changes) (a : Option (List ℕ)) → ((is_ipv4 : Bool) (address : ℕ) → IsInBlock stretch.is_ipv4 stretch.block is_ipv4 address → IsLeftOut kinds showing both is_ipv4 address)
      → Tells layout showing both (with_stretch stretch (waiting_in changes)) (untold kinds showing both changes []) a a
  tells-out-none changes a out = tells-out changes changes a a out (tells-same layout showing both (waiting_in changes) (waiting_in changes) a (λ is_ipv4 address waits. waits))

  -- a stretch is pushed
  pub tells-pushed : (before after : Changes) (a b : Option (List ℕ)) → Tells layout showing both (with_stretch stretch (waiting_in before)) (waiting_in after) a b
      → Tells layout showing both (with_stretch stretch (waiting_in before)) (untold kinds showing both after []) a b
  tells-pushed before after a b told =
      tells-weaker layout showing both _ (waiting_in after) _ (untold kinds showing both after []) a b (λ is_ipv4 address due. inl due) (λ is_ipv4 address still. inl still) told

-- ---- what was found in a stretch

pub there-of : (left : List Coming) (part : TogetherStretch) (answers : List Answer) → IsTaken left part answers → HasThere (both_of left) part (offset_among answers 0) (offset_among answers 1)
there-of left part answers taken address within = ap (λ (xs : List Answer). (offset_among xs 0, offset_among xs 1)) (taken address within)

some-offset : {S : Type 0} {G : Ghosts S ℕ} (found : Option (LookupResult S G)) (offset : Option ℕ) → IsSomeAnd found (λ r. offset_found r ≡ offset) → offset_in found ≡ offset
some-offset None offset h = absurd h
some-offset (Some r) offset h = h

offset-of-found : {S : Type 0} {G : Ghosts S ℕ} (found : Option (LookupResult S G)) (db : Database) (range : IpNetwork) (first : ℕ) (h : Answer) (b : Bool)
    → has_at first (all_of db range).leaves (all_of db range).is_unknown ≡ h → IsFoundAsAnswered found → CanAsk db (ip_of range) → b ≡ is_some (offset_of h)
    → (b ≡ true → IsFoundAt db (numbered_ip first) found) → (b ≡ false → found ≡ None) → offset_in found ≡ offset_of h
offset-of-found found db range first (Record offset) true is law can some there none = some-offset found offset (found-there found db range first offset law can is (there refl))
offset-of-found found db range first (Record None) false is law can some there none = ap offset_in (none refl)
offset-of-found found db range first (Record (Some o)) false is law can some there none = absurd (cc)
offset-of-found found db range first Nothing true is law can some there none = absurd (cc)
offset-of-found found db range first Unknown true is law can some there none = absurd (cc)
offset-of-found found db range first Unreadable true is law can some there none = absurd (cc)
offset-of-found found db range first Nothing false is law can some there none = ap offset_in (none refl)
offset-of-found found db range first Unknown false is law can some there none = ap offset_in (none refl)
offset-of-found found db range first Unreadable false is law can some there none = ap offset_in (none refl)

not-none : {A : Type 0} (x : A) → Some x ≡ None → ⊥
not-none x h = cc

one_some : {A : Type 0} (x y : A) → Some x ≡ Some y → x ≡ y
one_some x y h = cc

section-of-found : {S : Type 0} {G : Ghosts S ℕ} (found : Option (LookupResult S G)) (db : Database) (first : ℕ) (b : Bool) (s : List ℕ) → s ≡ data_section db
    → (b ≡ true → IsFoundAt db (numbered_ip first) found) → (b ≡ false → found ≡ None) → IfSome found (λ r. section_asked r ≡ s)
section-of-found None db first b s same there nowhere = tt
section-of-found (Some r) db first true s same there nowhere = ap data_section (there refl).database ∙ sym same
section-of-found (Some r) db first false s same there nowhere = absurd (not-none r (nowhere refl))

-- the first address is in it
begins : (part : TogetherStretch) → IsWithin part.block.first part.block
begins part = (omega arith, omega (arith, pow_pos (128 - part.block.prefix)))

pub there-as : (both : Both) (part : TogetherStretch) (old new first second : Option ℕ) → first ≡ old → second ≡ new → HasThere both part old new → HasThere both part first second
there-as both part old new first second is_old is_new there =
    subst (λ o. HasThere both part o second) (sym is_old) (subst (λ n. HasThere both part old n) (sym is_new) there)

module _ {S : Type 0} {G : Ghosts S ℕ} where
  pub found-in : (refs : Option (Bor (LookupResult S G))) (found : Option (LookupResult S G)) (s : List ℕ) → option_map (λ f. f.now) refs ≡ found
      → IfSome found (λ r. section_asked r ≡ s) → IsFoundIn s refs
  found-in None found s same h = tt
  found-in (Some f) None s same h = absurd (not-none f.now same)
  found-in (Some f) (Some r) s same h = subst (λ (x : LookupResult S G). section_asked x ≡ s) (sym (one_some f.now r same)) h

  module _ (sections : Sections) (dbs : List Database) (left : List Coming) (compared : AreCompared sections dbs left) (part : TogetherStretch) (answers : List Answer) (taken : IsTaken left part answers)
      (found : Option (LookupResult S G)) (b : Bool) (law : IsFoundAsAnswered found) where
    first_of : answers ≡ has_at part.block.first (all_of compared.old compared.range).leaves (all_of compared.old compared.range).is_unknown
        ∷ has_at part.block.first (all_of compared.new compared.range).leaves (all_of compared.new compared.range).is_unknown ∷ []
    first_of = sym (taken part.block.first (begins part)) ∙ ap (λ (l : List Coming). all_at l part.block.first) compared.left_is

    -- what was found in the old one
    pub found-old : b ≡ is_some (offset_among answers 0) → (b ≡ true → (db : Database) → 0 < length dbs → IsFoundAt (get_or dbs 0 db) (numbered_ip part.block.first) found) → (b ≡ false → found ≡ None)
        → (offset_in found ≡ offset_among answers 0) × IfSome found (λ r. section_asked r ≡ sections.in_old)
    found-old is there nowhere =
        let one : has_at part.block.first (all_of compared.old compared.range).leaves (all_of compared.old compared.range).is_unknown ≡ get_or answers 0 Nothing =
        sym (ap (λ (xs : List Answer). get_or xs 0 Nothing) first_of) in
        let many : 0 < length dbs = omega (arith, ap length compared.databases_are) in
        let same : get_or dbs 0 compared.old ≡ compared.old = ap (λ (xs : List Database). get_or xs 0 compared.old) compared.databases_are in
        let at : b ≡ true → IsFoundAt compared.old (numbered_ip part.block.first) found = λ h. subst (λ (db : Database). IsFoundAt db (numbered_ip part.block.first) found) same (there h compared.old many) in (
          offset-of-found found compared.old compared.range part.block.first (get_or answers 0 Nothing) b one law compared.can_ask_old is at nowhere,
          section-of-found found compared.old part.block.first b sections.in_old compared.in_old at nowhere,
        )

    -- in the new one
    pub found-new : b ≡ is_some (offset_among answers 1) → (b ≡ true → (db : Database) → 1 < length dbs → IsFoundAt (get_or dbs 1 db) (numbered_ip part.block.first) found) → (b ≡ false → found ≡ None)
        → (offset_in found ≡ offset_among answers 1) × IfSome found (λ r. section_asked r ≡ sections.in_new)
    found-new is there nowhere =
        let one : has_at part.block.first (all_of compared.new compared.range).leaves (all_of compared.new compared.range).is_unknown ≡ get_or answers 1 Nothing =
        sym (ap (λ (xs : List Answer). get_or xs 1 Nothing) first_of) in
        let many : 1 < length dbs = omega (arith, ap length compared.databases_are) in
        let same : get_or dbs 1 compared.new ≡ compared.new = ap (λ (xs : List Database). get_or xs 1 compared.new) compared.databases_are in
        let at : b ≡ true → IsFoundAt compared.new (numbered_ip part.block.first) found = λ h. subst (λ (db : Database). IsFoundAt db (numbered_ip part.block.first) found) same (there h compared.new many) in (
          offset-of-found found compared.new compared.range part.block.first (get_or answers 1 Nothing) b one law compared.can_ask_new is at nowhere,
          section-of-found found compared.new part.block.first b sections.in_new compared.in_new at nowhere,
        )

-- ---- stretches that wait

drop-next : {A : Type 0} (xs : List A) (i : ℕ) (x : A) → slice_get xs i ≡ Some x → drop i xs ≡ x ∷ drop (suc i) xs
drop-next [] i x h = absurd (cc)
drop-next (y ∷ xs) zero x h = ap (λ z. z ∷ xs) (one_some y x h)
drop-next (y ∷ xs) (suc i) x h = drop-next xs i x h

drop-some : {A : Type 0} (xs : List A) (i : ℕ) (x : A) → slice_get xs i ≡ Some x → drop i xs ≡ x ∷ drop (i + 1) xs
drop-some xs i x h = let next : suc i ≡ i + 1 = omega arith in drop-next xs i x h ∙ ap (λ n. x ∷ drop n xs) next

drop_nothing : {A : Type 0} (i : ℕ) → drop {A = A} i [] ≡ []
drop_nothing zero = refl
drop_nothing (suc i) = refl

pub drop-none : {A : Type 0} (xs : List A) (i : ℕ) → slice_get xs i ≡ None → drop i xs ≡ []
drop-none [] i h = drop_nothing i
drop-none (y ∷ xs) zero h = absurd (cc)
drop-none (y ∷ xs) (suc i) h = drop-none xs i h

pub drop-all : {A : Type 0} (xs : List A) (i : ℕ) → length xs ≤ i → drop i xs ≡ []
drop-all [] i h = drop_nothing i
drop-all (y ∷ xs) zero h = absurd (omega (arith, h))
drop-all (y ∷ xs) (suc i) h = drop-all xs i (omega (arith, h))

pub waiting-at : (left : List Coming) (ss : List Stretch) (ps : List (Option Offsets)) (i : ℕ) (s : Stretch) (p : Option Offsets) → AreAllWaiting left ss ps → slice_get ss i ≡ Some s → slice_get ps i ≡ Some p
    → IsWaiting left s p
waiting-at left [] ps i s p all h g = absurd (cc)
waiting-at left (x ∷ ss) [] i s p all h g = absurd all
waiting-at left (x ∷ ss) (q ∷ ps) zero s p all h g =
    subst (λ (y : Stretch). IsWaiting left y p) (one_some x s h) (subst (λ (r : Option Offsets). IsWaiting left x r) (one_some q p g) all.0)
waiting-at left (x ∷ ss) (q ∷ ps) (suc i) s p all h g = waiting-at left ss ps i s p all.1 h g

pub ends-with : (left : List Coming) (ss : List Stretch) (ps : List (Option Offsets)) (i : ℕ) → AreAllWaiting left ss ps → (slice_get ss i ≡ None) ⊎ (slice_get ps i ≡ None) → drop i ss ≡ []
ends-with left ss ps i all (inl h) = drop-none ss i h
ends-with left [] ps i all (inr h) = drop_nothing i
ends-with left (x ∷ ss) [] i all (inr h) = absurd all
ends-with left (x ∷ ss) (q ∷ ps) zero all (inr h) = absurd (cc)
ends-with left (x ∷ ss) (q ∷ ps) (suc i) all (inr h) = ends-with left ss ps i all.1 (inr h)

pub begins-with : (left : List Coming) (ss : List Stretch) (ps : List (Option Offsets)) (i : ℕ) (p : Option Offsets) → AreAllWaiting left ss ps → slice_get ps i ≡ Some p → (s : Stretch) × (slice_get ss i ≡ Some s)
begins-with left [] ps i p all h = absurd (none_there (subst (λ (qs : List (Option Offsets)). slice_get qs i ≡ Some p) all h)) where
  none_there : slice_get {X = Option Offsets} [] i ≡ Some p → ⊥
  none_there e = cc
begins-with left (x ∷ ss) [] i p all h = absurd all
begins-with left (x ∷ ss) (q ∷ ps) zero p all h = (x, refl)
begins-with left (x ∷ ss) (q ∷ ps) (suc i) p all h = begins-with left ss ps i p all.1 h

pub waiting-push : (left : List Coming) (ss : List Stretch) (ps : List (Option Offsets)) (s : Stretch) (p : Option Offsets) → AreAllWaiting left ss ps → IsWaiting left s p
    → AreAllWaiting left (ss ++ s ∷ []) (ps ++ p ∷ [])
waiting-push left [] ps s p all one = subst (λ (qs : List (Option Offsets)). AreAllWaiting left (s ∷ []) (qs ++ p ∷ [])) (sym all) (one, refl)
waiting-push left (x ∷ ss) [] s p all one = absurd all
waiting-push left (x ∷ ss) (q ∷ ps) s p all one = (all.0, waiting-push left ss ps s p all.1 one)

in-push : (ss : List Stretch) (s : Stretch) (is_ipv4 : Bool) (address : ℕ) → in_stretches ss is_ipv4 address ⊎ IsInBlock s.part.is_ipv4 s.part.block is_ipv4 address → in_stretches (ss ++ s ∷ []) is_ipv4 address
in-push [] s is_ipv4 address (inl h) = absurd h
in-push [] s is_ipv4 address (inr h) = inl h
in-push (x ∷ ss) s is_ipv4 address (inl (inl h)) = inl h
in-push (x ∷ ss) s is_ipv4 address (inl (inr h)) = inr (in-push ss s is_ipv4 address (inl h))
in-push (x ∷ ss) s is_ipv4 address (inr h) = inr (in-push ss s is_ipv4 address (inr h))

module _ (layout : Layout) (kinds : Kinds) (showing : Showing) (both : Both) where
  -- a stretch waits from now on
  pub untold-push : (changes : Changes) (ss : List Stretch) (s : Stretch) (is_ipv4 : Bool) (address : ℕ) → with_stretch s.part (untold kinds showing both changes ss) is_ipv4 address
      → untold kinds showing both changes (ss ++ s ∷ []) is_ipv4 address
  untold-push changes ss s is_ipv4 address (inl (inl waits)) = inl waits
  untold-push changes ss s is_ipv4 address (inl (inr (inl there))) = inr (inl (in-push ss s is_ipv4 address (inl there)))
  untold-push changes ss s is_ipv4 address (inl (inr (inr out))) = inr (inr out)
  untold-push changes ss s is_ipv4 address (inr within) = inr (inl (in-push ss s is_ipv4 address (inr within)))

  module _ (due : Bool → ℕ → Type 0) (before after : Changes) (ss : List Stretch) (i : ℕ) (s : Stretch) (at : slice_get ss i ≡ Some s) (a b c : Option (List ℕ)) where
    split : (is_ipv4 : Bool) (address : ℕ) → in_stretches (drop i ss) is_ipv4 address → IsInBlock s.part.is_ipv4 s.part.block is_ipv4 address ⊎ in_stretches (drop (i + 1) ss) is_ipv4 address
    split is_ipv4 address h = subst (λ (xs : List Stretch). in_stretches xs is_ipv4 address) (drop-some ss i s at) h

    -- the next one is left out
    pub each-known : ((is_ipv4 : Bool) (address : ℕ) → IsInBlock s.part.is_ipv4 s.part.block is_ipv4 address → IsLeftOut kinds showing both is_ipv4 address)
        → Tells layout showing both due (untold kinds showing both before (drop i ss)) a b → Tells layout showing both due (untold kinds showing both before (drop (i + 1) ss)) a b
    each-known out told =
        tells-weaker layout showing both due _ due _ a b (λ is_ipv4 address h. inl h) (λ is_ipv4 address h. still is_ipv4 address h) told where
          one : (is_ipv4 : Bool) (address : ℕ) → IsInBlock s.part.is_ipv4 s.part.block is_ipv4 address ⊎ in_stretches (drop (i + 1) ss) is_ipv4 address
              → untold kinds showing both before (drop (i + 1) ss) is_ipv4 address
          one is_ipv4 address (inl within) = inr (inr (out is_ipv4 address within))
          one is_ipv4 address (inr there) = inr (inl there)

          still : (is_ipv4 : Bool) (address : ℕ) → untold kinds showing both before (drop i ss) is_ipv4 address → untold kinds showing both before (drop (i + 1) ss) is_ipv4 address
          still is_ipv4 address (inl waits) = inl waits
          still is_ipv4 address (inr (inl there)) = one is_ipv4 address (split is_ipv4 address there)
          still is_ipv4 address (inr (inr h)) = inr (inr h)

    -- it is compared
    pub each-compared : Tells layout showing both due (untold kinds showing both before (drop i ss)) a b
        → Tells layout showing both (with_stretch s.part (waiting_in before)) (untold kinds showing both after []) b c
        → Tells layout showing both due (untold kinds showing both after (drop (i + 1) ss)) a c
    each-compared told next =
        tells-then layout showing both due due (untold kinds showing both before (drop i ss)) (with_stretch s.part (waiting_in before)) (untold kinds showing both after (drop (i + 1) ss)) a b c
        (λ is_ipv4 address h. inl h) (λ is_ipv4 address h. goes is_ipv4 address h) told
        (tells-weaker layout showing both _ (untold kinds showing both after []) _ (untold kinds showing both after (drop (i + 1) ss)) b c (λ is_ipv4 address h. inl h) (λ is_ipv4 address h. more is_ipv4 address h) next) where
          one : (is_ipv4 : Bool) (address : ℕ) → IsInBlock s.part.is_ipv4 s.part.block is_ipv4 address ⊎ in_stretches (drop (i + 1) ss) is_ipv4 address
              → with_stretch s.part (waiting_in before) is_ipv4 address ⊎ untold kinds showing both after (drop (i + 1) ss) is_ipv4 address
          one is_ipv4 address (inl within) = inl (inr within)
          one is_ipv4 address (inr there) = inr (inr (inl there))

          goes : (is_ipv4 : Bool) (address : ℕ) → untold kinds showing both before (drop i ss) is_ipv4 address
              → with_stretch s.part (waiting_in before) is_ipv4 address ⊎ untold kinds showing both after (drop (i + 1) ss) is_ipv4 address
          goes is_ipv4 address (inl waits) = inl (inl waits)
          goes is_ipv4 address (inr (inl there)) = one is_ipv4 address (split is_ipv4 address there)
          goes is_ipv4 address (inr (inr out)) = inr (inr (inr out))

          more : (is_ipv4 : Bool) (address : ℕ) → untold kinds showing both after [] is_ipv4 address → untold kinds showing both after (drop (i + 1) ss) is_ipv4 address
          more is_ipv4 address (inl waits) = inl waits
          more is_ipv4 address (inr (inl there)) = absurd there
          more is_ipv4 address (inr (inr out)) = inr (inr out)

-- ---- all addresses

module _ (layout : Layout) (showing : Showing) (both : Both) where
  pub all-begin : (due : ℕ → Type 0) (waiting : Bool → ℕ → Type 0) (a : Option (List ℕ)) → ((address : ℕ) → due address → ⊥) → TellsAll layout showing both due waiting a a
  all-begin due waiting a none = ([], [], refl, Appends-nil a, λ address h. absurd (none address h))

  -- more is told after it
  pub all-then : (due later : ℕ → Type 0) (waited second waiting : Bool → ℕ → Type 0) (a b c : Option (List ℕ))
      → ((address : ℕ) → later address → due address ⊎ ((is_ipv4 : Bool) × second is_ipv4 address))
      → ((is_ipv4 : Bool) (address : ℕ) → waited is_ipv4 address → second is_ipv4 address ⊎ waiting is_ipv4 address)
      → TellsAll layout showing both due waited a b → Tells layout showing both second waiting b c → TellsAll layout showing both later waiting a c
  all-then due later waited second waiting a b c is_due goes_on (lines, text, all, before, told) (others, more, rest, after, then) = (
    lines ++ others,
    text ++ more,
    lines-more layout showing both lines others text more all rest,
    Appends-trans a b c text more before after,
    λ address h. either address (is_due address h),
  ) where
    next : (is_ipv4 : Bool) (address : ℕ) → IsInLines others is_ipv4 address ⊎ waiting is_ipv4 address → IsInLines (lines ++ others) is_ipv4 address ⊎ waiting is_ipv4 address
    next is_ipv4 address (inl h) = inl (in-lines-behind lines others is_ipv4 address h)
    next is_ipv4 address (inr h) = inr h

    still : (is_ipv4 : Bool) (address : ℕ) → second is_ipv4 address ⊎ waiting is_ipv4 address → IsInLines (lines ++ others) is_ipv4 address ⊎ waiting is_ipv4 address
    still is_ipv4 address (inl h) = next is_ipv4 address (then is_ipv4 address h)
    still is_ipv4 address (inr h) = inr h

    sooner : (is_ipv4 : Bool) (address : ℕ) → IsInLines lines is_ipv4 address ⊎ waited is_ipv4 address → IsInLines (lines ++ others) is_ipv4 address ⊎ waiting is_ipv4 address
    sooner is_ipv4 address (inl h) = inl (in-lines-front lines others is_ipv4 address h)
    sooner is_ipv4 address (inr h) = still is_ipv4 address (goes_on is_ipv4 address h)

    either : (address : ℕ) → due address ⊎ ((is_ipv4 : Bool) × second is_ipv4 address) → (is_ipv4 : Bool) × (IsInLines (lines ++ others) is_ipv4 address ⊎ waiting is_ipv4 address)
    either address (inl h) = let (is_ipv4, there) = told address h in (is_ipv4, sooner is_ipv4 address there)
    either address (inr (is_ipv4, h)) = (is_ipv4, next is_ipv4 address (then is_ipv4 address h))

-- ---- along the walk

end-behind : (block : Block) → block.first ≤ end block
end-behind block = omega arith

-- what was told so far, where a walk of all that comes is
pub record IsAlong (left : List Coming) (first now : SoFar) (t : Abreast) (a b : Option (List ℕ)) : Type 0 where
  pub so_far : AreSoFar left now
  pub few : length now.waiting.stretches.items < 64
  pub steady : (address : ℕ) → t.at ≤ address → all_at t.left address ≡ all_at left address
  pub told : TellsAll first.pairs.layout.now first.pairs.shown (both_of left) (λ address. (address < t.at) × (are_shown (all_at left address) ≡ true)) (untold_by left now) a b

pub along-begins : (left : List Coming) (first : SoFar) (t : Abreast) (a : Option (List ℕ)) → t.left ≡ left → t.at ≡ 0 → AreSoFar left first → length first.waiting.stretches.items < 64
    → IsAlong left first first t a a
along-begins left first t a same at so few = record {
  so_far = so;
  few = few;
  steady = λ address le. ap (λ (l : List Coming). all_at l address) same;
  told = all-begin first.pairs.layout.now first.pairs.shown (both_of left) _ (untold_by left first) a (λ address due. let below = due.0 in omega (arith, below, at));
}

-- what is told next, by what was shown first
next-told : (left : List Coming) (first now next : SoFar) (due : Bool → ℕ → Type 0) (b c : Option (List ℕ)) → ShowTheSame first now
    → GoesOn left due now next b c → Tells first.pairs.layout.now first.pairs.shown (both_of left) due (untold_by left next) b c
next-told left first now next due b c same on =
    tells-as first.pairs.layout.now now.pairs.layout.now first.pairs.shown now.pairs.shown (both_of left) due (untold_by left next) b c (ap (λ l. l.now) same.layout) same.shown on.told

module _ (left : List Coming) (first now next : SoFar) (before after : Abreast) (a b c : Option (List ℕ)) (along : IsAlong left first now before a b) (same : ShowTheSame first now) where
  hidden : (to address : ℕ) → ArePassedTo to before → before.at ≤ address → address < to → are_shown (all_at left address) ≡ true → ⊥
  hidden to address passed le lt shown =
      passed-hidden before to address passed le lt (subst (λ (answers : List Answer). are_shown answers ≡ true) (sym (along.steady address le)) shown)

  -- the stretch has these answers in what is left at first
  pub taken-there : (part : TogetherStretch) → IsNextBlock before after part.block → IsTaken left part after.answers
  taken-there part step address within =
      let le : before.at ≤ address = omega (arith, step.behind, within.0) in
      sym (along.steady address le) ∙ has-within before after part.block address step within

  pub along-stretch : (part : TogetherStretch) → IsNextBlock before after part.block → GoesOn left (with_stretch part (untold_by left now)) now next b c
      → length next.waiting.stretches.items < 64 → IsAlong left first next after a c
  along-stretch part step on few = record {
    so_far = on.so_far;
    few = few;
    steady = λ address le. let at = step.at in let behind = step.behind in
        goes-on before after part.block address step le ∙ along.steady address (omega (arith, le, at, behind, end-behind part.block));
    told = all-then first.pairs.layout.now first.pairs.shown (both_of left) _ _ (untold_by left now) (with_stretch part (untold_by left now)) (untold_by left next) a b c
        (λ address due. is_due address due) (λ is_ipv4 address h. inl (inl h)) along.told (next-told left first now next _ b c same on);
  } where
    within_or : (address : ℕ) → address < after.at → are_shown (all_at left address) ≡ true → before.at ≤ address → part.block.first ≤ address
        → ((address < before.at) × (are_shown (all_at left address) ≡ true)) ⊎ ((is_ipv4 : Bool) × with_stretch part (untold_by left now) is_ipv4 address)
    within_or address lt shown ge inn = let at = step.at in inr (part.is_ipv4, inr (refl, (inn, omega (arith, lt, at))))

    behind_or : (address : ℕ) → address < after.at → are_shown (all_at left address) ≡ true → before.at ≤ address → (address < part.block.first) ⊎ (part.block.first ≤ address)
        → ((address < before.at) × (are_shown (all_at left address) ≡ true)) ⊎ ((is_ipv4 : Bool) × with_stretch part (untold_by left now) is_ipv4 address)
    behind_or address lt shown ge (inl below) = absurd (hidden part.block.first address step.skipped ge below shown)
    behind_or address lt shown ge (inr inn) = within_or address lt shown ge inn

    either : (address : ℕ) → address < after.at → are_shown (all_at left address) ≡ true → (address < before.at) ⊎ (before.at ≤ address)
        → ((address < before.at) × (are_shown (all_at left address) ≡ true)) ⊎ ((is_ipv4 : Bool) × with_stretch part (untold_by left now) is_ipv4 address)
    either address lt shown (inl below) = inl (below, shown)
    either address lt shown (inr ge) = behind_or address lt shown ge (cases_lt address part.block.first)

    is_due : (address : ℕ) → (address < after.at) × (are_shown (all_at left address) ≡ true)
        → ((address < before.at) × (are_shown (all_at left address) ≡ true)) ⊎ ((is_ipv4 : Bool) × with_stretch part (untold_by left now) is_ipv4 address)
    is_due address (lt, shown) = either address lt shown (cases_lt address before.at)

  -- up to an address all is passed
  passed_to : (to : ℕ) → ArePassedTo to before → (address : ℕ) → (address < to) × (are_shown (all_at left address) ≡ true)
      → ((address < before.at) × (are_shown (all_at left address) ≡ true)) ⊎ ((is_ipv4 : Bool) × untold_by left now is_ipv4 address)
  passed_to to passed address (lt, shown) = either (cases_lt address before.at) where
    either : (address < before.at) ⊎ (before.at ≤ address) → ((address < before.at) × (are_shown (all_at left address) ≡ true)) ⊎ ((is_ipv4 : Bool) × untold_by left now is_ipv4 address)
    either (inl below) = inl (below, shown)
    either (inr ge) = absurd (hidden to address passed ge lt shown)

  pub along-unread : (place : ℕ) → IsNextUnreadOf before after place → GoesOn left (untold_by left now) now next b c → length next.waiting.stretches.items < 64 → IsAlong left first next after a c
  along-unread place step on few = record {
    so_far = on.so_far;
    few = few;
    steady = λ address le. let behind = step.behind in goes-on-unread before after place address step le ∙ along.steady address (omega (arith, le, behind));
    told = all-then first.pairs.layout.now first.pairs.shown (both_of left) _ _ (untold_by left now) (untold_by left now) (untold_by left next) a b c
        (λ address due. passed_to after.at step.skipped address due) (λ is_ipv4 address h. inl h) along.told (next-told left first now next _ b c same on);
  }

  pub along-ends : AreOver before after → GoesOn left (untold_by left now) now next b c → TellsAll first.pairs.layout.now first.pairs.shown (both_of left) (IsShownAt left) (untold_by left next) a c
  along-ends over on =
      all-then first.pairs.layout.now first.pairs.shown (both_of left) _ (IsShownAt left) (untold_by left now) (untold_by left now) (untold_by left next) a b c
      (λ address due. passed_to (2 ^ 128) over.skipped address due) (λ is_ipv4 address h. inl h) along.told (next-told left first now next _ b c same on)

-- what waits at the end is written
pub all-finished : (left : List Coming) (first next : SoFar) (a b c : Option (List ℕ)) → ShowTheSame first next → next.waiting.stretches.items ≡ []
    → TellsAll first.pairs.layout.now first.pairs.shown (both_of left) (IsShownAt left) (untold_by left next) a b
    → Tells next.pairs.layout.now next.pairs.shown (both_of left) (waiting_in next.changes) none b c
    → TellsAll first.pairs.layout.now first.pairs.shown (both_of left) (IsShownAt left) (IsLeftOut first.kinds first.pairs.shown (both_of left)) a c
all-finished left first next a b c same nothing told last =
    let form = first.pairs.layout.now in
    let showing = first.pairs.shown in
    let then = tells-as form next.pairs.layout.now showing next.pairs.shown (both_of left) (waiting_in next.changes) none b c (ap (λ l. l.now) same.layout) same.shown last in
    all-then form showing (both_of left) (IsShownAt left) (IsShownAt left) (untold_by left next) (waiting_in next.changes) (IsLeftOut first.kinds showing (both_of left)) a b c
    (λ address due. inl due) (λ is_ipv4 address h. out is_ipv4 address h) told
    (tells-weaker form showing (both_of left) (waiting_in next.changes) none (waiting_in next.changes) (IsLeftOut first.kinds showing (both_of left)) b c (λ is_ipv4 address h. inl h) (λ is_ipv4 address h. absurd h) then) where
      as_first : (is_ipv4 : Bool) (address : ℕ) → IsLeftOut next.kinds next.pairs.shown (both_of left) is_ipv4 address → IsLeftOut first.kinds first.pairs.shown (both_of left) is_ipv4 address
      as_first is_ipv4 address h =
          subst (λ (k : Kinds). IsLeftOut k first.pairs.shown (both_of left) is_ipv4 address) same.kinds
          (subst (λ (z : Showing). IsLeftOut next.kinds z (both_of left) is_ipv4 address) same.shown h)

      out : (is_ipv4 : Bool) (address : ℕ) → untold_by left next is_ipv4 address → waiting_in next.changes is_ipv4 address ⊎ IsLeftOut first.kinds first.pairs.shown (both_of left) is_ipv4 address
      out is_ipv4 address (inl waits) = inl waits
      out is_ipv4 address (inr (inl there)) = absurd (subst (λ (ss : List Stretch). in_stretches ss is_ipv4 address) nothing there)
      out is_ipv4 address (inr (inr h)) = inr (as_first is_ipv4 address h)

-- ---- steps of a comparison

pub same-refl : (s : SoFar) → ShowTheSame s s
same-refl s = record { shown = refl; layout = refl; kinds = refl }

pub same-trans : (s t u : SoFar) → ShowTheSame s t → ShowTheSame t u → ShowTheSame s u
same-trans s t u p q = record { shown = q.shown ∙ p.shown; layout = q.layout ∙ p.layout; kinds = q.kinds ∙ p.kinds }

-- a step after another one
pub goes-then : (left : List Coming) (due : Bool → ℕ → Type 0) (s t u : SoFar) (a b c : Option (List ℕ)) → ShowTheSame s t → GoesOn left due s t a b → GoesOn left (untold_by left t) t u b c → GoesOn left due s u a c
goes-then left due s t u a b c same first next = record {
  told = tells-then s.pairs.layout.now s.pairs.shown (both_of left) due due (untold_by left t) (untold_by left t) (untold_by left u) a b c (λ is_ipv4 address h. inl h) (λ is_ipv4 address h. inl h)
      first.told (next-told left s t u (untold_by left t) b c same next);
  so_far = next.so_far;
}

-- what waits is compared, and then nothing waits
pub goes-cleared : (left : List Coming) (s t u : SoFar) (a b : Option (List ℕ)) → ShowTheSame s t → ShowTheSame t u → u.changes ≡ t.changes → u.pairs.kept ≡ t.pairs.kept
    → u.waiting.stretches.items ≡ [] → u.waiting.offsets.items ≡ []
    → Tells s.pairs.layout.now s.pairs.shown (both_of left) (untold_by left s) (untold s.kinds s.pairs.shown (both_of left) t.changes []) a b → IsReady (both_of left) t
    → GoesOn left (untold_by left s) s u a b
goes-cleared left s t u a b same later changes kept no_stretches no_pairs told ready =
    let all = same-trans s t u same later in
    record {
      told =
          subst (λ (k : Kinds). Tells s.pairs.layout.now s.pairs.shown (both_of left) (untold_by left s) (untold k u.pairs.shown (both_of left) u.changes u.waiting.stretches.items) a b) (sym all.kinds)
          (subst (λ (z : Showing). Tells s.pairs.layout.now s.pairs.shown (both_of left) (untold_by left s) (untold s.kinds z (both_of left) u.changes u.waiting.stretches.items) a b) (sym all.shown)
          (subst (λ (k : Changes). Tells s.pairs.layout.now s.pairs.shown (both_of left) (untold_by left s) (untold s.kinds s.pairs.shown (both_of left) k u.waiting.stretches.items) a b) (sym changes)
          (subst (λ (xs : List Stretch). Tells s.pairs.layout.now s.pairs.shown (both_of left) (untold_by left s) (untold s.kinds s.pairs.shown (both_of left) t.changes xs) a b) (sym no_stretches) told)));
      so_far = record {
        ready = ready-as (both_of left) t u later.shown kept changes ready;
        waiting = subst (λ (xs : List Stretch). AreAllWaiting left xs u.waiting.offsets.items) (sym no_stretches) no_pairs;
        few = let none_waits = ap length no_stretches in omega (arith, none_waits);
      };
    }

-- a stretch waits from now on
pub goes-added : (left : List Coming) (s t : SoFar) (stretch : Stretch) (pair : Option Offsets) (a : Option (List ℕ)) → t.pairs ≡ s.pairs → t.kinds ≡ s.kinds → t.changes ≡ s.changes
    → t.waiting.stretches.items ≡ s.waiting.stretches.items ++ stretch ∷ [] → t.waiting.offsets.items ≡ s.waiting.offsets.items ++ pair ∷ []
    → AreSoFar left s → length s.waiting.stretches.items < 64 → IsWaiting left stretch pair → GoesOn left (with_stretch stretch.part (untold_by left s)) s t a a
goes-added left s t stretch pair a same kinds changes stretches pairs so few one = record {
  told = tells-same s.pairs.layout.now s.pairs.shown (both_of left) (with_stretch stretch.part (untold_by left s)) (untold_by left t) a (λ is_ipv4 address h. still is_ipv4 address h);
  so_far = record {
    ready = ready-as (both_of left) s t (ap (λ p. p.shown) same) (ap (λ p. p.kept) same) changes so.ready;
    waiting = subst (λ (xs : List Stretch). AreAllWaiting left xs t.waiting.offsets.items) (sym stretches)
        (subst (λ (ps : List (Option Offsets)). AreAllWaiting left (s.waiting.stretches.items ++ stretch ∷ []) ps) (sym pairs) (waiting-push left _ _ stretch pair so.waiting one));
    few = let many = ap length stretches in let grown = length-append s.waiting.stretches.items (stretch ∷ []) in omega (arith, many, grown, few);
  };
} where
  still : (is_ipv4 : Bool) (address : ℕ) → with_stretch stretch.part (untold_by left s) is_ipv4 address → untold_by left t is_ipv4 address
  still is_ipv4 address h =
      subst (λ (k : Kinds). untold k t.pairs.shown (both_of left) t.changes t.waiting.stretches.items is_ipv4 address) (sym kinds)
      (subst (λ (z : Showing). untold s.kinds z (both_of left) t.changes t.waiting.stretches.items is_ipv4 address) (sym (ap (λ p. p.shown) same))
      (subst (λ (k : Changes). untold s.kinds s.pairs.shown (both_of left) k t.waiting.stretches.items is_ipv4 address) (sym changes)
      (subst (λ (xs : List Stretch). untold s.kinds s.pairs.shown (both_of left) s.changes xs is_ipv4 address) (sym stretches)
      (untold-push s.pairs.layout.now s.kinds s.pairs.shown (both_of left) s.changes s.waiting.stretches.items stretch is_ipv4 address h))))

-- a stretch is left out
pub goes-out : (left : List Coming) (s : SoFar) (part : TogetherStretch) (a : Option (List ℕ)) → AreSoFar left s
    → ((is_ipv4 : Bool) (address : ℕ) → IsInBlock part.is_ipv4 part.block is_ipv4 address → IsLeftOut s.kinds s.pairs.shown (both_of left) is_ipv4 address) → GoesOn left (with_stretch part (untold_by left s)) s s a a
goes-out left s part a so out = record {
  told = tells-same s.pairs.layout.now s.pairs.shown (both_of left) (with_stretch part (untold_by left s)) (untold_by left s) a (λ is_ipv4 address h. still is_ipv4 address h);
  so_far = so;
} where
  still : (is_ipv4 : Bool) (address : ℕ) → with_stretch part (untold_by left s) is_ipv4 address → untold_by left s is_ipv4 address
  still is_ipv4 address (inl h) = h
  still is_ipv4 address (inr within) = inr (inr (out is_ipv4 address within))

-- a report comes after what was compared
pub goes-reported : (left : List Coming) (s t u : SoFar) (a b c : Option (List ℕ)) → ShowTheSame s t → ShowTheSame t u → u.waiting ≡ t.waiting → IsReady (both_of left) u
    → GoesOn left (untold_by left s) s t a b → Tells t.pairs.layout.now t.pairs.shown (both_of left) (waiting_in t.changes) (waiting_in u.changes) b c → GoesOn left (untold_by left s) s u a c
goes-reported left s t u a b c same later waiting ready first told = record {
  told = tells-then s.pairs.layout.now s.pairs.shown (both_of left) (untold_by left s) (untold_by left s) (untold_by left t) (waiting_in t.changes) (untold_by left u) a b c
      (λ is_ipv4 address h. inl h) (λ is_ipv4 address h. goes is_ipv4 address h) first.told
      (tells-weaker s.pairs.layout.now s.pairs.shown (both_of left) (waiting_in t.changes) (waiting_in u.changes) (waiting_in t.changes) (untold_by left u) b c (λ is_ipv4 address h. inl h) (λ is_ipv4 address h. inl h)
      (tells-as s.pairs.layout.now t.pairs.layout.now s.pairs.shown t.pairs.shown (both_of left) _ _ b c (ap (λ l. l.now) same.layout) same.shown told));
  so_far = record {
    ready = ready;
    waiting = subst (λ w. AreAllWaiting left w.stretches.items w.offsets.items) (sym waiting) first.so_far.waiting;
    few = let same_many = ap (λ w. length w.stretches.items) waiting in let few = first.so_far.few in omega (arith, same_many, few);
  };
} where
  as_later : (is_ipv4 : Bool) (address : ℕ) → IsLeftOut t.kinds t.pairs.shown (both_of left) is_ipv4 address → IsLeftOut u.kinds u.pairs.shown (both_of left) is_ipv4 address
  as_later is_ipv4 address h =
      subst (λ (k : Kinds). IsLeftOut k u.pairs.shown (both_of left) is_ipv4 address) (sym later.kinds)
      (subst (λ (z : Showing). IsLeftOut t.kinds z (both_of left) is_ipv4 address) (sym later.shown) h)

  goes : (is_ipv4 : Bool) (address : ℕ) → untold_by left t is_ipv4 address → waiting_in t.changes is_ipv4 address ⊎ untold_by left u is_ipv4 address
  goes is_ipv4 address (inl waits) = inl waits
  goes is_ipv4 address (inr (inl there)) = inr (inr (inl (subst (λ w. in_stretches w.stretches.items is_ipv4 address) (sym waiting) there)))
  goes is_ipv4 address (inr (inr h)) = inr (inr (inr (as_later is_ipv4 address h)))

-- none is left to compare
pub each-end : (layout : Layout) (kinds : Kinds) (showing : Showing) (both : Both) (due : Bool → ℕ → Type 0) (changes : Changes) (ss : List Stretch) (a b : Option (List ℕ)) → ss ≡ []
    → Tells layout showing both due (untold kinds showing both changes ss) a b → Tells layout showing both due (untold kinds showing both changes []) a b
each-end layout kinds showing both due changes ss a b nothing told = subst (λ (xs : List Stretch). Tells layout showing both due (untold kinds showing both changes xs) a b) nothing told

pub some-there : (xs ys : List (Option Offsets)) (i : ℕ) (d : Option Offsets) (P : Option Offsets → Type 0) → xs ≡ ys → i < length xs → P (get_or xs i d) → IsSomeAnd (slice_get ys i) P
some-there xs ys i d P same lt h = subst (λ zs. IsSomeAnd (slice_get zs i) P) same (there xs i lt h) where
  there : (zs : List (Option Offsets)) (j : ℕ) → j < length zs → P (get_or zs j d) → IsSomeAnd (slice_get zs j) P
  there [] j lt h = absurd (omega (arith, lt))
  there (z ∷ zs) zero lt h = h
  there (z ∷ zs) (suc j) lt h = there zs j (omega (arith, lt)) h

pub nothing-marked : (n i : ℕ) → get_or (replicate n false) i false ≡ false
nothing-marked zero i = refl
nothing-marked (suc n) zero = refl
nothing-marked (suc n) (suc i) = nothing-marked n i

-- ---- pairs

if-some : {A : Type 0} (o : Option A) (P : A → Type 0) → IfSome o P → ForSome o P
if-some None P h x is = absurd (cc)
if-some (Some y) P h x is = subst P (one_some y x is) h

-- records whose pair is kept as the last that are the same
pub last-alike : (showing : Showing) (kept : KnownPairs) (pair : Option Offsets) (old new : Option ℕ) → AreKeptAlike showing kept → IsIn kept.last pair → IfSome pair (AreKeptAs old new) → AreAlike showing old new
last-alike showing kept None old new all there h = absurd there
last-alike showing kept (Some pair) old new all there h = all.last pair there old new h

-- records whose pair is so
pub pair-alike : (showing : Showing) (pair : Option Offsets) (old new : Option ℕ) → IsSomeAnd pair (IsOfAlike showing) → ForSome pair (AreKeptAs old new) → AreAlike showing old new
pair-alike showing None old new one h = absurd one
pair-alike showing (Some pair) old new one h = one old new (h pair refl)

pub waits-with : (left : List Coming) (stretch : Stretch) (pair : Option Offsets) (answers : List Answer) (old new : Option ℕ) → IsTaken left stretch.part answers → old ≡ offset_among answers 0 → new ≡ offset_among answers 1
    → stretch.presence.in_old ≡ is_some old → stretch.presence.in_new ≡ is_some new → IfSome pair (AreKeptAs old new) → IsWaiting left stretch pair
waits-with left stretch pair answers old new taken is_old is_new in_old in_new h = record {
  answers = answers;
  is_taken = taken;
  in_old = in_old ∙ ap (λ o. is_some o) is_old;
  in_new = in_new ∙ ap (λ o. is_some o) is_new;
  is_pair = subst (λ (o : Option ℕ). ForSome pair (AreKeptAs o (offset_among answers 1))) is_old (subst (λ (n : Option ℕ). ForSome pair (AreKeptAs old n)) is_new (if-some pair (AreKeptAs old new) h));
}

-- a marked pair is of records that are alike
pub marked-alike : (left : List Coming) (showing : Showing) (kept : KnownPairs) (ss : List Stretch) (ps : List (Option Offsets)) (i : ℕ) → AreAllWaiting left ss ps → AreKeptAlike showing kept
    → IsSomeAnd (slice_get ps i) (IsIn kept.same) → (s : Stretch) × (slice_get ss i ≡ Some s) × ((answers : List Answer) × IsTaken left s.part answers × AreAlike showing (offset_among answers 0) (offset_among answers 1))
marked-alike left showing kept [] ps i all alike marked = absurd (nothing ps i all marked) where
  nothing : (qs : List (Option Offsets)) (j : ℕ) → qs ≡ [] → IsSomeAnd (slice_get qs j) (IsIn kept.same) → ⊥
  nothing [] j same h = h
  nothing (q ∷ qs) j same h = absurd (cc)
marked-alike left showing kept (s ∷ ss) [] i all alike marked = absurd all
marked-alike left showing kept (s ∷ ss) (None ∷ ps) zero all alike marked = absurd marked
marked-alike left showing kept (s ∷ ss) (Some pair ∷ ps) zero all alike marked =
    (s, refl, (all.0.answers, all.0.is_taken, alike.same pair marked _ _ (all.0.is_pair pair refl)))
marked-alike left showing kept (s ∷ ss) (p ∷ ps) (suc i) all alike marked = marked-alike left showing kept ss ps i all.1 alike marked

-- and is kept as the last
pub marked-last : (showing : Showing) (kept : KnownPairs) (ps : List (Option Offsets)) (i : ℕ) → AreKeptAlike showing kept → IsSomeAnd (slice_get ps i) (IsIn kept.same)
    → IfSome (slice_get ps i) (λ pair. ForSome pair (IsOfAlike showing))
marked-last showing kept ps i alike marked = each (slice_get ps i) marked where
  each : (o : Option (Option Offsets)) → IsSomeAnd o (IsIn kept.same) → IfSome o (λ pair. ForSome pair (IsOfAlike showing))
  each None h = absurd h
  each (Some None) h = absurd h
  each (Some (Some pair)) h = λ other is. subst (IsOfAlike showing) (one_some pair other is) (alike.same pair h)

-- the same databases are compared
pub compared-as : (sections others : Sections) (dbs after : List Database) (left : List Coming) → others ≡ sections → after ≡ dbs → AreCompared sections dbs left → AreCompared others after left
compared-as sections others dbs after left is same h =
    subst (λ (s : Sections). AreCompared s after left) (sym is) (subst (λ (d : List Database). AreCompared sections d left) (sym same) h)

module _ (left : List Coming) (first now next : SoFar) (before after : Abreast) (a b c : Option (List ℕ)) (along : IsAlong left first now before a b) (same : ShowTheSame first now) where
  pub taken-part : (part : TogetherPart) → IsNextOfAll before after part → IsTakenPart left part after.answers
  taken-part (StretchPart part) step = taken-there left first now next before after a b c along same part step
  taken-part (UnreadPart place) step = tt

  pub along-part : (part : TogetherPart) → IsNextOfAll before after part → GoesOn left (with_part part (untold_by left now)) now next b c → length next.waiting.stretches.items < 64
      → IsAlong left first next after a c
  along-part (StretchPart part) step on few = along-stretch left first now next before after a b c along same part step on few
  along-part (UnreadPart place) step on few = along-unread left first now next before after a b c along same place step on few

pub compared-in : (sections others : Sections) (dbs : List Database) (left : List Coming) → others.in_old ≡ sections.in_old → others.in_new ≡ sections.in_new → AreCompared sections dbs left
    → AreCompared others dbs left
compared-in sections others dbs left old new h = record {
  old = h.old;
  new = h.new;
  range = h.range;
  databases_are = h.databases_are;
  left_is = h.left_is;
  can_ask_old = h.can_ask_old;
  can_ask_new = h.can_ask_new;
  in_old = old ∙ h.in_old;
  in_new = new ∙ h.in_new;
}
