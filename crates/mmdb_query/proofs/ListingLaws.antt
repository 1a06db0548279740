-- Lists that are written while networks come.
use Rattle.std.proofs.Common.{◌≡◌, inl, inr, ℕ, Bool, true, false, List, [], ◌∷◌, ◌++◌, Option, Some, None, Result, Ok, Err, IfOk, IfErr, OnOk, if◌then◌else◌, refl, sym, ap, ◌∙◌, subst, append-nil}
use Rattle.std.specs.Io.KnownBytes.{Appends}
use Rattle.std.proofs.KnownBytes.{Appends-nil, Appends-trans}
use Rattle.mmdb_blocks.specs.Lists.{Page, Listing, TakesBlock, Pushes, IsPushed, Prints, PushFails, BreaksOff, changed_text, settled_left, settled_page, settled_text, with_settled}
use Rattle.mmdb_blocks.specs.declared.block.Block.{Block}
use Rattle.mmdb_blocks.specs.declared.kind.BlockKind.{BlockKind}
use Rattle.mmdb_blocks.specs.declared.kind.BlockKind.TheVariants.{Ipv4, Ipv6}
use Rattle.mmdb_blocks.specs.declared.list.BlocksError.{BlocksError}
use Rattle.mmdb_blocks.specs.declared.list.BlocksError.TheVariants as lists
use Rattle.mmdb_query.specs.Ends.{Leaves}
use Rattle.mmdb_query.specs.Listings.{ipv4_part, kind_as, has_ipv4_part, blocks_of, HasBits, of_list, Puts, PutsAll, PutsBits, Begins, LeavesOne, LeavesAll, LeavesBits}
use Rattle.mmdb_query.specs.Taking.{IsDoneOrNot}
use Rattle.mmdb_query.specs.declared.error.QueryError.{QueryError}
use Rattle.mmdb_query.specs.declared.error.QueryError.TheVariants as ends

-- ---- one block

pub was_pushed : (kind : BlockKind) (block : Block) (old new : Listing) (before after : Option (List ℕ)) → Prints (λ text. IsPushed kind block old text new) before after
    → Prints (λ text. Puts (kind, block) old text new) before after
was_pushed kind block old new before after (text, inl (wanted, pushes), written) = (text, inl (inl wanted, pushes), written)
was_pushed kind block old new before after (text, inr none, written) = (text, inr none, written)

-- and was not
pub push_broken : (kind : BlockKind) (block : Block) (old : Listing) (before after : Option (List ℕ)) (e : BlocksError) → PushFails kind block old before after e
    → Leaves (LeavesOne (kind, block) old) before after (of_list e)
push_broken kind block old before after (lists.Write x) fails = tt
push_broken kind block old before after lists.OutOfOrder (refused, written) = (changed_text old.page old.kind kind old.waiting, (refused, refl), written)
push_broken kind block old before after lists.Memory (inl (part, rest, is, written)) = (part, inl (rest, is), written)
push_broken kind block old before after lists.Memory (inr (text, new, pushes, (part, rest, is, written))) = (part, inr (text, new, pushes, (rest, is)), written)

-- the settled blocks were not all written
pub settled_fails : (text : List ℕ) (before after : Option (List ℕ)) (e : BlocksError) → BreaksOff text before after e → Leaves (λ part e. (e ≡ ends.Memory) × Begins part text) before after (of_list e)
settled_fails text before after (lists.Write x) fails = tt
settled_fails text before after lists.OutOfOrder fails = absurd fails
settled_fails text before after lists.Memory (part, rest, is, written) = (part, (refl, (rest, is)), written)

-- what is taken is pushed once its settled blocks are printed
abbrev pub LawOfTaken : Type 0
LawOfTaken = (kind : BlockKind) (block : Block) (old mid : Listing) → TakesBlock kind block old mid → Pushes kind block old (settled_text mid) (with_settled mid)

none_left : (page : Page) (kind : Option BlockKind) → settled_left page kind [] ≡ []
none_left page None = refl
none_left page (Some kind) = refl

none_printed : (page : Page) (kind : Option BlockKind) → settled_page page kind [] ≡ page
none_printed page None = refl
none_printed page (Some kind) = refl

taken_puts : LawOfTaken → (kind : BlockKind) (block : Block) (old mid : Listing) → TakesBlock kind block old mid → Puts (kind, block) old (settled_text mid) (with_settled mid)
taken_puts law kind block old mid takes = inl (inr takes.at_hand, law kind block old mid takes)

pub whole_taken : LawOfTaken → (kind : BlockKind) (block : Block) (old new : Listing) (before : Option (List ℕ)) → TakesBlock kind block old new × (new.settled ≡ [])
    → IsDoneOrNot (Puts (kind, block)) true old new before before
whole_taken law kind block old new before (takes, none) =
    let text : settled_text new ≡ [] = ap (λ (bs : List Block). settled_left new.page new.kind bs) none ∙ none_left new.page new.kind in
    let same : with_settled new ≡ new = ap (λ (p : Page). record new { page = p }) (ap (λ (bs : List Block). settled_page new.page new.kind bs) none ∙ none_printed new.page new.kind) in
    let puts = taken_puts law kind block old new takes in
    ([], subst (λ l. Puts (kind, block) old [] l) same (subst (λ t. Puts (kind, block) old t (with_settled new)) text puts), Appends-nil before)

pub settled_taken : LawOfTaken → (kind : BlockKind) (block : Block) (old mid new : Listing) (r : Result Bool QueryError) (before after : Option (List ℕ)) → TakesBlock kind block old mid
    → IfOk r (λ done. (done ≡ true) × Appends before after (settled_text mid) × (new ≡ with_settled mid))
    → IfOk r (λ done. IsDoneOrNot (Puts (kind, block)) done old new before after)
settled_taken law kind block old mid new (Ok true) before after takes (is, written, same) =
    (settled_text mid, subst (λ l. Puts (kind, block) old (settled_text mid) l) (sym same) (taken_puts law kind block old mid takes), written)
settled_taken law kind block old mid new (Ok false) before after takes (is, written, same) = cc
settled_taken law kind block old mid new (Err e) before after takes h = tt

pub settled_broken : LawOfTaken → (kind : BlockKind) (block : Block) (old mid : Listing) (r : Result Bool QueryError) (before after : Option (List ℕ)) → TakesBlock kind block old mid
    → IfErr r (Leaves (λ part e. (e ≡ ends.Memory) × Begins part (settled_text mid)) before after) → IfErr r (Leaves (LeavesOne (kind, block) old) before after)
settled_broken law kind block old mid (Ok x) before after takes left = tt
settled_broken law kind block old mid (Err ends.Memory) before after takes (part, (is, begins), written) = (part, inr (settled_text mid, with_settled mid, law kind block old mid takes, begins), written)
settled_broken law kind block old mid (Err (ends.Write x)) before after takes left = tt
settled_broken law kind block old mid (Err ends.TooMany) before after takes left = left
settled_broken law kind block old mid (Err ends.OutOfOrder) before after takes (part, (is, begins), written) = cc

-- ---- block after block

one_put : (part : BlockKind × Block) (old new : Listing) (text : List ℕ) → Puts part old text new → PutsAll (part ∷ []) old text new
one_put part old new text puts = (new, text, [], puts, (refl, refl), sym (append-nil text))

-- two blocks were pushed, or the second one was not
pub both_pushed : {E : Type 0} (one other : BlockKind × Block) (r : Result (Unit {0}) E) (old mid new : Listing) (a b c : Option (List ℕ)) → Prints (λ text. Puts one old text mid) a b
    → OnOk r (Prints (λ text. Puts other mid text new) b c) → OnOk r (Prints (λ text. PutsAll (one ∷ other ∷ []) old text new) a c)
both_pushed one other (Ok x) old mid new a b c (text, puts, written) (more, also, later) =
    (text ++ more, (mid, text, more, puts, one_put other mid new more also, refl), Appends-trans a b c text more written later)
both_pushed one other (Err e) old mid new a b c first h = tt

pub first_left : (part : BlockKind × Block) (others : List (BlockKind × Block)) (e : QueryError) (old : Listing) (before after : Option (List ℕ)) → Leaves (LeavesOne part old) before after e
    → Leaves (LeavesAll (part ∷ others) old) before after e
first_left part others ends.Memory old before after (text, left, written) = (text, inl left, written)
first_left part others (ends.Write x) old before after left = tt
first_left part others ends.TooMany old before after left = left
first_left part others ends.OutOfOrder old before after (text, left, written) = (text, inl left, written)

then_left : (one other : BlockKind × Block) (e : QueryError) (old mid : Listing) (a b c : Option (List ℕ)) → Prints (λ text. Puts one old text mid) a b → Leaves (LeavesOne other mid) b c e
    → Leaves (LeavesAll (one ∷ other ∷ []) old) a c e
then_left one other ends.Memory old mid a b c (text, puts, written) (part, left, later) = (text ++ part, inr (mid, text, part, puts, inl left, refl), Appends-trans a b c text part written later)
then_left one other (ends.Write x) old mid a b c first left = tt
then_left one other ends.TooMany old mid a b c first left = left
then_left one other ends.OutOfOrder old mid a b c (text, puts, written) (part, left, later) = (text ++ part, inr (mid, text, part, puts, inl left, refl), Appends-trans a b c text part written later)

pub second_broken : (one other : BlockKind × Block) (r : Result (Unit {0}) QueryError) (old mid : Listing) (a b c : Option (List ℕ)) → Prints (λ text. Puts one old text mid) a b
    → IfErr r (Leaves (LeavesOne other mid) b c) → IfErr r (Leaves (LeavesAll (one ∷ other ∷ []) old) a c)
second_broken one other (Ok x) old mid a b c first left = tt
second_broken one other (Err e) old mid a b c first left = then_left one other e old mid a b c first left

-- ---- the blocks of a network

-- a block of IPv6 with addresses of IPv4 is two, and any other is one
two_blocks : (as_ipv4 : Bool) (block : Block) → true ≡ has_ipv4_part as_ipv4 block → blocks_of as_ipv4 block ≡ (Ipv4, ipv4_part block) ∷ (Ipv6, block) ∷ []
two_blocks as_ipv4 block is = ap (λ b. if b then (Ipv4, ipv4_part block) ∷ (Ipv6, block) ∷ [] else (kind_as as_ipv4, block) ∷ []) (sym is)

one_block : (as_ipv4 : Bool) (block : Block) → false ≡ has_ipv4_part as_ipv4 block → blocks_of as_ipv4 block ≡ (kind_as as_ipv4, block) ∷ []
one_block as_ipv4 block is = ap (λ b. if b then (Ipv4, ipv4_part block) ∷ (Ipv6, block) ∷ [] else (kind_as as_ipv4, block) ∷ []) (sym is)

pub both_pushed_of : {E : Type 0} (as_ipv4 : Bool) (block : Block) (r : Result (Unit {0}) E) (old new : Listing) (before after : Option (List ℕ)) → true ≡ has_ipv4_part as_ipv4 block
    → OnOk r (Prints (λ text. PutsAll ((Ipv4, ipv4_part block) ∷ (Ipv6, block) ∷ []) old text new) before after) → OnOk r (Prints (λ text. PutsAll (blocks_of as_ipv4 block) old text new) before after)
both_pushed_of as_ipv4 block r old new before after is = subst (λ ps. OnOk r (Prints (λ text. PutsAll ps old text new) before after)) (sym (two_blocks as_ipv4 block is))

pub both_broken_of : (as_ipv4 : Bool) (block : Block) (r : Result (Unit {0}) QueryError) (old : Listing) (before after : Option (List ℕ)) → true ≡ has_ipv4_part as_ipv4 block
    → IfErr r (Leaves (LeavesAll ((Ipv4, ipv4_part block) ∷ (Ipv6, block) ∷ []) old) before after) → IfErr r (Leaves (LeavesAll (blocks_of as_ipv4 block) old) before after)
both_broken_of as_ipv4 block r old before after is = subst (λ ps. IfErr r (Leaves (LeavesAll ps old) before after)) (sym (two_blocks as_ipv4 block is))

prints_one : {E : Type 0} (part : BlockKind × Block) (r : Result (Unit {0}) E) (old new : Listing) (before after : Option (List ℕ))
    → OnOk r (Prints (λ text. Puts part old text new) before after) → OnOk r (Prints (λ text. PutsAll (part ∷ []) old text new) before after)
prints_one part (Ok x) old new before after (text, puts, written) = (text, one_put part old new text puts, written)
prints_one part (Err e) old new before after h = tt

one_broken : {T : Type 0} (part : BlockKind × Block) (r : Result T QueryError) (old : Listing) (before after : Option (List ℕ)) → IfErr r (Leaves (LeavesOne part old) before after)
    → IfErr r (Leaves (LeavesAll (part ∷ []) old) before after)
one_broken part (Ok x) old before after left = tt
one_broken part (Err e) old before after left = first_left part [] e old before after left

pub one_pushed_of : {E : Type 0} (as_ipv4 : Bool) (kind : BlockKind) (block : Block) (r : Result (Unit {0}) E) (old new : Listing) (before after : Option (List ℕ)) → false ≡ has_ipv4_part as_ipv4 block
    → kind ≡ kind_as as_ipv4 → OnOk r (Prints (λ text. Puts (kind, block) old text new) before after) → OnOk r (Prints (λ text. PutsAll (blocks_of as_ipv4 block) old text new) before after)
one_pushed_of as_ipv4 kind block r old new before after is same h =
    subst (λ ps. OnOk r (Prints (λ text. PutsAll ps old text new) before after)) (ap (λ k. (k, block) ∷ []) same ∙ sym (one_block as_ipv4 block is)) (prints_one (kind, block) r old new before after h)

pub one_broken_of : {T : Type 0} (as_ipv4 : Bool) (kind : BlockKind) (block : Block) (r : Result T QueryError) (old : Listing) (before after : Option (List ℕ)) → false ≡ has_ipv4_part as_ipv4 block
    → kind ≡ kind_as as_ipv4 → IfErr r (Leaves (LeavesOne (kind, block) old) before after) → IfErr r (Leaves (LeavesAll (blocks_of as_ipv4 block) old) before after)
one_broken_of as_ipv4 kind block r old before after is same left =
    subst (λ ps. IfErr r (Leaves (LeavesAll ps old) before after)) (ap (λ k. (k, block) ∷ []) same ∙ sym (one_block as_ipv4 block is)) (one_broken (kind, block) r old before after left)

one_or_none : (part : BlockKind × Block) (done : Bool) (old new : Listing) (before after : Option (List ℕ)) → IsDoneOrNot (Puts part) done old new before after → IsDoneOrNot (PutsAll (part ∷ [])) done old new before after
one_or_none part true old new before after (text, puts, written) = (text, one_put part old new text puts, written)
one_or_none part false old new before after h = h

-- ---- a network

of_bits : (as_ipv4 : Bool) (block : Block) (bits : List Bool) (done : Bool) (old new : Listing) (before after : Option (List ℕ)) → HasBits block bits
    → IsDoneOrNot (PutsAll (blocks_of as_ipv4 block)) done old new before after → IsDoneOrNot (PutsBits as_ipv4 bits) done old new before after
of_bits as_ipv4 block bits true old new before after has (text, puts, written) = (text, (block, has, puts), written)
of_bits as_ipv4 block bits false old new before after has h = h

-- it was taken at once, or nothing was
pub network_taken : {E : Type 0} (as_ipv4 : Bool) (kind : BlockKind) (block : Block) (bits : List Bool) (r : Result Bool E) (old new : Listing) (before after : Option (List ℕ)) → false ≡ has_ipv4_part as_ipv4 block
    → kind ≡ kind_as as_ipv4 → HasBits block bits → IfOk r (λ done. IsDoneOrNot (Puts (kind, block)) done old new before after)
    → IfOk r (λ done. IsDoneOrNot (PutsBits as_ipv4 bits) done old new before after)
network_taken as_ipv4 kind block bits (Ok done) old new before after is same has h =
    of_bits as_ipv4 block bits done old new before after has
    (subst (λ ps. IsDoneOrNot (PutsAll ps) done old new before after) (ap (λ k. (k, block) ∷ []) same ∙ sym (one_block as_ipv4 block is)) (one_or_none (kind, block) done old new before after h))
network_taken as_ipv4 kind block bits (Err e) old new before after is same has h = tt

bits_left : (as_ipv4 : Bool) (block : Block) (bits : List Bool) (e : QueryError) (old : Listing) (before after : Option (List ℕ)) → HasBits block bits → Leaves (LeavesAll (blocks_of as_ipv4 block) old) before after e
    → Leaves (LeavesBits as_ipv4 bits old) before after e
bits_left as_ipv4 block bits ends.Memory old before after has (part, left, written) = (part, (block, has, left), written)
bits_left as_ipv4 block bits (ends.Write x) old before after has left = tt
bits_left as_ipv4 block bits ends.TooMany old before after has left = left
bits_left as_ipv4 block bits ends.OutOfOrder old before after has (part, left, written) = (part, (block, has, left), written)

-- ---- a network by its block, whichever bits that has

pub all_taken : {E : Type 0} (as_ipv4 : Bool) (kind : BlockKind) (block : Block) (r : Result Bool E) (old new : Listing) (before after : Option (List ℕ)) → false ≡ has_ipv4_part as_ipv4 block
    → kind ≡ kind_as as_ipv4 → IfOk r (λ done. IsDoneOrNot (Puts (kind, block)) done old new before after)
    → IfOk r (λ done. (bits : List Bool) → HasBits block bits → IsDoneOrNot (PutsBits as_ipv4 bits) done old new before after)
all_taken as_ipv4 kind block (Ok done) old new before after is same h = λ bits has. network_taken {E = Unit {0}} as_ipv4 kind block bits (Ok done) old new before after is same has h
all_taken as_ipv4 kind block (Err e) old new before after is same h = tt

pub all_broken : {T : Type 0} (as_ipv4 : Bool) (block : Block) (r : Result T QueryError) (old : Listing) (before after : Option (List ℕ))
    → IfErr r (Leaves (LeavesAll (blocks_of as_ipv4 block) old) before after)
    → IfErr r (λ e. (bits : List Bool) → HasBits block bits → Leaves (LeavesBits as_ipv4 bits old) before after e)
all_broken as_ipv4 block (Ok x) old before after left = tt
all_broken as_ipv4 block (Err e) old before after left = λ bits has. bits_left as_ipv4 block bits e old before after has left

pub all_pushed : {E : Type 0} (as_ipv4 : Bool) (block : Block) (r : Result (Unit {0}) E) (old new : Listing) (before after : Option (List ℕ))
    → OnOk r (Prints (λ text. PutsAll (blocks_of as_ipv4 block) old text new) before after)
    → OnOk r ((bits : List Bool) → HasBits block bits → Prints (λ text. PutsBits as_ipv4 bits old text new) before after)
all_pushed as_ipv4 block (Ok x) old new before after (text, puts, written) = λ bits has. (text, (block, has, puts), written)
all_pushed as_ipv4 block (Err e) old new before after h = tt

-- the same of all that has the network's bits and kind
pub ok_of_had : {T E : Type 0} (r : Result T E) (P : Bool → List Bool → T → Type 0) (block : Block) (as_ipv4 kind : Bool) (bits : List Bool) → as_ipv4 ≡ kind → HasBits block bits
    → IfOk r (λ x. (b : List Bool) → HasBits block b → P as_ipv4 b x) → IfOk r (P kind bits)
ok_of_had (Ok x) P block as_ipv4 kind bits same has h = subst (λ k. P k bits x) same (h bits has)
ok_of_had (Err e) P block as_ipv4 kind bits same has h = tt

pub err_of_had : {T E : Type 0} (r : Result T E) (P : Bool → List Bool → E → Type 0) (block : Block) (as_ipv4 kind : Bool) (bits : List Bool) → as_ipv4 ≡ kind → HasBits block bits
    → IfErr r (λ e. (b : List Bool) → HasBits block b → P as_ipv4 b e) → IfErr r (P kind bits)
err_of_had (Ok x) P block as_ipv4 kind bits same has h = tt
err_of_had (Err e) P block as_ipv4 kind bits same has h = subst (λ k. P k bits e) same (h bits has)
