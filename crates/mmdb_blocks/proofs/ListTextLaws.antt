-- From the networks that are pushed to the text of a whole list.
use Rattle.std.proofs.Common.{◌≡◌, ◌∙◌, ℕ, Bool, true, false, List, [], ◌∷◌, ◌++◌, Option, Some, if◌then◌else◌, refl, sym, ap, subst, append_assoc, append-nil}
use Rattle.std.proofs.lemmas.Grind.{flat_map-append}
use Rattle.std.specs.List.{flat_map}
use Rattle.mmdb_blocks.specs.Blocks.{IsJoined}
use Rattle.mmdb_blocks.specs.Joining.{IsJoining}
use Rattle.mmdb_blocks.specs.Lists.{Page, Listing, Joins, TakesBlock, settled_left, settled_page, settled_text, with_settled, Pushes, is_other, written_for, printed_lines, with_lines, printed, with_blocks, closing_left, printed_rest, changed_text, changed_page, changed_waiting, rest_left, finished_text}
use Rattle.mmdb_blocks.specs.ListTexts.{PushesAll}
use Rattle.mmdb_blocks.specs.declared.block.Block.{Block}
use Rattle.mmdb_blocks.specs.declared.kind.BlockKind.{BlockKind}
use Rattle.mmdb_blocks.specs.declared.kind.BlockKind.TheVariants.{Ipv4, Ipv6}
use Rattle.mmdb_blocks.specs.declared.syntax.Syntax.{Syntax}
use Rattle.mmdb_blocks.proofs.JoinLaws.{nothing-joined}
use Rattle.mmdb_blocks.proofs.ListLaws.{with_lines-append, printed_lines-append, lines-syntax}

-- ---- blocks after others

pub with-two : (page : Page) (kind : BlockKind) (xs ys : List Block) → with_blocks page kind (xs ++ ys) ≡ with_blocks (with_blocks page kind xs) kind ys
with-two page kind xs ys =
    let f : Syntax → List Block → List Block = λ s. flat_map (written_for s kind) in
    ap (λ (bs : List Block). with_lines page kind bs) (flat_map-append (written_for page.syntax kind) xs ys)
    ∙ with_lines-append page kind (f page.syntax xs) (f page.syntax ys)
    ∙ ap (λ (s : Syntax). with_lines (with_blocks page kind xs) kind (f s ys)) (sym (lines-syntax page kind (f page.syntax xs)))

printed-two : (page : Page) (kind : BlockKind) (xs ys : List Block) → printed page kind (xs ++ ys) ≡ printed page kind xs ++ printed (with_blocks page kind xs) kind ys
printed-two page kind xs ys =
    let f : Syntax → List Block → List Block = λ s. flat_map (written_for s kind) in
    ap (λ (bs : List Block). printed_lines page kind bs) (flat_map-append (written_for page.syntax kind) xs ys)
    ∙ printed_lines-append page kind (f page.syntax xs) (f page.syntax ys)
    ∙ ap (λ (s : Syntax). printed page kind xs ++ printed_lines (with_blocks page kind xs) kind (f s ys)) (sym (lines-syntax page kind (f page.syntax xs)))

-- ---- the networks of a kind

-- Where a list is once blocks of a kind are pushed: those that were settled are printed, from a page on.
pub record Reached (kind : BlockKind) (start : Page) (pushed : List Block) (text : List ℕ) (list : Listing) : Type 0 where
  pub handed : List Block
  pub joining : IsJoining pushed handed list.waiting
  pub text_is : text ≡ printed start kind handed
  pub page : list.page ≡ with_blocks start kind handed
  pub at_hand : list.kind ≡ Some kind

same-kind : (kind : BlockKind) → is_other kind kind ≡ false
same-kind Ipv4 = refl
same-kind Ipv6 = refl

stays : {A : Type 0} (b : Bool) (x y : A) → b ≡ false → (if b then x else y) ≡ y
stays true x y e = cc
stays false x y e = refl

stays-text : (page : Page) (at_hand : Option BlockKind) (kind : BlockKind) (waiting : List Block) → at_hand ≡ Some kind → changed_text page at_hand kind waiting ≡ []
stays-text page at_hand kind waiting e = ap (λ (k : Option BlockKind). changed_text page k kind waiting) e ∙ stays (is_other kind kind) _ _ (same-kind kind)

stays-page : (page : Page) (at_hand : Option BlockKind) (kind : BlockKind) (waiting : List Block) → at_hand ≡ Some kind → changed_page page at_hand kind waiting ≡ page
stays-page page at_hand kind waiting e = ap (λ (k : Option BlockKind). changed_page page k kind waiting) e ∙ stays (is_other kind kind) _ _ (same-kind kind)

stays-waiting : (at_hand : Option BlockKind) (kind : BlockKind) (waiting : List Block) → at_hand ≡ Some kind → changed_waiting at_hand kind waiting ≡ waiting
stays-waiting at_hand kind waiting e = ap (λ (k : Option BlockKind). changed_waiting k kind waiting) e ∙ stays (is_other kind kind) _ _ (same-kind kind)

-- a block is pushed on a page where others of the kind were printed
reaches : (kind : BlockKind) (start on : Page) (pushed handed waiting : List Block) (block : Block) (old new : Listing) (text : List ℕ)
    → changed_waiting old.kind kind old.waiting ≡ waiting → changed_page old.page old.kind kind old.waiting ≡ on → on ≡ with_blocks start kind handed
    → IsJoining pushed handed waiting → Pushes kind block old text new
    → Reached kind start (pushed ++ block ∷ []) (printed start kind handed ++ printed on kind new.settled) new
reaches kind start on pushed handed waiting block old new text waits page is joining pushes =
    let P : List Block → Type 0 = λ ws. IsJoining pushed handed ws in
    record {
      handed = handed ++ new.settled;
      joining = pushes.joins.joining pushed handed (subst P (sym waits) joining);
      text_is = ap (λ (p : Page). printed start kind handed ++ printed p kind new.settled) is ∙ sym (printed-two start kind handed new.settled);
      page = pushes.page ∙ ap (λ (p : Page). with_blocks p kind new.settled) (page ∙ is) ∙ sym (with-two start kind handed new.settled);
      at_hand = pushes.at_hand;
    }

next : (kind : BlockKind) (start : Page) (pushed : List Block) (text more : List ℕ) (block : Block) (old new : Listing) → Reached kind start pushed text old → Pushes kind block old more new
    → Reached kind start (pushed ++ block ∷ []) (text ++ more) new
next kind start pushed text more block old new reached pushes =
    let page = stays-page old.page old.kind kind old.waiting reached.at_hand in
    let whole : text ++ more ≡ printed start kind reached.handed ++ printed old.page kind new.settled =
    ap (λ (t : List ℕ). t ++ more) reached.text_is
    ∙ ap (λ (t : List ℕ). printed start kind reached.handed ++ t)
    (pushes.text_is ∙ ap (λ (t : List ℕ). t ++ printed (changed_page old.page old.kind kind old.waiting) kind new.settled) (stays-text old.page old.kind kind old.waiting reached.at_hand)
    ∙ ap (λ (p : Page). printed p kind new.settled) page) in
    let P : List ℕ → Type 0 = λ t. Reached kind start (pushed ++ block ∷ []) t new in
    subst P (sym whole) (reaches kind start old.page pushed reached.handed old.waiting block old new more (stays-waiting old.kind kind old.waiting reached.at_hand) page reached.page reached.joining pushes)

all-next : (kind : BlockKind) (start : Page) (pushed blocks : List Block) (text more : List ℕ) (old new : Listing) → Reached kind start pushed text old → PushesAll kind blocks old more new
    → Reached kind start (pushed ++ blocks) (text ++ more) new
all-next kind start pushed [] text more old new reached (same, none) =
    let P : Listing → Type 0 = λ l. Reached kind start (pushed ++ []) (text ++ more) l in
    let Q : List Block → Type 0 = λ bs. Reached kind start bs (text ++ more) old in
    let R : List ℕ → Type 0 = λ t. Reached kind start pushed t old in
    subst P (sym same) (subst Q (sym (append-nil pushed)) (subst R (sym (ap (λ (t : List ℕ). text ++ t) none ∙ append-nil text)) reached))
all-next kind start pushed (block ∷ blocks) text more old new reached (mid, first, rest, one, others, whole) =
    let Q : List Block → Type 0 = λ bs. Reached kind start bs (text ++ more) new in
    let R : List ℕ → Type 0 = λ t. Reached kind start ((pushed ++ block ∷ []) ++ blocks) t new in
    let same : text ++ more ≡ (text ++ first) ++ rest = ap (λ (t : List ℕ). text ++ t) whole ∙ sym (append_assoc text first rest) in
    subst Q (append_assoc pushed (block ∷ []) blocks)
    (subst R (sym same) (all-next kind start (pushed ++ block ∷ []) blocks (text ++ first) rest mid new (next kind start pushed text first block old mid reached one) others))

-- networks of a kind are pushed where no block of it waits
pub begins-kind : (kind : BlockKind) (block : Block) (blocks : List Block) (old new : Listing) (text : List ℕ) → changed_waiting old.kind kind old.waiting ≡ []
    → PushesAll kind (block ∷ blocks) old text new
    → (rest : List ℕ) × (text ≡ changed_text old.page old.kind kind old.waiting ++ rest)
    × Reached kind (changed_page old.page old.kind kind old.waiting) (block ∷ blocks) rest new
begins-kind kind block blocks old new text none (mid, first, others_text, one, others, whole) =
    let start : Page = changed_page old.page old.kind kind old.waiting in
    let before : List ℕ = changed_text old.page old.kind kind old.waiting in
    let reached : Reached kind start (block ∷ []) (printed start kind mid.settled) mid =
    reaches kind start start [] [] [] block old mid first none refl refl nothing-joined one in
    let all = all-next kind start (block ∷ []) blocks (printed start kind mid.settled) others_text mid new reached others in (
      printed start kind mid.settled ++ others_text,
      whole ∙ ap (λ (t : List ℕ). t ++ others_text) one.text_is ∙ append_assoc before (printed start kind mid.settled) others_text,
      all,
    )

-- and then the list is finished: what is printed of the kind are the fewest blocks
pub finished-kind : (kind : BlockKind) (start : Page) (pushed : List Block) (text : List ℕ) (list : Listing) (r : Reached kind start pushed text list)
    → text ++ finished_text list ≡ printed_rest start kind (r.handed ++ list.waiting)
finished-kind kind start pushed text list r =
    let left : finished_text list ≡ printed_rest list.page kind list.waiting = ap (λ (k : Option BlockKind). rest_left list.page k list.waiting) r.at_hand in
    let moved : printed_rest list.page kind list.waiting ≡ printed_rest (with_blocks start kind r.handed) kind list.waiting = ap (λ (p : Page). printed_rest p kind list.waiting) r.page in
    let closed : closing_left (with_blocks (with_blocks start kind r.handed) kind list.waiting) ≡ closing_left (with_blocks start kind (r.handed ++ list.waiting)) =
    ap (λ (p : Page). closing_left p) (sym (with-two start kind r.handed list.waiting)) in
    let end : List ℕ = closing_left (with_blocks (with_blocks start kind r.handed) kind list.waiting) in
    let more : List ℕ = printed (with_blocks start kind r.handed) kind list.waiting in
    ap (λ (t : List ℕ). t ++ finished_text list) r.text_is
    ∙ ap (λ (t : List ℕ). printed start kind r.handed ++ t) (left ∙ moved)
    ∙ sym (append_assoc (printed start kind r.handed) more end)
    ∙ ap (λ (t : List ℕ). t ++ end) (sym (printed-two start kind r.handed list.waiting))
    ∙ ap (λ (t : List ℕ). printed start kind (r.handed ++ list.waiting) ++ t) closed

pub kind-is-fewest : (kind : BlockKind) (block : Block) (blocks : List Block) (old new : Listing) (text : List ℕ) → changed_waiting old.kind kind old.waiting ≡ []
    → PushesAll kind (block ∷ blocks) old text new
    → (joined : List Block) × IsJoined (block ∷ blocks) joined
    × (text ++ finished_text new ≡ changed_text old.page old.kind kind old.waiting ++ printed_rest (changed_page old.page old.kind kind old.waiting) kind joined)
kind-is-fewest kind block blocks old new text none pushes =
    let before : List ℕ = changed_text old.page old.kind kind old.waiting in
    let b = begins-kind kind block blocks old new text none pushes in
    let rest : List ℕ = b.0 in
    let whole = b.1 in
    let r = b.2 in (
      r.handed ++ new.waiting,
      r.joining.joined,
      ap (λ (t : List ℕ). t ++ finished_text new) whole ∙ append_assoc before rest (finished_text new)
          ∙ ap (λ (t : List ℕ). before ++ t) (finished-kind kind (changed_page old.page old.kind kind old.waiting) (block ∷ blocks) rest new r),
    )

-- a network that is taken, and then those that are settled are written
pub taken-pushed : (kind : BlockKind) (block : Block) (old mid : Listing) → TakesBlock kind block old mid → Pushes kind block old (settled_text mid) (with_settled mid)
taken-pushed kind block old mid takes =
    let at_hand : mid.kind ≡ Some kind = takes.same ∙ takes.at_hand in
    let P : List Block → Type 0 = λ ws. Joins ws block mid.settled mid.waiting in
    let on : mid.page ≡ changed_page old.page old.kind kind old.waiting = takes.page ∙ sym (stays-page old.page old.kind kind old.waiting takes.at_hand) in
    let none : changed_text old.page old.kind kind old.waiting ≡ [] = stays-text old.page old.kind kind old.waiting takes.at_hand in
    record {
      joins = subst P (sym (stays-waiting old.kind kind old.waiting takes.at_hand)) takes.joins;
      text_is = ap (λ (k : Option BlockKind). settled_left mid.page k mid.settled) at_hand ∙ ap (λ (p : Page). printed p kind mid.settled) on
          ∙ ap (λ (t : List ℕ). t ++ printed (changed_page old.page old.kind kind old.waiting) kind mid.settled) (sym none);
      page = ap (λ (k : Option BlockKind). settled_page mid.page k mid.settled) at_hand ∙ ap (λ (p : Page). with_blocks p kind mid.settled) on;
      at_hand = at_hand;
    }
