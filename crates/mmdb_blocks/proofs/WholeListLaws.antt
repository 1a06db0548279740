-- The text of a whole list: what comes before all networks, and of each kind its fewest blocks.
use Rattle.std.proofs.Common.{◌≡◌, ◌∙◌, ℕ, Bool, true, false, not, List, [], ◌∷◌, ◌++◌, nat_eq, if◌then◌else◌, Option, None, refl, sym, ap, subst, append_assoc, append-nil}
use Rattle.std.specs.List.{flat_map}
use Rattle.mmdb_blocks.specs.Lists.{Page, Listing, with_rest, rest_left, changed_text, changed_page, changed_waiting, finished_text, takes_all, lower_half, upper_half, written_for, beginning_left, with_network, printed_one, printed_lines, with_lines, with_blocks, closing_left, printed_rest}
use Rattle.mmdb_blocks.specs.ListTexts.{lines_of, kind_text, page_text, list_text, PushesAll, IsWhole}
use Rattle.mmdb_blocks.specs.Texts.{network_text, line_of, opening_of, closing_of}
use Rattle.mmdb_blocks.specs.Kinds.{prefix_in}
use Rattle.mmdb_blocks.specs.Blocks.{IsJoined}
use Rattle.mmdb_blocks.specs.declared.block.Block.{Block}
use Rattle.mmdb_blocks.specs.declared.kind.BlockKind.{BlockKind}
use Rattle.mmdb_blocks.specs.declared.kind.BlockKind.TheVariants.{Ipv4, Ipv6}
use Rattle.mmdb_blocks.specs.declared.syntax.Syntax.{Syntax}
use Rattle.mmdb_blocks.proofs.JoinLaws.{nothing-joined}
use Rattle.mmdb_blocks.proofs.ListTextLaws.{Reached, with-two, begins-kind, finished-kind, kind-is-fewest}

-- ---- lines of a kind of which a network was written

chosen : {A : Type 0} (b : Bool) (x y : A) → b ≡ true → (if b then x else y) ≡ x
chosen true x y e = refl
chosen false x y e = cc

kept-network : (page : Page) (kind : BlockKind) → page.has_written ≡ true → with_network page kind ≡ page
kept-network page kind e = chosen page.has_written page _ e

kept-lines : (page : Page) (kind : BlockKind) (xs : List Block) → page.has_written ≡ true → with_lines page kind xs ≡ page
kept-lines page kind [] e = refl
kept-lines page kind (x ∷ xs) e = ap (λ (p : Page). with_lines p kind xs) (kept-network page kind e) ∙ kept-lines page kind xs e

later-lines : (page : Page) (kind : BlockKind) (xs : List Block) → page.has_written ≡ true → printed_lines page kind xs ≡ lines_of page.syntax kind page.action false xs
later-lines page kind [] e = refl
later-lines page kind (x ∷ xs) e =
    let text : List ℕ = network_text kind x in
    let rest : List ℕ = printed_lines (with_network page kind) kind xs in
    let line : printed_one page kind text ≡ line_of page.syntax kind page.action false text =
    ap (λ (t : List ℕ). t ++ line_of page.syntax kind page.action (not page.has_written) text) (chosen page.has_written [] _ e)
    ∙ ap (λ (b : Bool). line_of page.syntax kind page.action (not b) text) e in
    ap (λ (t : List ℕ). t ++ rest) line
    ∙ ap (λ (t : List ℕ). line_of page.syntax kind page.action false text ++ t)
    (ap (λ (p : Page). printed_lines p kind xs) (kept-network page kind e) ∙ later-lines page kind xs e)

-- ---- all lines of a kind

other : {A : Type 0} (b : Bool) (x y : A) → b ≡ false → (if b then x else y) ≡ y
other true x y e = cc
other false x y e = refl

-- the page with the first network of a kind
abbrev opened : Page → BlockKind → Page
opened page kind = record page { has_begun = true; has_written = true; filled = page.filled ++ record { action = page.action; kind = kind } ∷ [] }

first-network : (page : Page) (kind : BlockKind) → page.has_written ≡ false → with_network page kind ≡ opened page kind
first-network page kind e = other page.has_written page (opened page kind) e

first-lines : (page : Page) (kind : BlockKind) (x : Block) (xs : List Block) → page.has_written ≡ false
    → printed_lines page kind (x ∷ xs) ≡ (beginning_left page ++ opening_of page.syntax kind page.action) ++ lines_of page.syntax kind page.action true (x ∷ xs)
first-lines page kind x xs e =
    let text : List ℕ = network_text kind x in
    let heading : List ℕ = beginning_left page ++ opening_of page.syntax kind page.action in
    let line : List ℕ = line_of page.syntax kind page.action true text in
    let rest : List ℕ = lines_of page.syntax kind page.action false xs in
    let one : printed_one page kind text ≡ heading ++ line =
    ap (λ (t : List ℕ). t ++ line_of page.syntax kind page.action (not page.has_written) text) (other page.has_written [] heading e)
    ∙ ap (λ (b : Bool). heading ++ line_of page.syntax kind page.action (not b) text) e in
    let others : printed_lines (with_network page kind) kind xs ≡ rest =
    ap (λ (p : Page). printed_lines p kind xs) (first-network page kind e) ∙ later-lines (opened page kind) kind xs refl in
    ap (λ (t : List ℕ). t ++ printed_lines (with_network page kind) kind xs) one ∙ ap (λ (t : List ℕ). (heading ++ line) ++ t) others ∙ append_assoc heading line rest

-- a block is written as one or more
record IsSome (blocks : List Block) : Type 0 where
  first : Block
  others : List Block
  is : blocks ≡ first ∷ others

some-written : (syntax : Syntax) (kind : BlockKind) (block : Block) (blocks : List Block) → IsSome (flat_map (written_for syntax kind) (block ∷ blocks))
some-written syntax kind block blocks = of (takes_all syntax) (nat_eq (prefix_in kind block.prefix) 0) (flat_map (written_for syntax kind) blocks)
  where
    of : (b c : Bool) (rest : List Block) → IsSome ((if b then block ∷ [] else (if c then lower_half block ∷ upper_half block ∷ [] else block ∷ [])) ++ rest)
    of true c rest = record { first = block; others = rest; is = refl }
    of false true rest = record { first = lower_half block; others = upper_half block ∷ rest; is = refl }
    of false false rest = record { first = block; others = rest; is = refl }

closed : (page : Page) (kind : BlockKind) (x : Block) (xs : List Block) → page.has_written ≡ false → closing_left (with_lines page kind (x ∷ xs)) ≡ closing_of page.syntax
closed page kind x xs e =
    ap (λ (p : Page). closing_left (with_lines p kind xs)) (first-network page kind e) ∙ ap (λ (p : Page). closing_left p) (kept-lines (opened page kind) kind xs refl)

pub whole-kind : (page : Page) (kind : BlockKind) (blocks : List Block) → page.has_written ≡ false → printed_rest page kind blocks ≡ page_text page kind blocks
whole-kind page kind [] e = other page.has_written (closing_of page.syntax) [] e
whole-kind page kind (block ∷ blocks) e =
    let all : List Block = flat_map (written_for page.syntax kind) (block ∷ blocks) in
    let some : IsSome all = some-written page.syntax kind block blocks in
    let begins : List ℕ = beginning_left page in
    let opens : List ℕ = opening_of page.syntax kind page.action in
    let lines : List ℕ = lines_of page.syntax kind page.action true all in
    let closes : List ℕ = closing_of page.syntax in
    let text : printed_lines page kind all ≡ (begins ++ opens) ++ lines =
    ap (λ (bs : List Block). printed_lines page kind bs) some.is ∙ first-lines page kind some.first some.others e
    ∙ ap (λ (bs : List Block). (begins ++ opens) ++ lines_of page.syntax kind page.action true bs) (sym some.is) in
    let ends : closing_left (with_lines page kind all) ≡ closes =
    ap (λ (bs : List Block). closing_left (with_lines page kind bs)) some.is ∙ closed page kind some.first some.others e in
    ap (λ (t : List ℕ). t ++ closing_left (with_lines page kind all)) text
    ∙ ap (λ (t : List ℕ). ((begins ++ opens) ++ lines) ++ t) ends
    ∙ ap (λ (t : List ℕ). t ++ closes) (append_assoc begins opens lines)
    ∙ append_assoc begins (opens ++ lines) closes

-- ---- both kinds

opened-blocks : (page : Page) (kind : BlockKind) (block : Block) (blocks : List Block) → page.has_written ≡ false → with_blocks page kind (block ∷ blocks) ≡ opened page kind
opened-blocks page kind block blocks e =
    let some : IsSome (flat_map (written_for page.syntax kind) (block ∷ blocks)) = some-written page.syntax kind block blocks in
    ap (λ (bs : List Block). with_lines page kind bs) some.is
    ∙ ap (λ (p : Page). with_lines p kind some.others) (first-network page kind e) ∙ kept-lines (opened page kind) kind some.others refl

begun-text : (page : Page) (kind : BlockKind) (blocks : List Block) → page_text (record (opened page Ipv4) { has_written = false }) kind blocks ≡ kind_text page.syntax kind page.action blocks
begun-text page kind [] = refl
begun-text page kind (block ∷ blocks) = refl

same-text : (page : Page) (kind : BlockKind) (blocks : List Block) → page_text (record page { has_written = false }) kind blocks ≡ page_text page kind blocks
same-text page kind [] = refl
same-text page kind (block ∷ blocks) = refl

both-texts : (page : Page) (ipv4 ipv6 : List Block) → page.has_written ≡ false
    → page_text page Ipv4 ipv4 ++ page_text (with_rest page Ipv4 ipv4) Ipv6 ipv6 ≡ list_text page ipv4 ipv6
both-texts page [] ipv6 e = same-text page Ipv6 ipv6
both-texts page (block ∷ blocks) ipv6 e =
    ap (λ (t : List ℕ). page_text page Ipv4 (block ∷ blocks) ++ t)
    (ap (λ (p : Page). page_text (record p { has_written = false }) Ipv6 ipv6) (opened-blocks page Ipv4 block blocks e) ∙ begun-text page Ipv6 ipv6)

first-text : (page : Page) (ipv4 : List Block) → list_text page ipv4 [] ≡ page_text page Ipv4 ipv4
first-text page [] = refl
first-text page (block ∷ blocks) = append-nil (page_text page Ipv4 (block ∷ blocks))

of-none : (list : Listing) → list.kind ≡ None → finished_text list ≡ []
of-none list e = ap (λ (k : Option BlockKind). rest_left list.page k list.waiting) e

waits-none : (list : Listing) (kind : BlockKind) → list.kind ≡ None → list.waiting ≡ [] → changed_waiting list.kind kind list.waiting ≡ []
waits-none list kind e none = ap (λ (k : Option BlockKind). changed_waiting k kind list.waiting) e ∙ none

text-none : (list : Listing) (kind : BlockKind) → list.kind ≡ None → changed_text list.page list.kind kind list.waiting ≡ []
text-none list kind e = ap (λ (k : Option BlockKind). changed_text list.page k kind list.waiting) e

page-none : (list : Listing) (kind : BlockKind) → list.kind ≡ None → changed_page list.page list.kind kind list.waiting ≡ list.page
page-none list kind e = ap (λ (k : Option BlockKind). changed_page list.page k kind list.waiting) e

-- one kind from a list without networks
alone : (kind : BlockKind) (block : Block) (blocks : List Block) (old new : Listing) (text : List ℕ) → old.kind ≡ None → old.waiting ≡ [] → old.page.has_written ≡ false
    → PushesAll kind (block ∷ blocks) old text new → (joined : List Block) × IsJoined (block ∷ blocks) joined × (text ++ finished_text new ≡ page_text old.page kind joined)
alone kind block blocks old new text none empty unwritten pushes =
    let k = kind-is-fewest kind block blocks old new text (waits-none old kind none empty) pushes in (
      k.0,
      k.1,
      k.2 ∙ ap (λ (t : List ℕ). t ++ printed_rest (changed_page old.page old.kind kind old.waiting) kind k.0) (text-none old kind none)
          ∙ ap (λ (p : Page). printed_rest p kind k.0) (page-none old kind none) ∙ whole-kind old.page kind k.0 unwritten,
    )

pub whole-list : (ipv4 ipv6 : List Block) (old mid new : Listing) (first second : List ℕ) → old.kind ≡ None → old.waiting ≡ [] → old.page.has_written ≡ false
    → PushesAll Ipv4 ipv4 old first mid → PushesAll Ipv6 ipv6 mid second new → IsWhole old.page ipv4 ipv6 ((first ++ second) ++ finished_text new)
whole-list [] [] old mid new first second none empty unwritten (is_old, no_first) (is_mid, no_second) =
    record {
      fewest_ipv4 = [];
      fewest_ipv6 = [];
      ipv4_joined = nothing-joined.joined;
      ipv6_joined = nothing-joined.joined;
      text_is = ap (λ (t : List ℕ). (t ++ second) ++ finished_text new) no_first ∙ ap (λ (t : List ℕ). t ++ finished_text new) no_second
          ∙ ap (λ (l : Listing). finished_text l) (is_mid ∙ is_old) ∙ of-none old none;
    }
whole-list [] (block ∷ blocks) old mid new first second none empty unwritten (is_old, no_first) pushes =
    let P : Listing → Type 0 = λ l. PushesAll Ipv6 (block ∷ blocks) l second new in
    let k = alone Ipv6 block blocks old new second none empty unwritten (subst P is_old pushes) in
    record {
      fewest_ipv4 = [];
      fewest_ipv6 = k.0;
      ipv4_joined = nothing-joined.joined;
      ipv6_joined = k.1;
      text_is = ap (λ (t : List ℕ). (t ++ second) ++ finished_text new) no_first ∙ k.2;
    }
whole-list (block ∷ blocks) [] old mid new first second none empty unwritten pushes (is_mid, no_second) =
    let k = alone Ipv4 block blocks old mid first none empty unwritten pushes in
    record {
      fewest_ipv4 = k.0;
      fewest_ipv6 = [];
      ipv4_joined = k.1;
      ipv6_joined = nothing-joined.joined;
      text_is = ap (λ (t : List ℕ). (first ++ t) ++ finished_text new) no_second ∙ ap (λ (t : List ℕ). t ++ finished_text new) (append-nil first)
          ∙ ap (λ (l : Listing). first ++ finished_text l) is_mid ∙ k.2 ∙ sym (first-text old.page k.0);
    }
whole-list (block ∷ blocks) (other_block ∷ others) old mid new first second none empty unwritten pushes more =
    let b = begins-kind Ipv4 block blocks old mid first (waits-none old Ipv4 none empty) pushes in
    let start : Page = changed_page old.page old.kind Ipv4 old.waiting in
    let r : Reached Ipv4 start (block ∷ blocks) b.0 mid = b.2 in
    let k = kind-is-fewest Ipv6 other_block others mid new second (ap (λ (h : Option BlockKind). changed_waiting h Ipv6 mid.waiting) r.at_hand) more in
    let fewest : List Block = r.handed ++ mid.waiting in
    let text : b.0 ++ finished_text mid ≡ page_text old.page Ipv4 fewest =
    finished-kind Ipv4 start (block ∷ blocks) b.0 mid r ∙ ap (λ (p : Page). printed_rest p Ipv4 fewest) (page-none old Ipv4 none) ∙ whole-kind old.page Ipv4 fewest unwritten in
    let whole : first ≡ b.0 = b.1 ∙ ap (λ (t : List ℕ). t ++ b.0) (text-none old Ipv4 none) in
    let left : changed_text mid.page mid.kind Ipv6 mid.waiting ≡ finished_text mid =
    ap (λ (h : Option BlockKind). changed_text mid.page h Ipv6 mid.waiting) r.at_hand ∙ sym (ap (λ (h : Option BlockKind). rest_left mid.page h mid.waiting) r.at_hand) in
    let page : changed_page mid.page mid.kind Ipv6 mid.waiting ≡ with_rest old.page Ipv4 fewest =
    ap (λ (h : Option BlockKind). changed_page mid.page h Ipv6 mid.waiting) r.at_hand
    ∙ ap (λ (p : Page). with_rest p Ipv4 mid.waiting) r.page
    ∙ ap (λ (p : Page). record p { has_written = false }) (sym (with-two start Ipv4 r.handed mid.waiting))
    ∙ ap (λ (p : Page). with_rest p Ipv4 fewest) (page-none old Ipv4 none) in
    let rest : List ℕ = printed_rest (changed_page mid.page mid.kind Ipv6 mid.waiting) Ipv6 k.0 in
    let rest_is : rest ≡ page_text (with_rest old.page Ipv4 fewest) Ipv6 k.0 =
    ap (λ (p : Page). printed_rest p Ipv6 k.0) page ∙ whole-kind (with_rest old.page Ipv4 fewest) Ipv6 k.0 refl in
    record {
      fewest_ipv4 = fewest;
      fewest_ipv6 = k.0;
      ipv4_joined = r.joining.joined;
      ipv6_joined = k.1;
      text_is = append_assoc first second (finished_text new) ∙ ap (λ (t : List ℕ). first ++ t) k.2
          ∙ ap (λ (t : List ℕ). first ++ (t ++ rest)) left ∙ sym (append_assoc first (finished_text mid) rest)
          ∙ ap (λ (t : List ℕ). (t ++ finished_text mid) ++ rest) whole ∙ ap (λ (t : List ℕ). t ++ rest) text
          ∙ ap (λ (t : List ℕ). page_text old.page Ipv4 fewest ++ t) rest_is ∙ both-texts old.page fewest k.0 unwritten;
    }
