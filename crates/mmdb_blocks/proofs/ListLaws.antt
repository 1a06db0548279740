-- What lists print, step by step.
use Rattle.std.proofs.Common.{◌≡◌, ◌==◌, ◌∙◌, ℕ, suc, ◌+◌, ◌-◌, ◌*◌, ◌^◌, ◌<◌, Bool, true, false, not, List, [], ◌∷◌, ◌++◌, Option, Some, Result, Ok, Err, IfErr, OnOk, IsErrAnd, nat_eq, if◌then◌else◌, refl, sym, ap, subst, append_assoc, append-nil, length, get_or, take, drop, take-append-drop, inl, inr, arith}
use Rattle.std.proofs.lemmas.Grind.{flat_map-append}
use Rattle.std.proofs.lemmas.List.{take_more}
use Rattle.std.proofs.lemmas.Nat.{pow_pos}
use Rattle.std.specs.List.{flat_map}
use Rattle.std.specs.Io.KnownBytes.{Appends}
use Rattle.std.specs.Net.Addr.{IsIpv4OfBits, IsIpv6OfBits}
use Rattle.std.proofs.KnownBytes.{Appends-trans}
use Rattle.mmdb_net.specs.Network.{short_text_of}
use Rattle.mmdb_net.specs.declared.network.IpNetwork.{IpNetwork}
use Rattle.mmdb_net.specs.declared.network.IpNetwork.TheVariants.{V4, V6}
use Rattle.mmdb_blocks.specs.Blocks.{IsBlock}
use Rattle.mmdb_blocks.specs.Kinds.{IsNetworkOf, IsWanted, prefix_in}
use Rattle.mmdb_blocks.specs.Lists.{Page, BreaksOff, WritesNone, begun, headed, beginning_left, heading_of, with_network, printed_one, printed_lines, with_lines, written_for, printed, with_blocks, takes_all, lower_half, upper_half, printed_rest, changed_text, changed_page, changed_waiting, Listing, Joins, TakesBlock, IsPushed, PushFails, Prints}
use Rattle.mmdb_blocks.specs.Texts.{network_text, line_of, opening_of}
use Rattle.mmdb_blocks.specs.declared.block.Block.{Block}
use Rattle.mmdb_blocks.specs.declared.kind.BlockKind.{BlockKind}
use Rattle.mmdb_blocks.specs.declared.kind.BlockKind.TheVariants.{Ipv4, Ipv6}
use Rattle.mmdb_blocks.specs.declared.list.BlocksError.{BlocksError}
use Rattle.mmdb_blocks.specs.declared.list.BlocksError.TheVariants.{Write, OutOfOrder, Memory}
use Rattle.mmdb_blocks.specs.declared.syntax.Syntax.{Syntax}
use Rattle.mmdb_blocks.proofs.NumberLaws.{nested, doubled}

-- ---- the beginning of a text is one of a longer text

pub breaks-more : (text more : List ℕ) (a b : Option (List ℕ)) (e : BlocksError) → BreaksOff text a b e → BreaksOff (text ++ more) a b e
breaks-more text more a b (Write x) h = tt
breaks-more text more a b OutOfOrder h = absurd h
breaks-more text more a b Memory (part, rest, same, h) = (part, rest ++ more, ap (λ t. t ++ more) same ∙ append_assoc part rest more, h)

pub breaks-later : (first text : List ℕ) (a b c : Option (List ℕ)) (e : BlocksError) → Appends a b first → BreaksOff text b c e → BreaksOff (first ++ text) a c e
breaks-later first text a b c (Write x) g h = tt
breaks-later first text a b c OutOfOrder g h = absurd h
breaks-later first text a b c Memory g (part, rest, same, h) =
    (first ++ part, rest, ap (λ t. first ++ t) same ∙ sym (append_assoc first part rest), Appends-trans a b c first part g h)

pub breaks-none : (text : List ℕ) (a b : Option (List ℕ)) (e : BlocksError) → WritesNone a b e → BreaksOff text a b e
breaks-none text a b (Write x) h = tt
breaks-none text a b OutOfOrder h = absurd h
breaks-none text a b Memory h = ([], text, refl, h)

-- all of a text was written, and then memory was out
pub breaks-after : (first text : List ℕ) (a b : Option (List ℕ)) (e : BlocksError) → e ≡ Memory → Appends a b first → BreaksOff (first ++ text) a b e
breaks-after first text a b (Write x) is g = cc
breaks-after first text a b OutOfOrder is g = cc
breaks-after first text a b Memory is g = (first, text, refl, g)

-- ---- one network

headed-line : (b : Bool) (page : Page) (kind : BlockKind) (network : List ℕ)
    → line_of (if b then page else begun page).syntax kind (if b then page else begun page).action (not (if b then page else begun page).has_written) network
    ≡ line_of page.syntax kind page.action (not page.has_written) network
headed-line true page kind network = refl
headed-line false page kind network = refl

-- the line of the next network is the same once what comes before it is printed
pub line-headed : (old new : Page) (kind : BlockKind) (network : List ℕ) → new ≡ headed old
    → line_of new.syntax kind new.action (not new.has_written) network ≡ line_of old.syntax kind old.action (not old.has_written) network
line-headed old new kind network same = rw same (headed-line old.has_written old kind network)

heads : (b : Bool) (text : List ℕ) → b ≡ false → (if b then [] else text) ≡ text
heads true text same = cc
heads false text same = refl

-- memory is out once what comes before all networks is printed
pub open-breaks : (page : Page) (kind : BlockKind) (a b : Option (List ℕ)) (r : Result (Unit {0}) BlocksError) → page.has_written ≡ false
    → IsErrAnd r (λ e. e ≡ Memory) → Appends a b (beginning_left page) → IfErr r (BreaksOff (heading_of page kind) a b)
open-breaks page kind a b (Ok x) none is g = tt
open-breaks page kind a b (Err e) none is g =
    let P : List ℕ → Type 0 = λ text. BreaksOff text a b e in
    subst P (sym (heads page.has_written (beginning_left page ++ opening_of page.syntax kind page.action) none))
    (breaks-after (beginning_left page) (opening_of page.syntax kind page.action) a b e is g)

-- ---- results

module _ {T : Type 0} where
  -- more is written after a text
  pub appends-more : (r : Result T BlocksError) (a b c : Option (List ℕ)) (first text line : List ℕ) → line ≡ text → Appends a b first
      → OnOk r (Appends b c line) → OnOk r (Appends a c (first ++ text))
  appends-more (Ok x) a b c first text line same g h = Appends-trans a b c first text g (subst (λ (t : List ℕ). Appends b c t) same h)
  appends-more (Err e) a b c first text line same g h = tt

  -- an error is handed on
  pub fails-again : (r : Result T BlocksError) (e : BlocksError) (P : BlocksError → Type 0) → IsErrAnd r (λ y. y ≡ e) → P e → IfErr r P
  fails-again (Ok x) e P is h = tt
  fails-again (Err y) e P is h = subst P (sym is) h

  pub fails-more : (r s : Result T BlocksError) (a b : Option (List ℕ)) (text more : List ℕ) → IfErr r (BreaksOff text a b) → r ≡ s → IfErr s (BreaksOff (text ++ more) a b)
  fails-more r s a b text more h same = rw (← same) (of r h)
    where
      of : (r : Result T BlocksError) → IfErr r (BreaksOff text a b) → IfErr r (BreaksOff (text ++ more) a b)
      of (Ok x) h = tt
      of (Err e) h = breaks-more text more a b e h

  pub fails-later : (r : Result T BlocksError) (a b c : Option (List ℕ)) (first text : List ℕ) → Appends a b first → IfErr r (BreaksOff text b c) → IfErr r (BreaksOff (first ++ text) a c)
  fails-later (Ok x) a b c first text g h = tt
  fails-later (Err e) a b c first text g h = breaks-later first text a b c e g h

-- ---- blocks

-- the second half of a block begins at an address
pub upper-fits : (block : Block) → IsBlock block → block.prefix < 128 → block.first + 2 ^ (128 - (block.prefix + 1)) < 2 ^ 128
upper-fits block is lt =
    let level : 128 - block.prefix ≡ suc (128 - (block.prefix + 1)) = omega arith in
    let twice : 2 ^ (128 - block.prefix) ≡ 2 * 2 ^ (128 - (block.prefix + 1)) = rw level (doubled (128 - (block.prefix + 1))) in
    let fits = nested block.first 0 (128 - block.prefix) 128 (omega arith) is.aligned refl (omega (arith, is.first)) in
    omega (arith, fits, twice, pow_pos (128 - (block.prefix + 1)))

-- the text of the network that a block is
pub text-of-block : (kind : BlockKind) (block : Block) (network : IpNetwork) → IsNetworkOf kind block network → short_text_of network ≡ network_text kind block
unfolding network_text IsIpv4OfBits IsIpv6OfBits
text-of-block Ipv4 block (V4 n) (address, prefix) = rw (address, prefix) refl
text-of-block Ipv4 block (V6 n) (address, prefix) = absurd address
text-of-block Ipv6 block (V4 n) (address, prefix) = absurd address
text-of-block Ipv6 block (V6 n) (address, prefix) = rw (address, prefix) refl

-- ---- lines of some blocks and of others

pub with_lines-append : (page : Page) (kind : BlockKind) (xs ys : List Block) → with_lines page kind (xs ++ ys) ≡ with_lines (with_lines page kind xs) kind ys
with_lines-append page kind [] ys = refl
with_lines-append page kind (x ∷ xs) ys = with_lines-append (with_network page kind) kind xs ys

pub printed_lines-append : (page : Page) (kind : BlockKind) (xs ys : List Block)
    → printed_lines page kind (xs ++ ys) ≡ printed_lines page kind xs ++ printed_lines (with_lines page kind xs) kind ys
printed_lines-append page kind [] ys = refl
printed_lines-append page kind (x ∷ xs) ys =
    let one : List ℕ = printed_one page kind (network_text kind x) in
    ap (λ t. one ++ t) (printed_lines-append (with_network page kind) kind xs ys) ∙ sym (append_assoc one _ _)

network-syntax : (b : Bool) (page other : Page) → other.syntax ≡ page.syntax → (if b then page else other).syntax ≡ page.syntax
network-syntax true page other same = refl
network-syntax false page other same = same

pub lines-syntax : (page : Page) (kind : BlockKind) (xs : List Block) → (with_lines page kind xs).syntax ≡ page.syntax
lines-syntax page kind [] = refl
lines-syntax page kind (x ∷ xs) = lines-syntax (with_network page kind) kind xs ∙ network-syntax page.has_written page _ refl

-- the next block
pub blocks-more : (page : Page) (kind : BlockKind) (xs : List Block) (x : Block)
    → with_blocks page kind (xs ++ x ∷ []) ≡ with_lines (with_blocks page kind xs) kind (written_for page.syntax kind x)
blocks-more page kind xs x =
    rw (flat_map-append (written_for page.syntax kind) xs (x ∷ []), append-nil (written_for page.syntax kind x)) (with_lines-append page kind (flat_map (written_for page.syntax kind) xs) (written_for page.syntax kind x))

pub printed-more : (page : Page) (kind : BlockKind) (xs : List Block) (x : Block)
    → printed page kind (xs ++ x ∷ []) ≡ printed page kind xs ++ printed_lines (with_blocks page kind xs) kind (written_for page.syntax kind x)
printed-more page kind xs x =
    rw (flat_map-append (written_for page.syntax kind) xs (x ∷ []), append-nil (written_for page.syntax kind x)) (printed_lines-append page kind (flat_map (written_for page.syntax kind) xs) (written_for page.syntax kind x))

-- ---- two halves, and one block

module _ {T : Type 0} where
  pub halves-written : (r : Result T BlocksError) (page mid : Page) (kind : BlockKind) (a b c : Option (List ℕ)) (x y lower upper : Block)
      → x ≡ lower → y ≡ upper → mid ≡ with_network page kind → Appends a b (printed_one page kind (network_text kind x))
      → OnOk r (Appends b c (printed_one mid kind (network_text kind y))) → OnOk r (Appends a c (printed_lines page kind (lower ∷ upper ∷ [])))
  halves-written r page mid kind a b c x y lower upper is is_also mid_is g h =
      let second : printed_one mid kind (network_text kind y) ≡ printed_one (with_network page kind) kind (network_text kind upper) ++ [] =
      ap (λ m. printed_one m kind (network_text kind y)) mid_is ∙ ap (λ z. printed_one (with_network page kind) kind (network_text kind z)) is_also ∙ sym (append-nil _) in
      let P : Block → Type 0 = λ z. Appends a b (printed_one page kind (network_text kind z)) in
      let Q : List ℕ → Type 0 = λ t. OnOk r (Appends b c t) in
      appends-more r a b c (printed_one page kind (network_text kind lower)) _ _ refl (subst P is g) (subst Q second h)

  pub halves-failed : (r : Result T BlocksError) (page mid : Page) (kind : BlockKind) (a b c : Option (List ℕ)) (x y lower upper : Block)
      → x ≡ lower → y ≡ upper → mid ≡ with_network page kind → Appends a b (printed_one page kind (network_text kind x))
      → IfErr r (BreaksOff (printed_one mid kind (network_text kind y)) b c) → IfErr r (BreaksOff (printed_lines page kind (lower ∷ upper ∷ [])) a c)
  halves-failed r page mid kind a b c x y lower upper is is_also mid_is g h =
      let second : printed_one mid kind (network_text kind y) ≡ printed_one (with_network page kind) kind (network_text kind upper) ++ [] =
      ap (λ m. printed_one m kind (network_text kind y)) mid_is ∙ ap (λ z. printed_one (with_network page kind) kind (network_text kind z)) is_also ∙ sym (append-nil _) in
      let P : Block → Type 0 = λ z. Appends a b (printed_one page kind (network_text kind z)) in
      let Q : List ℕ → Type 0 = λ t. IfErr r (BreaksOff t b c) in
      fails-later r a b c (printed_one page kind (network_text kind lower)) _ (subst P is g) (subst Q second h)

  pub half-failed : (r : Result T BlocksError) (e : BlocksError) (page : Page) (kind : BlockKind) (a b : Option (List ℕ)) (x lower upper : Block)
      → x ≡ lower → IsErrAnd r (λ y. y ≡ e) → BreaksOff (printed_one page kind (network_text kind x)) a b e → IfErr r (BreaksOff (printed_lines page kind (lower ∷ upper ∷ [])) a b)
  half-failed r e page kind a b x lower upper is err h =
      let P : Block → Type 0 = λ z. BreaksOff (printed_one page kind (network_text kind z)) a b e in
      fails-again r e (BreaksOff (printed_lines page kind (lower ∷ upper ∷ [])) a b) err (breaks-more _ _ a b e (subst P is h))

  -- the lines that are written for a block
  pub one-failed : (r : Result T BlocksError) (page : Page) (kind : BlockKind) (a b : Option (List ℕ)) (block : Block) (blocks : List Block)
      → blocks ≡ block ∷ [] → IfErr r (BreaksOff (printed_one page kind (network_text kind block)) a b) → IfErr r (BreaksOff (printed_lines page kind blocks) a b)
  one-failed r page kind a b block blocks is h =
      let P : List ℕ → Type 0 = λ t. IfErr r (BreaksOff t a b) in
      let Q : List Block → Type 0 = λ bs. IfErr r (BreaksOff (printed_lines page kind bs) a b) in
      subst Q (sym is) (subst P (sym (append-nil _)) h)

  pub two-failed : (r : Result T BlocksError) (page : Page) (kind : BlockKind) (a b : Option (List ℕ)) (others blocks : List Block)
      → blocks ≡ others → IfErr r (BreaksOff (printed_lines page kind others) a b) → IfErr r (BreaksOff (printed_lines page kind blocks) a b)
  two-failed r page kind a b others blocks is h =
      let Q : List Block → Type 0 = λ bs. IfErr r (BreaksOff (printed_lines page kind bs) a b) in
      subst Q (sym is) h

pub both-written : (syntax : Syntax) (kind : BlockKind) (block : Block) → true ≡ not (takes_all syntax) → true ≡ nat_eq (prefix_in kind block.prefix) 0
    → written_for syntax kind block ≡ lower_half block ∷ upper_half block ∷ []
both-written syntax kind block all zero = halves-of (takes_all syntax) (nat_eq (prefix_in kind block.prefix) 0) all zero
  where
    halves-of : (b c : Bool) → true ≡ not b → true ≡ c → (if b then block ∷ [] else (if c then lower_half block ∷ upper_half block ∷ [] else block ∷ [])) ≡ lower_half block ∷ upper_half block ∷ []
    halves-of true c e f = cc
    halves-of false true e f = refl
    halves-of false false e f = cc

pub alone-taken : (syntax : Syntax) (kind : BlockKind) (block : Block) → false ≡ not (takes_all syntax) → written_for syntax kind block ≡ block ∷ []
alone-taken syntax kind block all = alone (takes_all syntax) all
  where
    alone : (b : Bool) → false ≡ not b → (if b then block ∷ [] else (if nat_eq (prefix_in kind block.prefix) 0 then lower_half block ∷ upper_half block ∷ [] else block ∷ [])) ≡ block ∷ []
    alone true e = refl
    alone false e = cc

pub alone-part : (syntax : Syntax) (kind : BlockKind) (block : Block) → false ≡ nat_eq (prefix_in kind block.prefix) 0 → written_for syntax kind block ≡ block ∷ []
alone-part syntax kind block some = alone (takes_all syntax) (nat_eq (prefix_in kind block.prefix) 0) some
  where
    alone : (b c : Bool) → false ≡ c → (if b then block ∷ [] else (if c then lower_half block ∷ upper_half block ∷ [] else block ∷ [])) ≡ block ∷ []
    alone true c e = refl
    alone false true e = cc
    alone false false e = refl

-- ---- one block after another

pub syntax-with : (page p : Page) (kind : BlockKind) (xs : List Block) → p ≡ with_blocks page kind xs → p.syntax ≡ page.syntax
syntax-with page p kind xs is = ap (λ (q : Page). q.syntax) is ∙ lines-syntax page kind (flat_map (written_for page.syntax kind) xs)

pub printed-append : (page : Page) (kind : BlockKind) (xs ys : List Block) → printed page kind (xs ++ ys)
    ≡ printed page kind xs ++ printed_lines (with_blocks page kind xs) kind (flat_map (written_for page.syntax kind) ys)
printed-append page kind xs ys = rw (flat_map-append (written_for page.syntax kind) xs ys)
    (printed_lines-append page kind (flat_map (written_for page.syntax kind) xs) (flat_map (written_for page.syntax kind) ys))

-- the page with the next of some blocks
pub page-step : (page p n : Page) (kind : BlockKind) (all seen : List Block) (i : ℕ) (d : Block) → i < length all → seen ≡ all
    → p ≡ with_blocks page kind (take i all) → n ≡ with_lines p kind (written_for p.syntax kind (get_or seen i d)) → n ≡ with_blocks page kind (take (i + 1) all)
page-step page p n kind all seen i d lt same is next =
    let x : Block = get_or all i d in
    let first : with_lines p kind (written_for p.syntax kind (get_or seen i d)) ≡ with_lines p kind (written_for page.syntax kind x) =
    ap (λ (z : Syntax). with_lines p kind (written_for z kind (get_or seen i d))) (syntax-with page p kind (take i all) is)
    ∙ ap (λ (ys : List Block). with_lines p kind (written_for page.syntax kind (get_or ys i d))) same in
    let second : with_lines p kind (written_for page.syntax kind x) ≡ with_lines (with_blocks page kind (take i all)) kind (written_for page.syntax kind x) =
    ap (λ (q : Page). with_lines q kind (written_for page.syntax kind x)) is in
    let third : with_blocks page kind (take (i + 1) all) ≡ with_blocks page kind (take i all ++ x ∷ []) =
    ap (λ (ys : List Block). with_blocks page kind ys) (take_more all i d lt) in
    next ∙ first ∙ second ∙ sym (blocks-more page kind (take i all) x) ∙ sym third

-- the text of the next of some blocks
next-text : (page p : Page) (kind : BlockKind) (all seen : List Block) (i : ℕ) (d : Block) → i < length all → seen ≡ all → p ≡ with_blocks page kind (take i all)
    → printed page kind (take (i + 1) all) ≡ printed page kind (take i all) ++ printed_lines p kind (written_for p.syntax kind (get_or seen i d))
next-text page p kind all seen i d lt same is =
    let x : Block = get_or all i d in
    let first : printed_lines p kind (written_for p.syntax kind (get_or seen i d)) ≡ printed_lines p kind (written_for page.syntax kind x) =
    ap (λ (z : Syntax). printed_lines p kind (written_for z kind (get_or seen i d))) (syntax-with page p kind (take i all) is)
    ∙ ap (λ (ys : List Block). printed_lines p kind (written_for page.syntax kind (get_or ys i d))) same in
    let second : printed_lines p kind (written_for page.syntax kind x) ≡ printed_lines (with_blocks page kind (take i all)) kind (written_for page.syntax kind x) =
    ap (λ (q : Page). printed_lines q kind (written_for page.syntax kind x)) is in
    let third : printed page kind (take (i + 1) all) ≡ printed page kind (take i all ++ x ∷ []) =
    ap (λ (ys : List Block). printed page kind ys) (take_more all i d lt) in
    third ∙ printed-more page kind (take i all) x ∙ ap (λ (t : List ℕ). printed page kind (take i all) ++ t) (sym (first ∙ second))

pub text-step : (page p : Page) (kind : BlockKind) (all seen : List Block) (i : ℕ) (d : Block) (a b c : Option (List ℕ)) → i < length all → seen ≡ all
    → p ≡ with_blocks page kind (take i all) → Appends a b (printed page kind (take i all))
    → Appends b c (printed_lines p kind (written_for p.syntax kind (get_or seen i d))) → Appends a c (printed page kind (take (i + 1) all))
text-step page p kind all seen i d a b c lt same is g h =
    let P : List ℕ → Type 0 = λ t. Appends a c t in
    subst P (sym (next-text page p kind all seen i d lt same is)) (Appends-trans a b c _ _ g h)

pub step-fails : {T : Type 0} (r : Result T BlocksError) (e : BlocksError) (page p : Page) (kind : BlockKind) (all seen : List Block) (i : ℕ) (d : Block) (a b c : Option (List ℕ))
    → i < length all → seen ≡ all → p ≡ with_blocks page kind (take i all) → IsErrAnd r (λ y. y ≡ e) → Appends a b (printed page kind (take i all))
    → BreaksOff (printed_lines p kind (written_for p.syntax kind (get_or seen i d))) b c e → IfErr r (BreaksOff (printed page kind all) a c)
step-fails r e page p kind all seen i d a b c lt same is err g h =
    let P : List ℕ → Type 0 = λ t. BreaksOff t a c e in
    let some : BreaksOff (printed page kind (take (i + 1) all)) a c e = subst P (sym (next-text page p kind all seen i d lt same is)) (breaks-later _ _ a b c e g h) in
    let whole : printed page kind all ≡ printed page kind (take (i + 1) all) ++ printed_lines (with_blocks page kind (take (i + 1) all)) kind (flat_map (written_for page.syntax kind) (drop (i + 1) all)) =
    ap (λ (ys : List Block). printed page kind ys) (sym (take-append-drop (i + 1) all)) ∙ printed-append page kind (take (i + 1) all) (drop (i + 1) all) in
    fails-again r e (BreaksOff (printed page kind all) a c) err (subst P (sym whole) (breaks-more _ _ a c e some))

-- ---- what is left of a kind

pub rest-fails : {T : Type 0} (r : Result T BlocksError) (e : BlocksError) (page : Page) (kind : BlockKind) (settled waiting : List Block) (a b : Option (List ℕ)) → settled ≡ waiting
    → IsErrAnd r (λ y. y ≡ e) → BreaksOff (printed page kind settled) a b e → IfErr r (BreaksOff (printed_rest page kind waiting) a b)
rest-fails r e page kind settled waiting a b is err h =
    let P : List Block → Type 0 = λ ws. BreaksOff (printed page kind ws) a b e in
    fails-again r e (BreaksOff (printed_rest page kind waiting) a b) err (breaks-more _ _ a b e (subst P is h))

-- ---- a network that is pushed

pub change-fails : {T : Type 0} (r : Result T BlocksError) (e : BlocksError) (kind : BlockKind) (block : Block) (old : Listing) (a b : Option (List ℕ)) → IsErrAnd r (λ y. y ≡ e)
    → BreaksOff (changed_text old.page old.kind kind old.waiting) a b e → IfErr r (PushFails kind block old a b)
change-fails r e kind block old a b err h = fails-again r e (PushFails kind block old a b) err (of e h)
  where
    of : (e : BlocksError) → BreaksOff (changed_text old.page old.kind kind old.waiting) a b e → PushFails kind block old a b e
    of (Write x) h = tt
    of OutOfOrder h = absurd h
    of Memory h = inl h

-- the list with a block that is taken, once those that are settled are printed
abbrev pushed : Listing → BlockKind → Listing → Listing
pushed old kind taken = record {
  page = with_blocks (changed_page old.page old.kind kind old.waiting) kind taken.settled;
  kind = Some kind;
  waiting = taken.waiting;
  settled = taken.settled;
}

abbrev pushed_text : Listing → BlockKind → Listing → List ℕ
pushed_text old kind taken = changed_text old.page old.kind kind old.waiting ++ printed (changed_page old.page old.kind kind old.waiting) kind taken.settled

joins-on : (old mid taken : Listing) (kind : BlockKind) (block : Block) → mid.waiting ≡ changed_waiting old.kind kind old.waiting → TakesBlock kind block mid taken
    → Joins (changed_waiting old.kind kind old.waiting) block taken.settled taken.waiting
joins-on old mid taken kind block waits takes =
    let P : List Block → Type 0 = λ ws. Joins ws block taken.settled taken.waiting in
    subst P waits takes.joins

pub push-written : {T : Type 0} (r : Result T BlocksError) (kind : BlockKind) (block : Block) (old mid taken new : Listing) (a b c : Option (List ℕ)) → IsWanted old.page.kinds kind
    → mid.page ≡ changed_page old.page old.kind kind old.waiting → mid.waiting ≡ changed_waiting old.kind kind old.waiting → TakesBlock kind block mid taken
    → Appends a b (changed_text old.page old.kind kind old.waiting) → OnOk r (Appends b c (printed taken.page kind taken.settled))
    → OnOk r (new.page ≡ with_blocks taken.page kind taken.settled) → new.kind ≡ taken.kind → new.waiting ≡ taken.waiting → new.settled ≡ taken.settled
    → OnOk r (Prints (λ text. IsPushed kind block old text new) a c)
push-written (Err e) kind block old mid taken new a b c wanted page waits takes g h after same waiting settled = tt
push-written (Ok x) kind block old mid taken new a b c wanted page waits takes g h after same waiting settled =
    let on : taken.page ≡ changed_page old.page old.kind kind old.waiting = takes.page ∙ page in
    let P : List Block → Type 0 = λ ss. Joins (changed_waiting old.kind kind old.waiting) block ss taken.waiting in
    let Q : List Block → Type 0 = λ ls. Joins (changed_waiting old.kind kind old.waiting) block new.settled ls in
    let joins : Joins (changed_waiting old.kind kind old.waiting) block new.settled new.waiting =
    subst Q (sym waiting) (subst P (sym settled) (joins-on old mid taken kind block waits takes)) in
    let text : printed taken.page kind taken.settled ≡ printed (changed_page old.page old.kind kind old.waiting) kind new.settled =
    ap (λ (p : Page). printed p kind taken.settled) on ∙ ap (λ (ss : List Block). printed (changed_page old.page old.kind kind old.waiting) kind ss) (sym settled) in
    let blocks : with_blocks taken.page kind taken.settled ≡ with_blocks (changed_page old.page old.kind kind old.waiting) kind new.settled =
    ap (λ (p : Page). with_blocks p kind taken.settled) on ∙ ap (λ (ss : List Block). with_blocks (changed_page old.page old.kind kind old.waiting) kind ss) (sym settled) in (
      _,
      inl (wanted, record { joins = joins; text_is = refl; page = after ∙ blocks; at_hand = same ∙ takes.same ∙ takes.at_hand }),
      Appends-trans a b c _ _ g (subst (λ (t : List ℕ). Appends b c t) text h),
    )

pub push-fails : {T : Type 0} (r : Result T BlocksError) (kind : BlockKind) (block : Block) (old mid taken : Listing) (a b c : Option (List ℕ))
    → mid.page ≡ changed_page old.page old.kind kind old.waiting → mid.waiting ≡ changed_waiting old.kind kind old.waiting → TakesBlock kind block mid taken
    → Appends a b (changed_text old.page old.kind kind old.waiting) → IfErr r (BreaksOff (printed taken.page kind taken.settled) b c)
    → IfErr r (PushFails kind block old a c)
push-fails (Ok x) kind block old mid taken a b c page waits takes g h = tt
push-fails (Err (Write x)) kind block old mid taken a b c page waits takes g h = tt
push-fails (Err OutOfOrder) kind block old mid taken a b c page waits takes g h = absurd h
push-fails (Err Memory) kind block old mid taken a b c page waits takes g h =
    let on : printed taken.page kind taken.settled ≡ printed (changed_page old.page old.kind kind old.waiting) kind taken.settled =
    ap (λ (p : Page). printed p kind taken.settled) (takes.page ∙ page) in
    let P : List ℕ → Type 0 = λ t. BreaksOff t b c Memory in
    inr (
      pushed_text old kind taken,
      pushed old kind taken,
      record { joins = joins-on old mid taken kind block waits takes; text_is = refl; page = refl; at_hand = refl },
      breaks-later _ _ a b c Memory g (subst P on h),
    )

pub empty-of : (seen all : List Block) → seen ≡ all → true ≡ (length seen == 0) → all ≡ []
empty-of [] all same h = sym same
empty-of (x ∷ xs) all same h = grind arith
