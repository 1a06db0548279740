-- What is written of lists.
use Rattle.std.proofs.Common.{◌≡◌, ◌∙◌, ℕ, ◌-◌, ◌^◌, ◌<◌, Bool, true, false, List, [], ◌∷◌, ◌++◌, map, nat_eq, if◌then◌else◌, Option, None, Some, Result, Ok, Err, OnOk, IfErr, refl, sym, ap, subst, append_assoc, append-nil, inl, inr, arith}
use Rattle.std.proofs.lemmas.Nat.{pow_pos}
use Rattle.std.proofs.lemmas.Bool.{false≢true}
use Rattle.std.specs.List.{flat_map}
use Rattle.std.specs.Io.KnownBytes.{Appends}
use Rattle.std.proofs.KnownBytes.{Appends-trans}
use Rattle.mmdb_blocks.specs.Blocks.{IsIn, IsWithin, IsJoined}
use Rattle.mmdb_blocks.specs.Joining.{IsJoining}
use Rattle.mmdb_blocks.specs.Kinds.{IsWanted, prefix_in}
use Rattle.mmdb_blocks.specs.Lists.{Page, Listing, Pushes, IsPushed, Prints, with_rest, rest_page, changed_page, changed_waiting, is_other, finished_text, finished_page, takes_all, lower_half, upper_half, written_for, begun, beginning_left, with_network, with_lines, with_blocks, no_networks, ends_none, IsEndOf}
use Rattle.mmdb_blocks.specs.ListTexts.{kind_text, list_text, PushesAll, IsWhole}
use Rattle.mmdb_blocks.specs.Texts.{beginning_of, breaking_of, IsEnding}
use Rattle.mmdb_blocks.specs.declared.block.Block.{Block}
use Rattle.mmdb_blocks.specs.declared.kind.BlockKind.{BlockKind}
use Rattle.mmdb_blocks.specs.declared.kind.BlockKind.TheVariants.{Ipv4, Ipv6}
use Rattle.mmdb_blocks.specs.declared.kind.Kinds.{Kinds}
use Rattle.mmdb_blocks.specs.declared.list.BlocksError.{BlocksError}
use Rattle.mmdb_blocks.specs.declared.syntax.Action.{Action}
use Rattle.mmdb_blocks.specs.declared.syntax.Action.TheVariants.{Fill}
use Rattle.mmdb_blocks.specs.declared.syntax.Syntax.{Syntax}
use Rattle.mmdb_console.specs.declared.error.ProgramError.{ProgramError}
use Rattle.mmdb_console.specs.declared.error.ProgramError.TheVariants.{Arguments, Database as OfDatabase, Write, Read, NoColumn, LongHeader, OutOfOrder, EmptyList, Memory}
use Rattle.mmdb_cmd_export.specs.Gathered.{IsListedOf}
use Rattle.mmdb_cmd_export.specs.Listed.{AreFewestWanted, IsListText, HasAddress, ListFails, IsListOf, HaveOne, IsListOfFewest, ListOfFewestFails, ComesListed, ComesOfDatabase, asked_of_database, listed_of, may_be_empty_of, ArePushed, PushesListed, EndsList, IsFinished, MayEnd, EndFails, list_result, IsOfList}
use Rattle.mmdb_layout.specs.Networks.{range_bits, items_in}
use Rattle.mmdb_layout.specs.declared.condition.Condition.{Condition}
use Rattle.mmdb_net.specs.declared.network.IpNetwork.{IpNetwork}
use Rattle.mmdb_reader.specs.Enumeration.{database_walked, items_to_come}
use Rattle.mmdb_reader.specs.declared.within.Within.{Within}
use Rattle.std.specs.declared.convert.AsSlice.{Ghosts}
use Rattle.mmdb_reader.specs.File.{Database, data_section}
use Rattle.mmdb_reader.specs.Listing.{listed as leaves_listed}
use Rattle.mmdb_reader.specs.ListingLaws.{RangeWalkLists}
use Rattle.mmdb_reader.specs.Options.{default_options}
use Rattle.mmdb_query.specs.Ascending.{HaveAddresses, Ascend, ComeAscending, NetworksAscend, IsRun, IsListedWhole}
use Rattle.mmdb_query.specs.Had.{Had}
use Rattle.mmdb_query.specs.Parts.{parts_of, ComesInPart}
use Rattle.mmdb_query.specs.Taking.{Asked, ArePicked, Runs, Takes}
use Rattle.mmdb_query.specs.Walks.{Item, item_listed, section_walked, comes_alone}
use Rattle.mmdb_query.specs.declared.addresses.Addresses.{Addresses as Chosen}
use Rattle.mmdb_cmd_export.specs.declared.gathering.Adjustment.{Adjustment}
use Rattle.mmdb_cmd_export.specs.declared.task.ExportTask.{ExportTask}

-- ---- what is printed with stays

-- what a page is printed with
abbrev setup : Page → Syntax × Kinds × Action
setup page = (page.syntax, page.kinds, page.action)

either-same : (b : Bool) (page other : Page) → setup other ≡ setup page → setup (if b then page else other) ≡ setup page
either-same true page other e = refl
either-same false page other e = e

-- the page with the first network of a kind
abbrev with_first : Page → BlockKind → Page
with_first page kind = record page { has_begun = true; has_written = true; filled = page.filled ++ record { action = page.action; kind = kind } ∷ [] }

lines-same : (page : Page) (kind : BlockKind) (blocks : List Block) → setup (with_lines page kind blocks) ≡ setup page
lines-same page kind [] = refl
lines-same page kind (block ∷ blocks) = lines-same (with_network page kind) kind blocks ∙ either-same page.has_written page (with_first page kind) refl

changed-same : (page : Page) (before : Option BlockKind) (kind : BlockKind) (waiting : List Block) → setup (changed_page page before kind waiting) ≡ setup page
changed-same page None kind waiting = refl
changed-same page (Some before) kind waiting = of (is_other before kind)
  where
    of : (b : Bool) → setup (if b then with_rest page before waiting else page) ≡ setup page
    of true = lines-same page before (flat_map (written_for page.syntax before) waiting)
    of false = refl

rest-same : (page : Page) (before : Option BlockKind) (waiting : List Block) → setup (rest_page page before waiting) ≡ setup page
rest-same page None waiting = refl
rest-same page (Some before) waiting = lines-same page before (flat_map (written_for page.syntax before) waiting)

pushes-same : (kind : BlockKind) (block : Block) (old : Listing) (text : List ℕ) (new : Listing) → Pushes kind block old text new → setup new.page ≡ setup old.page
pushes-same kind block old text new h =
    let page : Page = changed_page old.page old.kind kind old.waiting in
    ap (λ (p : Page). setup p) h.page ∙ lines-same page kind (flat_map (written_for page.syntax kind) new.settled) ∙ changed-same old.page old.kind kind old.waiting

all-same : (kind : BlockKind) (blocks : List Block) (old : Listing) (text : List ℕ) (new : Listing) → PushesAll kind blocks old text new → setup new.page ≡ setup old.page
all-same kind [] old text new (same, none) = ap (λ (l : Listing). setup l.page) same
all-same kind (block ∷ blocks) old text new (mid, first, rest, one, others, is) =
    all-same kind blocks mid rest new others ∙ pushes-same kind block old first mid one

all-kinds : (kind : BlockKind) (blocks : List Block) (old : Listing) (text : List ℕ) (new : Listing) → PushesAll kind blocks old text new → new.page.kinds ≡ old.page.kinds
all-kinds kind blocks old text new all = ap (λ (s : Syntax × Kinds × Action). s.1) (all-same kind blocks old text new all)

-- ---- block after block

one-more : (kind : BlockKind) (blocks : List Block) (block : Block) (old mid new : Listing) (text more : List ℕ)
    → PushesAll kind blocks old text mid → Pushes kind block mid more new → PushesAll kind (blocks ++ block ∷ []) old (text ++ more) new
one-more kind [] block old mid new text more (same, none) one =
    (new, more, [], subst (λ (l : Listing). Pushes kind block l more new) same one, (refl, refl), ap (λ (t : List ℕ). t ++ more) none ∙ sym (append-nil more))
one-more kind (x ∷ blocks) block old mid new text more (next, first, rest, p, others, is) one =
    (next, first, rest ++ more, p, one-more kind blocks block next mid new rest more others one, ap (λ (t : List ℕ). t ++ more) is ∙ append_assoc first rest more)

pub pushed-more : (kind : BlockKind) (blocks longer : List Block) (block : Block) (old mid new : Listing) (a b c : Option (List ℕ))
    → longer ≡ blocks ++ block ∷ [] → Prints (λ text. ArePushed kind blocks old text mid) a b → Prints (λ text. IsPushed kind block mid text new) b c
    → Prints (λ text. ArePushed kind longer old text new) a c
pushed-more kind blocks longer block old mid new a b c is before next = subst (λ (bs : List Block). Prints (λ text. ArePushed kind bs old text new) a c) (sym is) (of before next)
  where
    of : Prints (λ text. ArePushed kind blocks old text mid) a b → Prints (λ text. IsPushed kind block mid text new) b c
        → Prints (λ text. ArePushed kind (blocks ++ block ∷ []) old text new) a c
    of (text, inl (wanted, all), appends) (more, inl (still, one), later) =
        (text ++ more, inl (wanted, one-more kind blocks block old mid new text more all one), Appends-trans a b c text more appends later)
    of (text, inl (wanted, all), appends) (more, inr (not_wanted, same, none), later) =
        absurd (not_wanted (subst (λ (k : Kinds). IsWanted k kind) (sym (all-kinds kind blocks old text mid all)) wanted))
    of (text, inr (not_wanted, same, none), appends) (more, inl (wanted, one), later) =
        absurd (not_wanted (subst (λ (l : Listing). IsWanted l.page.kinds kind) same wanted))
    of (text, inr (not_wanted, same, none), appends) (more, inr (still, same_too, none_too), later) =
        (text ++ more, inr (not_wanted, same_too ∙ same, ap (λ (t : List ℕ). t ++ more) none ∙ none_too), Appends-trans a b c text more appends later)

-- ---- the end

pub was-ok : (x : Unit {0}) (r : Result (Unit {0}) BlocksError) (P : Type 0) → Ok x ≡ list_result r → OnOk r P → P
was-ok x (Ok y) P e p = p
was-ok x (Err y) P e p = cc

-- what is left of the list is written, and what comes before all networks
abbrev IsLedTo : Listing → Page → Page → Option (List ℕ) → Option (List ℕ) → Option (List ℕ) → Type 0
IsLedTo list mid last a b c = Appends a b (finished_text list) × (mid ≡ finished_page list) × Appends b c (beginning_left mid) × (last ≡ begun mid)

ended : (list : Listing) (whole : Bool) (mid last : Page) (text : List ℕ) (a b c d : Option (List ℕ)) → IsLedTo list mid last a b c
    → EndsList whole (finished_page list) text → Appends c d text → Prints (IsFinished list whole) a d
ended list whole mid last text a b c d (finished, same, begins, opens) closes later =
    let front : List ℕ = finished_text list in
    let beginning : List ℕ = beginning_left (finished_page list) in
    let more : Appends b c beginning = subst (λ (p : Page). Appends b c (beginning_left p)) same begins in
    ((front ++ beginning) ++ text, (text, closes, refl), Appends-trans a c d (front ++ beginning) text (Appends-trans a b c front beginning finished more) later)

pub ends-whole : (r : Result (Unit {0}) BlocksError) (s : Result (Unit {0}) ProgramError) (list : Listing) (whole : Bool) (mid last : Page) (a b c d : Option (List ℕ))
    → whole ≡ true → s ≡ list_result r → IsLedTo list mid last a b c → OnOk r (Prints (IsEndOf last) c d) → OnOk s (Prints (IsFinished list whole) a d)
ends-whole (Err e) s list whole mid last a b c d is answer led ends = rw answer tt
ends-whole (Ok x) s list whole mid last a b c d is answer led (text, ends, later) =
    let page : last ≡ begun (finished_page list) = led.3 ∙ ap (λ (p : Page). begun p) led.1 in
    let closes : EndsList whole (finished_page list) text = subst (λ (w : Bool). EndsList w (finished_page list) text) (sym is) (subst (λ (p : Page). IsEndOf p text) page ends) in
    rw answer (ended list whole mid last text a b c d led closes later)

pub ends-broken : (r : Result (Unit {0}) BlocksError) (s : Result (Unit {0}) ProgramError) (list : Listing) (whole : Bool) (mid last : Page) (a b c d : Option (List ℕ))
    → whole ≡ false → s ≡ list_result r → IsLedTo list mid last a b c → OnOk r (Appends c d (breaking_of last.syntax)) → OnOk s (Prints (IsFinished list whole) a d)
ends-broken (Err e) s list whole mid last a b c d is answer led ends = rw answer tt
ends-broken (Ok x) s list whole mid last a b c d is answer led later =
    let text : List ℕ = breaking_of last.syntax in
    let page : last ≡ begun (finished_page list) = led.3 ∙ ap (λ (p : Page). begun p) led.1 in
    let closes : EndsList whole (finished_page list) text = subst (λ (w : Bool). EndsList w (finished_page list) text) (sym is) (ap (λ (p : Page). breaking_of p.syntax) page) in
    rw answer (ended list whole mid last text a b c d led closes later)

ends-list : (whole : Bool) (page : Page) (syntax : Syntax) (kinds : Kinds) (text : List ℕ) → setup page ≡ (syntax, kinds, Fill)
    → EndsList whole page text → EndsList whole (no_networks syntax kinds Fill).page text
ends-list false page syntax kinds text e ends = ends ∙ ap (λ (s : Syntax × Kinds × Action). breaking_of s.0) e
ends-list true page syntax kinds text e (inl (none, empty)) =
    absurd (false≢true (sym (ap (λ (s : Syntax × Kinds × Action). ends_none s.2 page.filled) e) ∙ none))
ends-list true page syntax kinds text e (inr (some, ends)) = inr (refl, subst (λ (s : Syntax × Kinds × Action). IsEnding s.0 s.1 s.2 text) e ends)

-- ---- where networks were printed

-- where a network of the kind at hand was printed, so was what comes before all networks
abbrev IsRight : Page → Type 0
IsRight page = page.has_written ≡ true → page.has_begun ≡ true

network-begun : (page : Page) (kind : BlockKind) → IsRight page → (with_network page kind).has_begun ≡ true
network-begun page kind right = of page.has_written right
  where
    of : (b : Bool) → (b ≡ true → page.has_begun ≡ true) → (if b then page else with_first page kind).has_begun ≡ true
    of true h = h refl
    of false h = refl

lines-begun : (page : Page) (kind : BlockKind) (blocks : List Block) → page.has_begun ≡ true → (with_lines page kind blocks).has_begun ≡ true
lines-begun page kind [] e = e
lines-begun page kind (block ∷ blocks) e = lines-begun (with_network page kind) kind blocks (network-begun page kind (λ _. e))

some-begun : (page : Page) (kind : BlockKind) (block : Block) (blocks : List Block) → IsRight page → (with_lines page kind (block ∷ blocks)).has_begun ≡ true
some-begun page kind block blocks right = lines-begun (with_network page kind) kind blocks (network-begun page kind right)

blocks-begun : (page : Page) (kind : BlockKind) (block : Block) (blocks : List Block) → IsRight page → (with_blocks page kind (block ∷ blocks)).has_begun ≡ true
blocks-begun page kind block blocks right = of (takes_all page.syntax) (nat_eq (prefix_in kind block.prefix) 0) (flat_map (written_for page.syntax kind) blocks)
  where
    of : (b c : Bool) (rest : List Block)
        → (with_lines page kind ((if b then block ∷ [] else (if c then lower_half block ∷ upper_half block ∷ [] else block ∷ [])) ++ rest)).has_begun ≡ true
    of true c rest = some-begun page kind block rest right
    of false true rest = some-begun page kind (lower_half block) (upper_half block ∷ rest) right
    of false false rest = some-begun page kind block rest right

lines-right : (page : Page) (kind : BlockKind) (blocks : List Block) → IsRight page → IsRight (with_lines page kind blocks)
lines-right page kind [] right = right
lines-right page kind (block ∷ blocks) right = λ _. some-begun page kind block blocks right

changed-right : (page : Page) (before : Option BlockKind) (kind : BlockKind) (waiting : List Block) → IsRight page → IsRight (changed_page page before kind waiting)
changed-right page None kind waiting right = right
changed-right page (Some before) kind waiting right = of (is_other before kind)
  where
    of : (b : Bool) → IsRight (if b then with_rest page before waiting else page)
    of true = λ e. absurd (false≢true e)
    of false = right

-- ---- blocks that wait

-- blocks wait that are those of some networks
abbrev AreJoining : List Block → Type 0
AreJoining waiting = (pushed handed : List Block) × IsJoining pushed handed waiting

nothing : IsJoining [] [] []
nothing = record {
  joined = record { covers = λ address. (λ x. x, λ x. x); each = tt; ascends = tt; apart = tt };
  sealed = refl;
}

changed-joining : (before : Option BlockKind) (kind : BlockKind) (waiting : List Block) → AreJoining waiting → AreJoining (changed_waiting before kind waiting)
changed-joining None kind waiting h = h
changed-joining (Some before) kind waiting h = of (is_other before kind)
  where
    of : (b : Bool) → AreJoining (if b then [] else waiting)
    of true = ([], [], nothing)
    of false = h

begins-within : (block : Block) → IsWithin block.first block
begins-within block = (omega arith, omega (arith, pow_pos (128 - block.prefix)))

in-last : (blocks : List Block) (block : Block) → IsIn block.first (blocks ++ block ∷ [])
in-last [] block = inl (begins-within block)
in-last (x ∷ blocks) block = inr (in-last blocks block)

-- some block waits once one was pushed
abbrev IsSome : List Block → Type 0
IsSome blocks = (first : Block) × (others : List Block) × (blocks ≡ first ∷ others)

waits : (pushed handed waiting : List Block) (block : Block) → IsJoining (pushed ++ block ∷ []) handed waiting → IsSome waiting
waits pushed handed (first ∷ others) block h = (first, others, refl)
waits pushed handed [] block h =
    let none : handed ++ [] ≡ [] = ap (λ (bs : List Block). bs ++ []) h.sealed in
    absurd (subst (λ (bs : List Block). IsIn block.first bs) none ((h.joined.covers block.first).0 (in-last pushed block)))

record IsGood (list : Listing) : Type 0 where
  right : IsRight list.page
  joining : AreJoining list.waiting

pushes-good : (kind : BlockKind) (block : Block) (old : Listing) (text : List ℕ) (new : Listing) → IsGood old → Pushes kind block old text new → IsGood new × IsSome new.waiting
pushes-good kind block old text new good h =
    let j = changed-joining old.kind kind old.waiting good.joining in
    let k : IsJoining (j.0 ++ block ∷ []) (j.1 ++ new.settled) new.waiting = h.joins.joining j.0 j.1 j.2 in
    let page : Page = changed_page old.page old.kind kind old.waiting in
    let right : IsRight new.page = subst (λ (p : Page). IsRight p) (sym h.page)
    (lines-right page kind (flat_map (written_for page.syntax kind) new.settled) (changed-right old.page old.kind kind old.waiting good.right)) in
    (record { right = right; joining = (j.0 ++ block ∷ [], j.1 ++ new.settled, k) }, waits j.0 (j.1 ++ new.settled) new.waiting block k)

finished-begun : (kind : BlockKind) (list : Listing) → IsGood list → list.kind ≡ Some kind → IsSome list.waiting → (finished_page list).has_begun ≡ true
finished-begun kind list good at_hand some =
    ap (λ (k : Option BlockKind). (rest_page list.page k list.waiting).has_begun) at_hand
    ∙ ap (λ (bs : List Block). (with_rest list.page kind bs).has_begun) some.2 ∙ blocks-begun list.page kind some.0 some.1 good.right

all-begun : (kind : BlockKind) (block : Block) (blocks : List Block) (old : Listing) (text : List ℕ) (new : Listing) → IsGood old → PushesAll kind (block ∷ blocks) old text new
    → IsGood new × ((finished_page new).has_begun ≡ true)
all-begun kind block [] old text new good (mid, first, rest, one, (same, none), is) =
    let h = pushes-good kind block old first mid good one in
    subst (λ (l : Listing). IsGood l × ((finished_page l).has_begun ≡ true)) (sym same) (h.0, finished-begun kind mid h.0 one.at_hand h.1)
all-begun kind block (next ∷ blocks) old text new good (mid, first, rest, one, others, is) =
    all-begun kind next blocks mid rest new (pushes-good kind block old first mid good one).0 others

-- there is a block of one kind or the other
abbrev some_of : List Block → List Block → Bool
some_of [] [] = false
some_of [] (block ∷ blocks) = true
some_of (block ∷ blocks) others = true

start-good : (syntax : Syntax) (kinds : Kinds) → IsGood (no_networks syntax kinds Fill)
start-good syntax kinds = record { right = λ e. absurd (false≢true e); joining = ([], [], nothing) }

has-begun : (syntax : Syntax) (kinds : Kinds) (ipv4 ipv6 : List Block) (mid new : Listing) (first second : List ℕ)
    → PushesAll Ipv4 ipv4 (no_networks syntax kinds Fill) first mid → PushesAll Ipv6 ipv6 mid second new → (finished_page new).has_begun ≡ some_of ipv4 ipv6
has-begun syntax kinds [] [] mid new first second (same, none) (same_too, none_too) = ap (λ (l : Listing). (finished_page l).has_begun) (same_too ∙ same)
has-begun syntax kinds [] (block ∷ blocks) mid new first second (same, none) others =
    (all-begun Ipv6 block blocks mid second new (subst (λ (l : Listing). IsGood l) (sym same) (start-good syntax kinds)) others).1
has-begun syntax kinds (block ∷ blocks) [] mid new first second all (same, none) =
    ap (λ (l : Listing). (finished_page l).has_begun) same ∙ (all-begun Ipv4 block blocks (no_networks syntax kinds Fill) first mid (start-good syntax kinds) all).1
has-begun syntax kinds (block ∷ blocks) (next ∷ more) mid new first second all others =
    (all-begun Ipv6 next more mid second new (all-begun Ipv4 block blocks (no_networks syntax kinds Fill) first mid (start-good syntax kinds) all).0 others).1

begun-left : (page : Page) (b : Bool) → page.has_begun ≡ b → beginning_left page ≡ (if b then [] else beginning_of page.syntax page.kinds)
begun-left page b e = ap (λ (c : Bool). if c then [] else beginning_of page.syntax page.kinds) e

-- ---- the text

-- what comes before all networks, and what is printed of both kinds
with-beginning : (syntax : Syntax) (kinds : Kinds) (ipv4 ipv6 : List Block) (text left : List ℕ)
    → text ≡ list_text (no_networks syntax kinds Fill).page ipv4 ipv6 → left ≡ (if some_of ipv4 ipv6 then [] else beginning_of syntax kinds)
    → text ++ left ≡ beginning_of syntax kinds ++ kind_text syntax Ipv4 Fill ipv4 ++ kind_text syntax Ipv6 Fill ipv6
with-beginning syntax kinds [] [] text left is rest =
    let b : List ℕ = beginning_of syntax kinds in
    ap (λ (t : List ℕ). t ++ left) is ∙ rest ∙ sym (append-nil (b ++ []) ∙ append-nil b)
with-beginning syntax kinds [] (block ∷ blocks) text left is rest =
    let b : List ℕ = beginning_of syntax kinds in
    let k : List ℕ = kind_text syntax Ipv6 Fill (block ∷ blocks) in
    ap (λ (t : List ℕ). t ++ left) is ∙ ap (λ (t : List ℕ). (b ++ k) ++ t) rest ∙ append-nil (b ++ k) ∙ ap (λ (t : List ℕ). t ++ k) (sym (append-nil b))
with-beginning syntax kinds (block ∷ blocks) ipv6 text left is rest =
    let k : List ℕ = (beginning_of syntax kinds ++ kind_text syntax Ipv4 Fill (block ∷ blocks)) ++ kind_text syntax Ipv6 Fill ipv6 in
    ap (λ (t : List ℕ). t ++ left) is ∙ ap (λ (t : List ℕ). k ++ t) rest ∙ append-nil k

abbrev LawOfFewest : Type 0
LawOfFewest = (ipv4 ipv6 : List Block) (old mid new : Listing) (first second : List ℕ) → old.kind ≡ None → old.waiting ≡ [] → old.page.has_written ≡ false
    → PushesAll Ipv4 ipv4 old first mid → PushesAll Ipv6 ipv6 mid second new → IsWhole old.page ipv4 ipv6 ((first ++ second) ++ finished_text new)

abbrev LawOfUnique : Type 0
LawOfUnique = (blocks some other : List Block) → IsJoined blocks some → IsJoined blocks other → some ≡ other

-- the joined blocks themselves are printed
list-printed : (syntax : Syntax) (kinds : Kinds) (ipv4 ipv6 : List Block) (mid new : Listing) (first second : List ℕ) → LawOfFewest → LawOfUnique
    → PushesAll Ipv4 ipv4 (no_networks syntax kinds Fill) first mid → PushesAll Ipv6 ipv6 mid second new → IsJoined ipv4 ipv4 → IsJoined ipv6 ipv6
    → (first ++ second) ++ finished_text new ≡ list_text (no_networks syntax kinds Fill).page ipv4 ipv6
list-printed syntax kinds ipv4 ipv6 mid new first second fewest unique all others joined_ipv4 joined_ipv6 =
    let page : Page = (no_networks syntax kinds Fill).page in
    let whole : IsWhole page ipv4 ipv6 ((first ++ second) ++ finished_text new) = fewest ipv4 ipv6 (no_networks syntax kinds Fill) mid new first second refl refl refl all others in
    whole.text_is ∙ ap (λ (bs : List Block). list_text page bs whole.fewest_ipv6) (unique ipv4 whole.fewest_ipv4 ipv4 whole.ipv4_joined joined_ipv4)
    ∙ ap (λ (bs : List Block). list_text page ipv4 bs) (unique ipv6 whole.fewest_ipv6 ipv6 whole.ipv6_joined joined_ipv6)

-- ---- addresses

module _ (kinds : Kinds) (chosen : Chosen) (adjustment : Adjustment) where
  are-joined : (kind : BlockKind) (blocks : List Block) → AreFewestWanted kinds kind chosen adjustment blocks → IsJoined blocks blocks
  are-joined kind blocks (inl (wanted, are)) = are.fewest
  are-joined kind blocks (inr (not_wanted, none)) = subst (λ (bs : List Block). IsJoined bs bs) (sym none) nothing.joined

  of-block : (kind : BlockKind) (block : Block) (blocks : List Block) → AreFewestWanted kinds kind chosen adjustment (block ∷ blocks) → HasAddress kinds chosen adjustment
  of-block kind block blocks (inl (wanted, are)) =
      let small : block.first < 2 ^ 128 = are.fewest.each.0.first in
      (kind, block.first, wanted, small, (are.exact block.first small).0 (inl (begins-within block)))
  of-block kind block blocks (inr (not_wanted, none)) = cc

  pub some-address : (ipv4 ipv6 : List Block) → AreFewestWanted kinds Ipv4 chosen adjustment ipv4 → AreFewestWanted kinds Ipv6 chosen adjustment ipv6
      → some_of ipv4 ipv6 ≡ true → HasAddress kinds chosen adjustment
  some-address [] [] of_ipv4 of_ipv6 e = absurd (false≢true e)
  some-address [] (block ∷ blocks) of_ipv4 of_ipv6 e = of-block Ipv6 block blocks of_ipv6
  some-address (block ∷ blocks) ipv6 of_ipv4 of_ipv6 e = of-block Ipv4 block blocks of_ipv4

  not-listed : (kind : BlockKind) (address : ℕ) → AreFewestWanted kinds kind chosen adjustment [] → IsWanted kinds kind → address < 2 ^ 128 → ¬ IsListedOf kind chosen adjustment address
  not-listed kind address (inl (wanted, are)) still small listed = absurd ((are.exact address small).1 listed)
  not-listed kind address (inr (not_wanted, none)) wanted small listed = not_wanted wanted

  pub no-address : AreFewestWanted kinds Ipv4 chosen adjustment [] → AreFewestWanted kinds Ipv6 chosen adjustment [] → ¬ HasAddress kinds chosen adjustment
  no-address of_ipv4 of_ipv6 (kind, address, wanted, small, listed) = not-listed kind address (of kind) wanted small listed
    where
      of : (k : BlockKind) → AreFewestWanted kinds k chosen adjustment []
      of Ipv4 = of_ipv4
      of Ipv6 = of_ipv6

-- ---- a whole list

pub kinds-kept : (syntax : Syntax) (kinds : Kinds) (chosen : Chosen) (adjustment : Adjustment) (old mid : Listing) (a b : Option (List ℕ)) → old ≡ no_networks syntax kinds Fill
    → Prints (λ text. PushesListed kinds Ipv4 chosen adjustment old text mid) a b → mid.page.kinds ≡ kinds
kinds-kept syntax kinds chosen adjustment old mid a b start f = all-kinds Ipv4 f.1.0 old f.0 mid f.1.2 ∙ ap (λ (l : Listing). l.page.kinds) start

module _ (syntax : Syntax) (kinds : Kinds) (chosen : Chosen) (adjustment : Adjustment) (old mid new : Listing) (a b c : Option (List ℕ)) where
  -- the blocks of both kinds were pushed to a list without networks
  pub record IsFilled : Type 0 where
    pub start : old ≡ no_networks syntax kinds Fill
    pub of_ipv4 : Prints (λ text. PushesListed kinds Ipv4 chosen adjustment old text mid) a b
    pub of_ipv6 : Prints (λ text. PushesListed kinds Ipv6 chosen adjustment mid text new) b c

  -- which blocks these are, and what was printed of them
  record IsDone : Type 0 where
    ipv4 : List Block
    ipv6 : List Block
    text : List ℕ
    ipv4_is : AreFewestWanted kinds Ipv4 chosen adjustment ipv4
    ipv6_is : AreFewestWanted kinds Ipv6 chosen adjustment ipv6
    printed : text ++ finished_text new ≡ list_text (no_networks syntax kinds Fill).page ipv4 ipv6
    same : setup (finished_page new) ≡ (syntax, kinds, Fill)
    begun_if : (finished_page new).has_begun ≡ some_of ipv4 ipv6
    written : Appends a c text

  is-done : LawOfFewest → LawOfUnique → IsFilled → IsDone
  is-done fewest unique filled =
      let f = filled.of_ipv4 in
      let s = filled.of_ipv6 in
      let ipv4 : List Block = f.1.0 in
      let ipv6 : List Block = s.1.0 in
      let all : PushesAll Ipv4 ipv4 (no_networks syntax kinds Fill) f.0 mid = subst (λ (l : Listing). PushesAll Ipv4 ipv4 l f.0 mid) filled.start f.1.2 in
      let others : PushesAll Ipv6 ipv6 mid s.0 new = s.1.2 in
      record {
        ipv4 = ipv4;
        ipv6 = ipv6;
        text = f.0 ++ s.0;
        ipv4_is = f.1.1;
        ipv6_is = s.1.1;
        printed = list-printed syntax kinds ipv4 ipv6 mid new f.0 s.0 fewest unique all others
            (are-joined kinds chosen adjustment Ipv4 ipv4 f.1.1) (are-joined kinds chosen adjustment Ipv6 ipv6 s.1.1);
        same = rest-same new.page new.kind new.waiting ∙ all-same Ipv6 ipv6 mid s.0 new others ∙ all-same Ipv4 ipv4 (no_networks syntax kinds Fill) f.0 mid all;
        begun_if = has-begun syntax kinds ipv4 ipv6 mid new f.0 s.0 all others;
        written = Appends-trans a b c f.0 s.0 f.2 s.2;
      }

  module _ (fewest : LawOfFewest) (unique : LawOfUnique) (filled : IsFilled) where
    -- what is written of a list that is ended
    pub list-is-text : (d : Option (List ℕ)) (r : Result (Unit {0}) ProgramError) (whole : Bool) → OnOk r (Prints (IsFinished new whole) c d)
        → OnOk r (Prints (IsListText syntax kinds chosen adjustment whole) a d)
    list-is-text d (Err e) whole h = tt
    list-is-text d (Ok x) whole (all, (ending, closes, is), appends) =
        let done : IsDone = is-done fewest unique filled in
        let rest : List ℕ = finished_text new in
        let left : List ℕ = beginning_left (finished_page new) in
        let same_left : left ≡ (if some_of done.ipv4 done.ipv6 then [] else beginning_of syntax kinds) =
        begun-left (finished_page new) (some_of done.ipv4 done.ipv6) done.begun_if
        ∙ ap (λ (s : Syntax × Kinds × Action). if some_of done.ipv4 done.ipv6 then [] else beginning_of s.0 s.1) done.same in
        let text_is : done.text ++ all ≡ ((beginning_of syntax kinds ++ kind_text syntax Ipv4 Fill done.ipv4) ++ kind_text syntax Ipv6 Fill done.ipv6) ++ ending =
        ap (λ (t : List ℕ). done.text ++ t) is ∙ sym (append_assoc done.text (rest ++ left) ending)
        ∙ ap (λ (t : List ℕ). t ++ ending) (sym (append_assoc done.text rest left)
        ∙ with-beginning syntax kinds done.ipv4 done.ipv6 (done.text ++ rest) left done.printed same_left) in (
          done.text ++ all,
          record {
            ipv4 = done.ipv4;
            ipv6 = done.ipv6;
            ending = ending;
            ipv4_is = done.ipv4_is;
            ipv6_is = done.ipv6_is;
            ends = ends-list whole (finished_page new) syntax kinds ending done.same closes;
            text_is = text_is;
          },
          Appends-trans a c d done.text all done.written appends,
        )

    pub has-address : (r : Result (Unit {0}) ProgramError) (may wanted : Bool) → may ≡ wanted → OnOk r (MayEnd new may) → OnOk r (wanted ≡ false → HasAddress kinds chosen adjustment)
    has-address (Err e) may wanted is h = tt
    has-address (Ok x) may wanted is (inl allowed) = λ not_allowed. absurd (false≢true (sym not_allowed ∙ sym is ∙ allowed))
    has-address (Ok x) may wanted is (inr has_begun) = λ _.
        let done : IsDone = is-done fewest unique filled in
        some-address kinds chosen adjustment done.ipv4 done.ipv6 done.ipv4_is done.ipv6_is (sym done.begun_if ∙ has_begun)

    -- nothing was written where there are no networks
    empty-fails : (d : Option (List ℕ)) (ipv4 ipv6 : List Block) (text : List ℕ) → AreFewestWanted kinds Ipv4 chosen adjustment ipv4 → AreFewestWanted kinds Ipv6 chosen adjustment ipv6
        → some_of ipv4 ipv6 ≡ false → text ++ finished_text new ≡ list_text (no_networks syntax kinds Fill).page ipv4 ipv6 → Appends a c text → Appends c d (finished_text new)
        → ¬ HasAddress kinds chosen adjustment × Appends a d []
    empty-fails d [] [] text of_ipv4 of_ipv6 e printed before later = (
      no-address kinds chosen adjustment of_ipv4 of_ipv6,
      subst (λ (t : List ℕ). Appends a d t) printed (Appends-trans a c d text (finished_text new) before later),
    )
    empty-fails d [] (block ∷ blocks) text of_ipv4 of_ipv6 e printed before later = absurd (false≢true (sym e))
    empty-fails d (block ∷ blocks) ipv6 text of_ipv4 of_ipv6 e printed before later = absurd (false≢true (sym e))

    fails : (d : Option (List ℕ)) (task : ExportTask) (may : Bool) (e : ProgramError) → task.kinds ≡ kinds → may ≡ may_be_empty_of task → EndFails new may c d e → ListFails task chosen adjustment a d e
    fails d task may (Write e) same is h = tt
    fails d task may OutOfOrder same is h = tt
    fails d task may Memory same is h = tt
    fails d task may EmptyList same is (not_allowed, not_begun, later) =
        let done : IsDone = is-done fewest unique filled in
        let h = empty-fails d done.ipv4 done.ipv6 done.text done.ipv4_is done.ipv6_is (sym done.begun_if ∙ not_begun) done.printed done.written later in (
          sym is ∙ not_allowed,
          subst (λ (k : Kinds). ¬ HasAddress k chosen adjustment) (sym same) h.0,
          h.1,
        )
    fails d task may (Arguments x) same is h = absurd h
    fails d task may (OfDatabase x) same is h = absurd h
    fails d task may (Read x) same is h = absurd h
    fails d task may (NoColumn x y) same is h = absurd h
    fails d task may LongHeader same is h = absurd h

    pub list-fails : (d : Option (List ℕ)) (r : Result (Unit {0}) ProgramError) (task : ExportTask) (may : Bool) → task.kinds ≡ kinds → may ≡ may_be_empty_of task
        → IfErr r (EndFails new may c d) → IfErr r (ListFails task chosen adjustment a d)
    list-fails d (Ok x) task may same is h = tt
    list-fails d (Err e) task may same is h = fails d task may e same is h

-- ---- a list that is written while networks come

pub list-written : (comes : List Item → Type 0) (a : Asked Listing) (syntax : Syntax) (kinds : Kinds) (old new : Listing) (unread : ℕ) (whole : Bool) (r : Result (Unit {0}) ProgramError)
    (before at after : Option (List ℕ)) → old ≡ no_networks syntax kinds Fill → whole ≡ nat_eq unread 0 → Takes comes a old new before at unread
    → OnOk r (Prints (IsFinished new whole) at after) → OnOk r (Prints (IsListOf comes a syntax kinds) before after)
list-written comes a syntax kinds old new unread whole (Ok x) before at after start is takes (ending, ended, written) = (
  takes.text ++ ending,
  record {
    items = takes.items;
    put = takes.put;
    unread = unread;
    lines = takes.text;
    list = new;
    ending = ending;
    come = takes.come;
    picked = takes.picked;
    ran = subst (λ (l : Listing). Runs a.puts takes.put l takes.text new) start takes.ran;
    ended = subst (λ (w : Bool). IsFinished new w ending) is ended;
    text_is = refl;
  },
  Appends-trans before at after takes.text ending takes.written written,
)
list-written comes a syntax kinds old new unread whole (Err e) before at after start is takes h = tt

-- ---- a list of networks that ascend

-- there are blocks where there are those that have their addresses
same-some : (ipv4 ipv6 others more : List Block) → IsJoined ipv4 others → IsJoined ipv6 more → some_of ipv4 ipv6 ≡ some_of others more
same-some [] [] [] [] of_ipv4 of_ipv6 = refl
same-some [] [] [] (block ∷ more) of_ipv4 of_ipv6 = absurd ((of_ipv6.covers block.first).1 (inl (begins-within block)))
same-some [] [] (block ∷ others) more of_ipv4 of_ipv6 = absurd ((of_ipv4.covers block.first).1 (inl (begins-within block)))
same-some [] (block ∷ ipv6) [] [] of_ipv4 of_ipv6 = absurd ((of_ipv6.covers block.first).0 (inl (begins-within block)))
same-some [] (block ∷ ipv6) [] (next ∷ more) of_ipv4 of_ipv6 = refl
same-some [] (block ∷ ipv6) (next ∷ others) more of_ipv4 of_ipv6 = absurd ((of_ipv4.covers next.first).1 (inl (begins-within next)))
same-some (block ∷ ipv4) ipv6 [] more of_ipv4 of_ipv6 = absurd ((of_ipv4.covers block.first).0 (inl (begins-within block)))
same-some (block ∷ ipv4) ipv6 (next ∷ others) more of_ipv4 of_ipv6 = refl

joined-itself : (blocks joined : List Block) → IsJoined blocks joined → IsJoined joined joined
joined-itself blocks joined is = record { covers = λ address. ((λ x. x), (λ x. x)); each = is.each; ascends = is.ascends; apart = is.apart }

abbrev pub LawOfAscending : Asked Listing → Type 0
LawOfAscending a = (items : List Item) (put : List Had) (unread : ℕ) (old new : Listing) (text : List ℕ) → IsRun a items put unread old text new → IsListedWhole put old text new

-- networks have an address where there are blocks of them
some-put : (kinds : Kinds) (put : List Had) (ipv4 ipv6 : List Block) → HaveAddresses kinds Ipv4 put ipv4 → HaveAddresses kinds Ipv6 put ipv6 → IsJoined ipv4 ipv4 → IsJoined ipv6 ipv6
    → some_of ipv4 ipv6 ≡ true → HaveOne kinds put
some-put kinds put [] [] exact_ipv4 exact_ipv6 of_ipv4 of_ipv6 e = absurd (false≢true e)
some-put kinds put [] (block ∷ ipv6) exact_ipv4 exact_ipv6 of_ipv4 of_ipv6 e =
    let small : block.first < 2 ^ 128 = of_ipv6.each.0.first in
    let there = (exact_ipv6 block.first small).0 (inl (begins-within block)) in (Ipv6, block.first, there.0, small, there.1)
some-put kinds put (block ∷ ipv4) ipv6 exact_ipv4 exact_ipv6 of_ipv4 of_ipv6 e =
    let small : block.first < 2 ^ 128 = of_ipv4.each.0.first in
    let there = (exact_ipv4 block.first small).0 (inl (begins-within block)) in (Ipv4, block.first, there.0, small, there.1)

none-put : (kinds : Kinds) (put : List Had) → HaveAddresses kinds Ipv4 put [] → HaveAddresses kinds Ipv6 put [] → ¬ HaveOne kinds put
none-put kinds put exact_ipv4 exact_ipv6 (Ipv4, address, wanted, small, is) = (exact_ipv4 address small).1 (wanted, is)
none-put kinds put exact_ipv4 exact_ipv6 (Ipv6, address, wanted, small, is) = (exact_ipv6 address small).1 (wanted, is)

module _ (comes : List Item → Type 0) (a : Asked Listing) (syntax : Syntax) (kinds : Kinds) (new : Listing) where
  -- what was printed before all networks
  fewest-begun : (put : List Had) (text : List ℕ) (w : IsListedWhole put (no_networks syntax kinds Fill) text new)
      → (finished_page new).has_begun ≡ some_of w.whole.fewest_ipv4 w.whole.fewest_ipv6
  fewest-begun put text w =
      let o = w.in_order in
      has-begun syntax kinds o.ipv4 o.ipv6 o.mid new o.first o.second o.ipv4_pushed o.ipv6_pushed
      ∙ same-some o.ipv4 o.ipv6 w.whole.fewest_ipv4 w.whole.fewest_ipv6 w.whole.ipv4_joined w.whole.ipv6_joined

  fewest-setup : (put : List Had) (text : List ℕ) → IsListedWhole put (no_networks syntax kinds Fill) text new → setup (finished_page new) ≡ (syntax, kinds, Fill)
  fewest-setup put text w =
      let o = w.in_order in
      rest-same new.page new.kind new.waiting ∙ all-same Ipv6 o.ipv6 o.mid o.second new o.ipv6_pushed ∙ all-same Ipv4 o.ipv4 (no_networks syntax kinds Fill) o.first o.mid o.ipv4_pushed

  -- what was printed of networks, and what ends the list
  fewest-text : (put : List Had) (text all ending : List ℕ) → all ≡ finished_text new ++ beginning_left (finished_page new) ++ ending → (w : IsListedWhole put (no_networks syntax kinds Fill) text new)
      → text ++ all ≡ beginning_of syntax kinds ++ kind_text syntax Ipv4 Fill w.whole.fewest_ipv4 ++ kind_text syntax Ipv6 Fill w.whole.fewest_ipv6 ++ ending
  fewest-text put text all ending is w =
      let ipv4 : List Block = w.whole.fewest_ipv4 in
      let ipv6 : List Block = w.whole.fewest_ipv6 in
      let rest : List ℕ = finished_text new in
      let left : List ℕ = beginning_left (finished_page new) in
      let same_left : left ≡ (if some_of ipv4 ipv6 then [] else beginning_of syntax kinds) =
      begun-left (finished_page new) (some_of ipv4 ipv6) (fewest-begun put text w)
      ∙ ap (λ (s : Syntax × Kinds × Action). if some_of ipv4 ipv6 then [] else beginning_of s.0 s.1) (fewest-setup put text w) in
      ap (λ (t : List ℕ). text ++ t) is ∙ sym (append_assoc text (rest ++ left) ending)
      ∙ ap (λ (t : List ℕ). t ++ ending) (sym (append_assoc text rest left) ∙ with-beginning syntax kinds ipv4 ipv6 (text ++ rest) left w.whole.text_is same_left)

  ipv4-fewest : (put : List Had) (text : List ℕ) (w : IsListedWhole put (no_networks syntax kinds Fill) text new) → IsJoined w.whole.fewest_ipv4 w.whole.fewest_ipv4
  ipv4-fewest put text w = joined-itself w.in_order.ipv4 w.whole.fewest_ipv4 w.whole.ipv4_joined

  ipv6-fewest : (put : List Had) (text : List ℕ) (w : IsListedWhole put (no_networks syntax kinds Fill) text new) → IsJoined w.whole.fewest_ipv6 w.whole.fewest_ipv6
  ipv6-fewest put text w = joined-itself w.in_order.ipv6 w.whole.fewest_ipv6 w.whole.ipv6_joined

  fewest-some : (put : List Had) (text : List ℕ) (may : Bool) → IsListedWhole put (no_networks syntax kinds Fill) text new → MayEnd new may → may ≡ false → HaveOne kinds put
  fewest-some put text may w (inl allowed) not_allowed = absurd (false≢true (sym not_allowed ∙ allowed))
  fewest-some put text may w (inr begun) not_allowed =
      some-put kinds put w.whole.fewest_ipv4 w.whole.fewest_ipv6 w.ipv4_exact w.ipv6_exact (ipv4-fewest put text w) (ipv6-fewest put text w) (sym (fewest-begun put text w) ∙ begun)

  -- without blocks nothing was printed
  none-printed : (put : List Had) (ipv4 ipv6 : List Block) (text : List ℕ) → HaveAddresses kinds Ipv4 put ipv4 → HaveAddresses kinds Ipv6 put ipv6 → some_of ipv4 ipv6 ≡ false
      → text ≡ list_text (no_networks syntax kinds Fill).page ipv4 ipv6 → ¬ HaveOne kinds put × (text ≡ [])
  none-printed put [] [] text exact_ipv4 exact_ipv6 e is = (none-put kinds put exact_ipv4 exact_ipv6, is)
  none-printed put [] (block ∷ ipv6) text exact_ipv4 exact_ipv6 e is = absurd (false≢true (sym e))
  none-printed put (block ∷ ipv4) ipv6 text exact_ipv4 exact_ipv6 e is = absurd (false≢true (sym e))

  module _ (old : Listing) (unread : ℕ) (before at : Option (List ℕ)) (start : old ≡ no_networks syntax kinds Fill) (law : LawOfAscending a) (takes : Takes comes a old new before at unread) where
    listed-whole : ComeAscending comes → IsListedWhole takes.put (no_networks syntax kinds Fill) takes.text new
    listed-whole ascending = law takes.items takes.put unread (no_networks syntax kinds Fill) new takes.text (record {
      ascend = ascending takes.items takes.come;
      picked = takes.picked;
      ran = subst (λ (l : Listing). Runs a.puts takes.put l takes.text new) start takes.ran;
      none_at_hand = refl;
      none_waits = refl;
      none_written = refl;
    })

    pub list-of-fewest : (whole may : Bool) (r : Result (Unit {0}) ProgramError) (after : Option (List ℕ)) → whole ≡ nat_eq unread 0 → OnOk r (Prints (IsFinished new whole) at after)
        → OnOk r (MayEnd new may) → OnOk r (ComeAscending comes → Prints (IsListOfFewest comes a syntax kinds may) before after)
    list-of-fewest whole may (Ok x) after is (all, (ending, closes, e), written) may_end = λ ascending.
        let w = listed-whole ascending in
        let closed : EndsList whole (no_networks syntax kinds Fill).page ending = ends-list whole (finished_page new) syntax kinds ending (fewest-setup takes.put takes.text w) closes in (
          takes.text ++ all,
          record {
            items = takes.items;
            put = takes.put;
            unread = unread;
            ipv4 = w.whole.fewest_ipv4;
            ipv6 = w.whole.fewest_ipv6;
            ending = ending;
            come = takes.come;
            picked = takes.picked;
            ipv4_exact = w.ipv4_exact;
            ipv6_exact = w.ipv6_exact;
            ipv4_fewest = ipv4-fewest takes.put takes.text w;
            ipv6_fewest = ipv6-fewest takes.put takes.text w;
            ends = subst (λ (b : Bool). EndsList b (no_networks syntax kinds Fill).page ending) is closed;
            text_is = fewest-text takes.put takes.text all ending e w;
            not_empty = fewest-some takes.put takes.text may w may_end;
          },
          Appends-trans before at after takes.text all takes.written written,
        )
    list-of-fewest whole may (Err e) after is h may_end = tt

    empty-list : (may : Bool) (after : Option (List ℕ)) → EndFails new may at after EmptyList → ComeAscending comes → ListOfFewestFails comes a kinds may before after EmptyList
    empty-list may after (not_allowed, not_begun, later) ascending =
        let w = listed-whole ascending in
        let none = none-printed takes.put w.whole.fewest_ipv4 w.whole.fewest_ipv6 (takes.text ++ finished_text new) w.ipv4_exact w.ipv6_exact
        (sym (fewest-begun takes.put takes.text w) ∙ not_begun) w.whole.text_is in (
          not_allowed,
          record { items = takes.items; put = takes.put; unread = unread; come = takes.come; picked = takes.picked; none = none.0 },
          subst (λ (t : List ℕ). Appends before after t) none.1 (Appends-trans before at after takes.text (finished_text new) takes.written later),
        )

    end-fails : (may : Bool) (after : Option (List ℕ)) (e : ProgramError) → EndFails new may at after e → ComeAscending comes → ListOfFewestFails comes a kinds may before after e
    end-fails may after EmptyList h = empty-list may after h
    end-fails may after Memory h = λ ascending. tt
    end-fails may after (Write e) h = λ ascending. tt
    end-fails may after OutOfOrder h = absurd h
    end-fails may after (Arguments x) h = absurd h
    end-fails may after (OfDatabase x) h = absurd h
    end-fails may after (Read x) h = absurd h
    end-fails may after (NoColumn x y) h = absurd h
    end-fails may after LongHeader h = absurd h

    pub fewest-fails : (may : Bool) (r : Result (Unit {0}) ProgramError) (after : Option (List ℕ)) → IfErr r (EndFails new may at after)
        → IfErr r (λ e. ComeAscending comes → ListOfFewestFails comes a kinds may before after e)
    fewest-fails may (Ok x) after h = tt
    fewest-fails may (Err e) after h = end-fails may after e h

-- an error of a query is one of these
pub query-fails : (comes : List Item → Type 0) (a : Asked Listing) (kinds : Kinds) (may : Bool) (before after : Option (List ℕ)) (e : ProgramError) → IsOfList e
    → ListOfFewestFails comes a kinds may before after e
query-fails comes a kinds may before after OutOfOrder is = tt
query-fails comes a kinds may before after Memory is = tt
query-fails comes a kinds may before after (Write e) is = tt
query-fails comes a kinds may before after EmptyList is = absurd is
query-fails comes a kinds may before after (Arguments x) is = absurd is
query-fails comes a kinds may before after (OfDatabase x) is = absurd is
query-fails comes a kinds may before after (Read x) is = absurd is
query-fails comes a kinds may before after (NoColumn x y) is = absurd is
query-fails comes a kinds may before after LongHeader is = absurd is

-- ---- one database

-- a walk that hands out what is listed of a range of a database
pub record IsOfDatabase (db : Database) (range : Option IpNetwork) (comes : List Item → Type 0) (s : List (List ℕ)) : Type 0 where
  pub ascend : NetworksAscend
  pub lists : RangeWalkLists
  pub are : (items : List Item) → comes items → ComesListed db range items
  pub section : s ≡ data_section db ∷ []

module _ (db : Database) (range : Option IpNetwork) (kinds : Kinds) (comes : List Item → Type 0) (s : List (List ℕ)) (of : IsOfDatabase db range comes s) where
  come-ascending : ComeAscending (ComesInPart kinds range comes)
  come-ascending parts (items, come, is) =
      let bits = range_bits db range in
      let there = of.ascend db default_options bits (leaves_listed db default_options bits) kinds range (of.lists db default_options bits) in
      subst Ascend (sym (is ∙ ap (parts_of kinds range) (of.are items come))) there

  come-of : (items : List Item) → ComesInPart kinds range comes items → ComesOfDatabase db range kinds items
  come-of items (own, come, is) = (own, of.are own come, is)

  module _ (conditions : List Condition) where
    abbrev of_walk : Asked Listing
    of_walk = listed_of conditions s

    picked-of : (items : List Item) (put : List Had) (unread : ℕ) → ArePicked of_walk items put unread → ArePicked (asked_of_database conditions db) items put unread
    picked-of items put unread = subst (λ (t : List (List ℕ)). ArePicked (listed_of conditions t) items put unread) of.section

    pub written-of : (wanted : Kinds) (syntax : Syntax) (may : Bool) (r : Result (Unit {0}) ProgramError) (before after : Option (List ℕ))
        → OnOk r (ComeAscending (ComesInPart kinds range comes) → Prints (IsListOfFewest (ComesInPart kinds range comes) of_walk syntax wanted may) before after)
        → OnOk r (Prints (IsListOfFewest (ComesOfDatabase db range kinds) (asked_of_database conditions db) syntax wanted may) before after)
    written-of wanted syntax may (Err e) before after h = tt
    written-of wanted syntax may (Ok x) before after h =
        let w = h come-ascending in
        let is = w.1 in (
          w.0,
          record {
            items = is.items;
            put = is.put;
            unread = is.unread;
            ipv4 = is.ipv4;
            ipv6 = is.ipv6;
            ending = is.ending;
            come = come-of is.items is.come;
            picked = picked-of is.items is.put is.unread is.picked;
            ipv4_exact = is.ipv4_exact;
            ipv6_exact = is.ipv6_exact;
            ipv4_fewest = is.ipv4_fewest;
            ipv6_fewest = is.ipv6_fewest;
            ends = is.ends;
            text_is = is.text_is;
            not_empty = is.not_empty;
          },
          w.2,
        )

    failed-of : (wanted : Kinds) (may : Bool) (before after : Option (List ℕ)) (e : ProgramError)
        → ListOfFewestFails (ComesInPart kinds range comes) of_walk wanted may before after e
        → ListOfFewestFails (ComesOfDatabase db range kinds) (asked_of_database conditions db) wanted may before after e
    failed-of wanted may before after EmptyList (not_allowed, is, none) = (
      not_allowed,
      record {
        items = is.items;
        put = is.put;
        unread = is.unread;
        come = come-of is.items is.come;
        picked = picked-of is.items is.put is.unread is.picked;
        none = is.none;
      },
      none,
    )
    failed-of wanted may before after OutOfOrder h = tt
    failed-of wanted may before after Memory h = tt
    failed-of wanted may before after (Write x) h = tt
    failed-of wanted may before after (Arguments x) h = absurd h
    failed-of wanted may before after (OfDatabase x) h = h
    failed-of wanted may before after (Read x) h = absurd h
    failed-of wanted may before after (NoColumn x y) h = absurd h
    failed-of wanted may before after LongHeader h = absurd h

    pub fails-of : (wanted : Kinds) (may : Bool) (r : Result (Unit {0}) ProgramError) (before after : Option (List ℕ))
        → IfErr r (λ e. ComeAscending (ComesInPart kinds range comes) → ListOfFewestFails (ComesInPart kinds range comes) of_walk wanted may before after e)
        → IfErr r (ListOfFewestFails (ComesOfDatabase db range kinds) (asked_of_database conditions db) wanted may before after)
    fails-of wanted may (Ok x) before after h = tt
    fails-of wanted may (Err e) before after h = failed-of wanted may before after e (h come-ascending)

module _ {S : Type 0} {G : Ghosts S ℕ} where
  pub of-walk : (db : Database) (range : Option IpNetwork) (w : Within S G) → NetworksAscend → RangeWalkLists → database_walked w ≡ db → items_to_come w ≡ items_in db range
      → IsOfDatabase db range (comes_alone w) (section_walked w)
  of-walk db range w ascend lists walked listed = record {
    ascend = ascend;
    lists = lists;
    are = λ items come. come ∙ ap (λ (d : Database). map (item_listed d) (items_to_come w)) walked ∙ ap (map (item_listed db)) listed;
    section = ap (λ (d : Database). data_section d ∷ []) walked;
  }
