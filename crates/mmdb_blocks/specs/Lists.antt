-- What a list of networks prints: the lines of the fewest blocks, between what its syntax has before and after them.
use Rattle.std.specs.Prelude.{◌≡◌, ◌+◌, ◌⊎◌, ℕ, Bool, true, false, not, List, [], ◌∷◌, ◌++◌, Option, Some, None, flat_map, nat_eq, if◌then◌else◌}
use Rattle.std.specs.Io.KnownBytes.{Appends}
use Rattle.mmdb_blocks.specs.Blocks.{IsBlock, end}
use Rattle.mmdb_blocks.specs.Joining.{IsAfter, IsJoining}
use Rattle.mmdb_blocks.specs.Kinds.{prefix_in, IsWanted}
use Rattle.mmdb_blocks.specs.Texts.{network_text, line_of, opening_of, closing_of, beginning_of, IsEnding}
use Rattle.mmdb_blocks.specs.declared.block.Block.{Block}
use Rattle.mmdb_blocks.specs.declared.kind.BlockKind.{BlockKind}
use Rattle.mmdb_blocks.specs.declared.kind.BlockKind.TheVariants.{Ipv4, Ipv6}
use Rattle.mmdb_blocks.specs.declared.kind.Kinds.{Kinds}
use Rattle.mmdb_blocks.specs.declared.list.List.{List as SpecList}
use Rattle.mmdb_blocks.specs.declared.list.BlocksError.{BlocksError}
use Rattle.mmdb_blocks.specs.declared.list.BlocksError.TheVariants.{Write, OutOfOrder, Memory}
use Rattle.mmdb_blocks.specs.declared.list.Taken.{Taken}
use Rattle.mmdb_blocks.specs.declared.list.Taken.TheVariants.{Whole, Settled, Not}
use Rattle.mmdb_blocks.specs.declared.syntax.Action.{Action}
use Rattle.mmdb_blocks.specs.declared.syntax.Action.TheVariants.{Fill, Remove, Add}
use Rattle.mmdb_blocks.specs.declared.syntax.Filled.{Filled}
use Rattle.mmdb_blocks.specs.declared.syntax.Syntax.{Syntax}
use Rattle.mmdb_blocks.specs.declared.syntax.Syntax.TheVariants.{Ipset}

-- ---- the blocks of lines

-- the halves of a block
abbrev pub lower_half : Block → Block
lower_half block = record { first = block.first; prefix = block.prefix + 1 }

abbrev pub upper_half : Block → Block
upper_half block = record { first = end (lower_half block); prefix = block.prefix + 1 }

-- ipset takes no prefix of 0
abbrev pub takes_all : Syntax → Bool
takes_all (Ipset name) = false
takes_all _ = true

-- the blocks whose networks are written for one: its halves, where it has all addresses of a kind and the syntax does not take that
abbrev pub written_for : Syntax → BlockKind → Block → List Block
written_for syntax kind block = if takes_all syntax then block ∷ []
    else (if nat_eq (prefix_in kind block.prefix) 0 then lower_half block ∷ upper_half block ∷ [] else block ∷ [])

-- ---- what was printed

-- How a list is printed, and what was: whether anything, whether a network of the kind at hand, and of which kinds networks were.
pub record Page : Type 0 where
  pub syntax : Syntax
  pub kinds : Kinds
  pub action : Action
  pub has_begun : Bool
  pub has_written : Bool
  pub filled : List Filled

-- a list as its callers see it: what was printed, the kind of the last network, the blocks that wait to be joined with others, and
-- those that nothing can join any more
pub record Listing : Type 0 where
  pub page : Page
  pub kind : Option BlockKind
  pub waiting : List Block
  pub settled : List Block

abbrev pub page_of : SpecList → Page
page_of list = record {
  syntax = list.syntax;
  kinds = list.kinds;
  action = list.action;
  has_begun = list.has_begun;
  has_written = list.has_written;
  filled = list.filled.items;
}

abbrev pub listing_of : SpecList → Listing
listing_of list = record { page = page_of list; kind = list.kind; waiting = list.joiner.0; settled = list.joiner.1 }

-- a list of changes has nothing before its networks
abbrev pub is_change : Action → Bool
is_change Fill = false
is_change Remove = true
is_change Add = true

-- a list without networks
abbrev pub no_networks : Syntax → Kinds → Action → Listing
no_networks syntax kinds action = record {
  page = record {
    syntax = syntax;
    kinds = kinds;
    action = action;
    has_begun = is_change action;
    has_written = false;
    filled = [];
  };
  kind = None;
  waiting = [];
  settled = [];
}

-- a network of a kind is noted
abbrev pub noted : Page → BlockKind → Page
noted page kind = record page {
  has_written = true;
  filled = if page.has_written then page.filled else (page.filled ++ record { action = page.action; kind = kind } ∷ []);
}

-- the page once what comes before all networks is printed, and that text, where it wasn't
abbrev pub begun : Page → Page
begun page = record page { has_begun = true }

abbrev pub headed : Page → Page
headed page = if page.has_written then page else begun page

abbrev pub beginning_left : Page → List ℕ
beginning_left page = if page.has_begun then [] else beginning_of page.syntax page.kinds

-- what comes before the next network of a kind
abbrev pub heading_of : Page → BlockKind → List ℕ
heading_of page kind = if page.has_written then [] else (beginning_left page ++ opening_of page.syntax kind page.action)

-- the page with a network of a kind
abbrev pub with_network : Page → BlockKind → Page
with_network page kind = if page.has_written then page else record page {
  has_begun = true;
  has_written = true;
  filled = page.filled ++ record { action = page.action; kind = kind } ∷ [];
}

-- the text of the next network, which has this text of its own, with what comes before it
abbrev pub printed_one : Page → BlockKind → List ℕ → List ℕ
printed_one page kind network = heading_of page kind ++ line_of page.syntax kind page.action (not page.has_written) network

-- the text of the networks of blocks, and the page with them
abbrev pub printed_lines : Page → BlockKind → List Block → List ℕ
printed_lines page kind [] = []
printed_lines page kind (block ∷ blocks) =
    printed_one page kind (network_text kind block) ++ printed_lines (with_network page kind) kind blocks

abbrev pub with_lines : Page → BlockKind → List Block → Page
with_lines page kind [] = page
with_lines page kind (block ∷ blocks) = with_lines (with_network page kind) kind blocks

-- the same of blocks that are written as others, where the syntax does not take them
abbrev pub printed : Page → BlockKind → List Block → List ℕ
printed page kind blocks = printed_lines page kind (flat_map (written_for page.syntax kind) blocks)

abbrev pub with_blocks : Page → BlockKind → List Block → Page
with_blocks page kind blocks = with_lines page kind (flat_map (written_for page.syntax kind) blocks)

-- what comes after the last network of a kind, where there was one
abbrev pub closing_left : Page → List ℕ
closing_left page = if page.has_written then closing_of page.syntax else []

-- what is left of a kind whose last blocks wait, and the page with it
abbrev pub printed_rest : Page → BlockKind → List Block → List ℕ
printed_rest page kind waiting = printed page kind waiting ++ closing_left (with_blocks page kind waiting)

abbrev pub with_rest : Page → BlockKind → List Block → Page
with_rest page kind waiting = record (with_blocks page kind waiting) { has_written = false }

-- ---- what became of a block

-- the two are not the same kind
abbrev pub is_other : BlockKind → BlockKind → Bool
is_other Ipv4 Ipv4 = false
is_other Ipv4 Ipv6 = true
is_other Ipv6 Ipv4 = true
is_other Ipv6 Ipv6 = false

-- Where a list goes on with a kind: what is left of another one before it is printed, and no block waits then.
abbrev pub changed_text : Page → Option BlockKind → BlockKind → List Block → List ℕ
changed_text page None kind waiting = []
changed_text page (Some before) kind waiting = if is_other before kind then printed_rest page before waiting else []

abbrev pub changed_page : Page → Option BlockKind → BlockKind → List Block → Page
changed_page page None kind waiting = page
changed_page page (Some before) kind waiting = if is_other before kind then with_rest page before waiting else page

abbrev pub changed_waiting : Option BlockKind → BlockKind → List Block → List Block
changed_waiting None kind waiting = waiting
changed_waiting (Some before) kind waiting = if is_other before kind then [] else waiting

-- A block comes after all others. With it these are settled, which nothing can join any more, and the others wait.
pub record Joins (waiting : List Block) (block : Block) (settled later : List Block) : Type 0 where
  pub after : (pushed handed : List Block) → IsJoining pushed handed waiting → IsBlock block × IsAfter pushed block
  pub joining : (pushed handed : List Block) → IsJoining pushed handed waiting → IsJoining (pushed ++ block ∷ []) (handed ++ settled) later

-- it is no block, or does not come after all others
abbrev pub IsRefused : List Block → Block → Type 0
IsRefused waiting block = (pushed handed : List Block) → IsJoining pushed handed waiting → ¬ (IsBlock block × IsAfter pushed block)

-- a network of the kind at hand is taken, and nothing is printed
pub record TakesBlock (kind : BlockKind) (block : Block) (old new : Listing) : Type 0 where
  pub at_hand : old.kind ≡ Some kind
  pub joins : Joins old.waiting block new.settled new.waiting
  pub page : new.page ≡ old.page
  pub same : new.kind ≡ old.kind

-- what a list answers to that
abbrev pub IsTaken : Taken → BlockKind → Block → Listing → Listing → Type 0
IsTaken Whole kind block old new = TakesBlock kind block old new × (new.settled ≡ [])
IsTaken Settled kind block old new = TakesBlock kind block old new × ¬ (new.settled ≡ [])
IsTaken Not kind block old new = (new ≡ old) × (old.kind ≡ Some kind → IsRefused old.waiting block)

-- A network of a wanted kind is taken: what is left of another kind before it is printed, and then the blocks that are settled.
pub record Pushes (kind : BlockKind) (block : Block) (old : Listing) (text : List ℕ) (new : Listing) : Type 0 where
  pub joins : Joins (changed_waiting old.kind kind old.waiting) block new.settled new.waiting
  pub text_is : text ≡ changed_text old.page old.kind kind old.waiting
      ++ printed (changed_page old.page old.kind kind old.waiting) kind new.settled
  pub page : new.page ≡ with_blocks (changed_page old.page old.kind kind old.waiting) kind new.settled
  pub at_hand : new.kind ≡ Some kind

-- a network of any kind: of one that is not wanted nothing is taken
abbrev pub IsPushed : BlockKind → Block → Listing → List ℕ → Listing → Type 0
IsPushed kind block old text new = (IsWanted old.page.kinds kind × Pushes kind block old text new)
    ⊎ (¬ IsWanted old.page.kinds kind × (new ≡ old) × (text ≡ []))

-- the blocks of a kind that are settled are printed, and what was printed with them
abbrev pub settled_left : Page → Option BlockKind → List Block → List ℕ
settled_left page None settled = []
settled_left page (Some kind) settled = printed page kind settled

abbrev pub settled_page : Page → Option BlockKind → List Block → Page
settled_page page None settled = page
settled_page page (Some kind) settled = with_blocks page kind settled

abbrev pub settled_text : Listing → List ℕ
settled_text list = settled_left list.page list.kind list.settled

abbrev pub with_settled : Listing → Listing
with_settled list = record list { page = settled_page list.page list.kind list.settled }

-- what is left of a list is printed
abbrev pub rest_left : Page → Option BlockKind → List Block → List ℕ
rest_left page None waiting = []
rest_left page (Some kind) waiting = printed_rest page kind waiting

abbrev pub rest_page : Page → Option BlockKind → List Block → Page
rest_page page None waiting = page
rest_page page (Some kind) waiting = with_rest page kind waiting

abbrev pub finished_text : Listing → List ℕ
finished_text list = rest_left list.page list.kind list.waiting

abbrev pub finished_page : Listing → Page
finished_page list = rest_page list.page list.kind list.waiting

-- no block of the kind at hand waits then
abbrev pub rest_waiting : Option BlockKind → List Block → List Block
rest_waiting None waiting = waiting
rest_waiting (Some kind) waiting = []

-- what comes after all networks, and nothing where no network was printed of changes
abbrev pub ends_none : Action → List Filled → Bool
ends_none Fill filled = false
ends_none action [] = true
ends_none action (part ∷ others) = false

abbrev pub IsEndOf : Page → List ℕ → Type 0
IsEndOf page text = (ends_none page.action page.filled ≡ true × (text ≡ []))
    ⊎ (ends_none page.action page.filled ≡ false × IsEnding page.syntax page.kinds page.action text)

-- known output grew by a text of which this holds
abbrev pub Prints : (List ℕ → Type 0) → Option (List ℕ) → Option (List ℕ) → Type 0
Prints P before after = (text : List ℕ) × P text × Appends before after text

-- ---- why no more is printed

-- the output failed
abbrev pub IsOfOutput : BlocksError → Type 0
IsOfOutput (Write e) = Unit {0}
IsOfOutput Memory = ⊥
IsOfOutput OutOfOrder = ⊥

-- the output failed; or memory is out, and nothing was written
abbrev pub WritesNone : Option (List ℕ) → Option (List ℕ) → BlocksError → Type 0
WritesNone before after (Write e) = Unit {0}
WritesNone before after Memory = Appends before after []
WritesNone before after OutOfOrder = ⊥

-- the output failed; or memory is out, and what was written is the beginning of this text
abbrev pub BreaksOff : List ℕ → Option (List ℕ) → Option (List ℕ) → BlocksError → Type 0
BreaksOff text before after (Write e) = Unit {0}
BreaksOff text before after Memory = (part rest : List ℕ) × (text ≡ part ++ rest) × Appends before after part
BreaksOff text before after OutOfOrder = ⊥

-- a network of a wanted kind is not taken, and what was written then
abbrev pub PushFails : BlockKind → Block → Listing → Option (List ℕ) → Option (List ℕ) → BlocksError → Type 0
PushFails kind block old before after (Write e) = Unit {0}
PushFails kind block old before after OutOfOrder = IsRefused (changed_waiting old.kind kind old.waiting) block
    × Appends before after (changed_text old.page old.kind kind old.waiting)
PushFails kind block old before after Memory =
    BreaksOff (changed_text old.page old.kind kind old.waiting) before after Memory
    ⊎ ((text : List ℕ) × (new : Listing) × Pushes kind block old text new × BreaksOff text before after Memory)
