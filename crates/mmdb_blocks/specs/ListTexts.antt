-- The text of a whole list, by the fewest blocks of each kind.
use Rattle.std.specs.Prelude.{◌≡◌, Bool, true, false, ℕ, List, [], ◌∷◌, ◌++◌, flat_map}
use Rattle.mmdb_blocks.specs.Blocks.{IsJoined}
use Rattle.mmdb_blocks.specs.Lists.{Page, Listing, Pushes, written_for, beginning_left}
use Rattle.mmdb_blocks.specs.Texts.{network_text, line_of, opening_of, closing_of}
use Rattle.mmdb_blocks.specs.declared.block.Block.{Block}
use Rattle.mmdb_blocks.specs.declared.kind.BlockKind.{BlockKind}
use Rattle.mmdb_blocks.specs.declared.kind.BlockKind.TheVariants.{Ipv4, Ipv6}
use Rattle.mmdb_blocks.specs.declared.syntax.Action.{Action}
use Rattle.mmdb_blocks.specs.declared.syntax.Syntax.{Syntax}

-- the lines of some blocks, the first of their kind or others
abbrev pub lines_of : Syntax → BlockKind → Action → Bool → List Block → List ℕ
lines_of syntax kind action is_first [] = []
lines_of syntax kind action is_first (block ∷ blocks) =
    line_of syntax kind action is_first (network_text kind block) ++ lines_of syntax kind action false blocks

-- what a list has of the blocks of a kind, and nothing without one
abbrev pub kind_text : Syntax → BlockKind → Action → List Block → List ℕ
kind_text syntax kind action [] = []
kind_text syntax kind action (block ∷ blocks) = opening_of syntax kind action
    ++ lines_of syntax kind action true (flat_map (written_for syntax kind) (block ∷ blocks)) ++ closing_of syntax

-- the same on a page of which no network of the kind was printed: what comes before all networks is there once
abbrev pub page_text : Page → BlockKind → List Block → List ℕ
page_text page kind [] = []
page_text page kind (block ∷ blocks) = beginning_left page ++ kind_text page.syntax kind page.action (block ∷ blocks)

-- the same of both kinds, IPv4 first
abbrev pub list_text : Page → List Block → List Block → List ℕ
list_text page [] ipv6 = page_text page Ipv6 ipv6
list_text page (block ∷ blocks) ipv6 = page_text page Ipv4 (block ∷ blocks) ++ kind_text page.syntax Ipv6 page.action ipv6

-- networks of a kind are pushed one after another, and this text is printed of them
abbrev pub PushesAll : BlockKind → List Block → Listing → List ℕ → Listing → Type 0
PushesAll kind [] old text new = (new ≡ old) × (text ≡ [])
PushesAll kind (block ∷ blocks) old text new =
    (mid : Listing) × (first rest : List ℕ) × Pushes kind block old first mid × PushesAll kind blocks mid rest new × (text ≡ first ++ rest)

-- What is printed of networks of IPv4 and then of IPv6 is the text of the fewest blocks of both.
pub record IsWhole (page : Page) (ipv4 ipv6 : List Block) (text : List ℕ) : Type 0 where
  pub fewest_ipv4 : List Block
  pub fewest_ipv6 : List Block
  pub ipv4_joined : IsJoined ipv4 fewest_ipv4
  pub ipv6_joined : IsJoined ipv6 fewest_ipv6
  pub text_is : text ≡ list_text page fewest_ipv4 fewest_ipv6
