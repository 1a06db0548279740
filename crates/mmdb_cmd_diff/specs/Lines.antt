-- The lines of differences, and what each both of its addresses.
use Rattle.std.specs.Prelude.{◌≡◌, ℕ, Bool, true, false, List, [], ◌∷◌, ◌++◌, ◌⊎◌, Option, Some, None, codes}
use Rattle.std.specs.List.{All}
use Rattle.std.specs.Io.KnownBytes.{Appends}
use Rattle.mmdb_net.specs.Network.{short_text_of}
use Rattle.mmdb_net.specs.declared.network.IpNetwork.{IpNetwork}
use Rattle.mmdb_blocks.specs.Blocks.{IsIn, IsWithin}
use Rattle.mmdb_blocks.specs.Joining.{IsJoining, waiting_of, settled_of}
use Rattle.mmdb_blocks.specs.Kinds.{IsNetworkOf}
use Rattle.mmdb_blocks.specs.declared.block.Block.{Block}
use Rattle.mmdb_blocks.specs.declared.kind.BlockKind.{BlockKind}
use Rattle.mmdb_blocks.specs.declared.kind.BlockKind.TheVariants.{Ipv4, Ipv6}
use Rattle.mmdb_cmd_diff.specs.declared.shown.ShownPair.{ShownPair}
use Rattle.mmdb_compare.specs.declared.together.TogetherStretch.{TogetherStretch}
use Rattle.mmdb_console.specs.declared.error.ProgramError.{ProgramError}
use Rattle.mmdb_console.specs.declared.error.ProgramError.TheVariants.{Write}
use Rattle.mmdb_layout.specs.declared.layout.Layout.{Layout}
use Rattle.mmdb_layout.specs.declared.layout.Layout.TheVariants.{Records, Values, Cells}
use Rattle.mmdb_cmd_diff.specs.Showing.{Showing, IsShownPair, offset_in}
use Rattle.mmdb_cmd_diff.specs.declared.changes.ShownRun.{ShownRun}
use Rattle.mmdb_cmd_diff.specs.declared.changes.Changes.{Changes}

-- ---- one line

-- what a line of JSON begins with, up to the value in the old database
abbrev pub front_of : IpNetwork → List ℕ
front_of network = codes "{\"network\":\"" ++ short_text_of network ++ codes "\",\"old\":"

-- the line with what is shown of it in both databases, the old one first
abbrev pub line_with : List ℕ → ShownPair → List ℕ
line_with front shown = front ++ shown.old.items ++ codes ",\"new\":" ++ shown.new.items ++ codes "}\n"

-- the line of JSON of a network
abbrev pub line_of : IpNetwork → ShownPair → List ℕ
line_of network shown = line_with (front_of network) shown

-- such a line; of cells it is not said which
abbrev pub IsLine : Layout → IpNetwork → ShownPair → List ℕ → Type 0
IsLine Records network shown text = text ≡ line_of network shown
IsLine (Values fields) network shown text = text ≡ line_of network shown
IsLine (Cells fields) network shown text = Unit {0}

-- known output grows by it
abbrev pub WritesLine : Layout → IpNetwork → ShownPair → Option (List ℕ) → Option (List ℕ) → Type 0
WritesLine layout network shown before after = (text : List ℕ) × IsLine layout network shown text × Appends before after text

-- whether an error is one of the output
abbrev pub is_of_output : ProgramError → Bool
is_of_output (Write e) = true
is_of_output _ = false

-- without an error of the output nothing was written
abbrev pub WritesNone : Option (List ℕ) → Option (List ℕ) → ProgramError → Type 0
WritesNone before after e = is_of_output e ≡ false → Appends before after []

-- whether whole records are shown
abbrev pub shows_records : Layout → Bool
shows_records Records = true
shows_records (Values fields) = false
shows_records (Cells fields) = false

-- ---- what lines say

abbrev pub kind_of : Bool → BlockKind
kind_of true = Ipv4
kind_of false = Ipv6

-- What two databases have: by whether addresses are of IPv4, and for each address, where the records of both are, if there are.
abbrev pub Both : Type 0
Both = Bool → ℕ → Option ℕ × Option ℕ

-- at an address both have records of which this is shown
abbrev pub IsTold : Showing → Both → Bool → ShownPair → ℕ → Type 0
IsTold showing both is_ipv4 shown address =
    IsShownPair showing (both is_ipv4 address).0 (both is_ipv4 address).1 shown

-- a line: the addresses that it is of, those of IPv4 or not, and its text
pub record Line : Type 0 where
  pub is_ipv4 : Bool
  pub block : Block
  pub text : List ℕ

-- It says of each of its addresses what both databases have there.
pub record IsTrueLine (layout : Layout) (showing : Showing) (both : Both) (line : Line) : Type 0 where
  pub shown : ShownPair
  pub network : IpNetwork
  pub is_network : IsNetworkOf (kind_of line.is_ipv4) line.block network
  pub is_line : IsLine layout network shown line.text
  pub told : (address : ℕ) → IsWithin address line.block → IsTold showing both line.is_ipv4 shown address

-- some such lines, one after another
abbrev pub AreTrueLines : Layout → Showing → Both → List Line → List ℕ → Type 0
AreTrueLines layout showing both [] text = text ≡ []
AreTrueLines layout showing both (line ∷ lines) text =
    (rest : List ℕ) × IsTrueLine layout showing both line × AreTrueLines layout showing both lines rest × (text ≡ line.text ++ rest)

-- an address is in a block of addresses of its kind
abbrev pub IsInBlock : Bool → Block → Bool → ℕ → Type 0
IsInBlock kind block is_ipv4 address = (kind ≡ is_ipv4) × IsWithin address block

-- it is in one of some lines
abbrev pub IsInLines : List Line → Bool → ℕ → Type 0
IsInLines [] is_ipv4 address = ⊥
IsInLines (line ∷ lines) is_ipv4 address = IsInBlock line.is_ipv4 line.block is_ipv4 address ⊎ IsInLines lines is_ipv4 address

-- Known output grows by true lines, and each address that is due is in one of them, or still waits.
abbrev pub Tells : Layout → Showing → Both → (Bool → ℕ → Type 0) → (Bool → ℕ → Type 0) → Option (List ℕ) → Option (List ℕ) → Type 0
Tells layout showing both due waiting before after =
    (lines : List Line) × (text : List ℕ) × AreTrueLines layout showing both lines text × Appends before after text
    × ((is_ipv4 : Bool) (address : ℕ) → due is_ipv4 address → IsInLines lines is_ipv4 address ⊎ waiting is_ipv4 address)

-- no address
abbrev pub none : Bool → ℕ → Type 0
none is_ipv4 address = ⊥

-- those of a stretch, beside others
abbrev pub with_stretch : TogetherStretch → (Bool → ℕ → Type 0) → Bool → ℕ → Type 0
with_stretch stretch others is_ipv4 address = others is_ipv4 address ⊎ IsInBlock stretch.is_ipv4 stretch.block is_ipv4 address

-- a block of a stretch has both records at each of its addresses
abbrev pub HasThere : Both → TogetherStretch → Option ℕ → Option ℕ → Type 0
HasThere both stretch old new = (address : ℕ) → IsWithin address stretch.block → both stretch.is_ipv4 address ≡ (old, new)

-- ---- runs

abbrev pub kind_of_run : Option ShownRun → BlockKind
kind_of_run None = Ipv6
kind_of_run (Some run) = kind_of run.is_ipv4

-- the line of a network of a run, and nothing without one
abbrev pub WritesOf : Layout → IpNetwork → Option ShownRun → Option (List ℕ) → Option (List ℕ) → Type 0
WritesOf layout network None before after = Appends before after []
WritesOf layout network (Some run) before after = WritesLine layout network run.shown before after

-- that of a block
abbrev pub IsLineOf : Layout → Option ShownRun → Block → List ℕ → Type 0
IsLineOf layout None block text = text ≡ []
IsLineOf layout (Some run) block text =
    (network : IpNetwork) × IsNetworkOf (kind_of run.is_ipv4) block network × IsLine layout network run.shown text

abbrev pub WritesBlock : Layout → Option ShownRun → Block → Option (List ℕ) → Option (List ℕ) → Type 0
WritesBlock layout run block before after = (text : List ℕ) × IsLineOf layout run block text × Appends before after text

-- those of blocks, one after another
abbrev pub AreLinesOf : Layout → Option ShownRun → List Block → List ℕ → Type 0
AreLinesOf layout run [] text = text ≡ []
AreLinesOf layout run (block ∷ blocks) text =
    (line rest : List ℕ) × IsLineOf layout run block line × AreLinesOf layout run blocks rest × (text ≡ line ++ rest)

abbrev pub WritesBlocks : Layout → Option ShownRun → List Block → Option (List ℕ) → Option (List ℕ) → Type 0
WritesBlocks layout run blocks before after = (text : List ℕ) × AreLinesOf layout run blocks text × Appends before after text

-- each address of a block is told what the run shows
abbrev pub IsToldBlock : Showing → Both → Option ShownRun → Block → Type 0
IsToldBlock showing both None block = Unit {0}
IsToldBlock showing both (Some run) block = (address : ℕ) → IsWithin address block → IsTold showing both run.is_ipv4 run.shown address

abbrev pub AreToldAll : Showing → Both → Option ShownRun → List Block → Type 0
AreToldAll showing both run blocks = All (IsToldBlock showing both run) blocks

-- it is of a kind, and its last records are at these offsets, or it shows the same
pub record GoesOnAs (is_ipv4 : Bool) (old new : Option ℕ) (run : ShownRun) : Type 0 where
  pub is_kind : run.is_ipv4 ≡ is_ipv4
  pub has_old : offset_in run.old ≡ old
  pub has_new : offset_in run.new ≡ new

pub record GoesOnWith (is_ipv4 : Bool) (shown : ShownPair) (run : ShownRun) : Type 0 where
  pub is_kind : run.is_ipv4 ≡ is_ipv4
  pub shows_old : run.shown.old.items ≡ shown.old.items
  pub shows_new : run.shown.new.items ≡ shown.new.items

-- ---- what waits

-- at each address of the blocks that were pushed the databases have what the run shows
pub record IsRunOf (showing : Showing) (both : Both) (run : ShownRun) (waiting : List Block) : Type 0 where
  pub pushed : List Block
  pub handed : List Block
  pub joining : IsJoining pushed handed waiting
  pub told : (address : ℕ) → IsIn address pushed → IsTold showing both run.is_ipv4 run.shown address
  pub shown : IsShownPair showing (offset_in run.old) (offset_in run.new) run.shown

-- a block is pushed: what was handed out before and is now, with what waits, is the joined form
abbrev pub Joins : List Block × List Block → Block → List Block × List Block → Type 0
Joins old block new = (pushed handed : List Block) → IsJoining pushed handed (waiting_of old)
    → IsJoining (pushed ++ block ∷ []) (handed ++ settled_of new) (waiting_of new)

abbrev pub IsRunIf : Showing → Both → Option ShownRun → List Block → Type 0
IsRunIf showing both None waiting = IsJoining [] [] waiting
IsRunIf showing both (Some run) waiting = IsRunOf showing both run waiting

-- the addresses of the blocks that wait
abbrev pub in_run : Option ShownRun → List Block → Bool → ℕ → Type 0
in_run None waiting is_ipv4 address = ⊥
in_run (Some run) waiting is_ipv4 address = (run.is_ipv4 ≡ is_ipv4) × IsIn address waiting

abbrev pub waiting_in : Changes → Bool → ℕ → Type 0
waiting_in changes = in_run changes.run (waiting_of changes.joiner)

abbrev pub AreWaiting : Showing → Both → Changes → Type 0
AreWaiting showing both changes = IsRunIf showing both changes.run (waiting_of changes.joiner)
