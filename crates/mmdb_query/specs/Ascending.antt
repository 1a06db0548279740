-- Networks that ascend, those of IPv4 first, and what a list prints of them.
use Rattle.std.specs.Prelude.{◌≡◌, ◌⊎◌, ◌↔◌, ◌<◌, ◌^◌, ℕ, Bool, true, false, List, [], ◌∷◌, ◌++◌, map, Option, None}
use Rattle.mmdb_net.specs.Bits.{zero_bits, IsPrefix}
use Rattle.mmdb_net.specs.declared.network.IpNetwork.{IpNetwork}
use Rattle.mmdb_blocks.specs.Blocks.{IsIn}
use Rattle.mmdb_blocks.specs.Kinds.{IsWanted}
use Rattle.mmdb_blocks.specs.Lists.{Listing, finished_text}
use Rattle.mmdb_blocks.specs.ListTexts.{PushesAll, IsWhole}
use Rattle.mmdb_blocks.specs.declared.block.Block.{Block}
use Rattle.mmdb_blocks.specs.declared.kind.BlockKind.{BlockKind}
use Rattle.mmdb_blocks.specs.declared.kind.BlockKind.TheVariants.{Ipv4, Ipv6}
use Rattle.mmdb_blocks.specs.declared.kind.Kinds.{Kinds}
use Rattle.mmdb_reader.specs.File.{Database}
use Rattle.mmdb_reader.specs.Items.{items_of}
use Rattle.mmdb_reader.specs.Listing.{Listed, IsListing, ComesBefore}
use Rattle.mmdb_reader.specs.declared.options.WithinOptions.{WithinOptions}
use Rattle.mmdb_query.specs.Had.{Had}
use Rattle.mmdb_query.specs.Listings.{puts_listed, leaves_listed}
use Rattle.mmdb_query.specs.Parts.{parts_of}
use Rattle.mmdb_query.specs.Rows.{nothing}
use Rattle.mmdb_query.specs.Sets.{LiesInOne, IsFoundIn, needs_nothing}
use Rattle.mmdb_query.specs.Taking.{Asked, ArePicked, Runs, asks}
use Rattle.mmdb_query.specs.Walks.{Item, item_listed}
use Rattle.mmdb_query.specs.Walks.Item.{Found, Unread}

-- ---- the order

-- A network has addresses of IPv4, which begin with 96 zeros: its bits begin with these, or are some of them.
abbrev pub HasIpv4 : Had → Type 0
HasIpv4 had = IsPrefix (zero_bits 96) had.bits ⊎ IsPrefix had.bits (zero_bits 96)

-- All addresses of a network come before those of another one: at the first bit at which they differ they have 0, and those have
-- 1. Where the other one is of IPv4, or has addresses of it, this one is of IPv4.
pub record IsBefore (had other : Had) : Type 0 where
  pub bits : ComesBefore had.bits other.bits
  pub kind : other.as_ipv4 ≡ true → had.as_ipv4 ≡ true
  pub part : HasIpv4 other → had.as_ipv4 ≡ true

-- each network comes before all that follow it
abbrev pub Ascend : List Item → Type 0
Ascend [] = Unit {0}
Ascend (Unread ∷ items) = Ascend items
Ascend (Found had ∷ items) = ((other : Had) → IsFoundIn other items → IsBefore had other) × Ascend items

-- so do all that may come
abbrev pub ComeAscending : (List Item → Type 0) → Type 0
ComeAscending comes = (items : List Item) → comes items → Ascend items

-- The networks that are listed of a range of a database ascend, and so do those of some kinds, in a range.
abbrev pub NetworksAscend : Type 0
NetworksAscend = (db : Database) (options : WithinOptions) (range : List Bool) (list : List Listed) (kinds : Kinds) (part : Option IpNetwork)
    → IsListing db options range list → Ascend (parts_of kinds part (map (item_listed db) (items_of db list)))

-- ---- what a list has of them

-- an address of a kind lies in one of these networks; of IPv4 that may be one of IPv6
abbrev pub IsAddressOf : BlockKind → List Had → ℕ → Type 0
IsAddressOf Ipv4 put address = LiesInOne true address put ⊎ (LiesInOne false address put × (address < 2 ^ 32))
IsAddressOf Ipv6 put address = LiesInOne false address put

-- blocks have exactly the addresses of a kind that these networks have, or none where the kind is not wanted
abbrev pub HaveAddresses : Kinds → BlockKind → List Had → List Block → Type 0
HaveAddresses kinds kind put blocks = (address : ℕ) → address < 2 ^ 128 → IsIn address blocks ↔ (IsWanted kinds kind × IsAddressOf kind put address)

-- Blocks of IPv4 with their addresses are pushed to a list, and then such of IPv6, and nothing else.
pub record ArePushedInOrder (put : List Had) (old : Listing) (text : List ℕ) (new : Listing) : Type 0 where
  pub ipv4 : List Block
  pub ipv6 : List Block
  pub mid : Listing
  pub first : List ℕ
  pub second : List ℕ
  pub ipv4_pushed : PushesAll Ipv4 ipv4 old first mid
  pub ipv6_pushed : PushesAll Ipv6 ipv6 mid second new
  pub text_is : text ≡ first ++ second
  pub ipv4_exact : HaveAddresses old.page.kinds Ipv4 put ipv4
  pub ipv6_exact : HaveAddresses old.page.kinds Ipv6 put ipv6

-- Of items that ascend the chosen ones that can be read are put, one after another, to a list without networks, and this text is
-- printed of them.
pub record IsRun (a : Asked Listing) (items : List Item) (put : List Had) (unread : ℕ) (old : Listing) (text : List ℕ) (new : Listing) : Type 0 where
  pub ascend : Ascend items
  pub picked : ArePicked a items put unread
  pub ran : Runs a.puts put old text new
  pub none_at_hand : old.kind ≡ None
  pub none_waits : old.waiting ≡ []
  pub none_written : old.page.has_written ≡ false

-- Then they are pushed in order; and that text with what is left of the list is the text of the fewest blocks of each kind, which
-- have exactly the addresses of the networks.
pub record IsListedWhole (put : List Had) (old : Listing) (text : List ℕ) (new : Listing) : Type 0 where
  pub in_order : ArePushedInOrder put old text new
  pub whole : IsWhole old.page in_order.ipv4 in_order.ipv6 (text ++ finished_text new)
  pub ipv4_exact : HaveAddresses old.page.kinds Ipv4 put whole.fewest_ipv4
  pub ipv6_exact : HaveAddresses old.page.kinds Ipv6 put whole.fewest_ipv6

-- that holds of any conditions
abbrev pub AscendingAreListedWhole : {C : Type 0} → (C → List (List ℕ) → List (Option ℕ) → Bool → Type 0) → (C → List (List ℕ) → List (Option ℕ) → Type 0) → Type 0
AscendingAreListedWhole {C} says unsaid = (c : C) (s : List (List ℕ)) (items : List Item) (put : List Had) (unread : ℕ) (old new : Listing) (text : List ℕ)
    → IsRun (asks says unsaid puts_listed needs_nothing leaves_listed c nothing s) items put unread old text new → IsListedWhole put old text new
