-- Lists of the networks that are chosen, written while they come.
use Rattle.std.specs.Prelude.{◌≡◌, ◌⊎◌, ◌^◌, ℕ, Bool, List, [], ◌∷◌, ◌++◌, Some, take, max, not, ◌&&◌, nat_lt, if◌then◌else◌}
use Rattle.mmdb_net.specs.Bits.{bits_of}
use Rattle.mmdb_blocks.specs.Blocks.{IsBlock}
use Rattle.mmdb_blocks.specs.Kinds.{IsWanted}
use Rattle.mmdb_blocks.specs.Lists.{Listing, Pushes, changed_text, changed_waiting, IsRefused}
use Rattle.mmdb_blocks.specs.declared.block.Block.{Block}
use Rattle.mmdb_blocks.specs.declared.kind.BlockKind.{BlockKind}
use Rattle.mmdb_blocks.specs.declared.kind.BlockKind.TheVariants.{Ipv4, Ipv6}
use Rattle.mmdb_blocks.specs.declared.list.BlocksError.{BlocksError}
use Rattle.mmdb_blocks.specs.declared.list.BlocksError.TheVariants.{Write as ListWrite, OutOfOrder as ListOutOfOrder, Memory as ListMemory}
use Rattle.mmdb_query.specs.Ends.{write_error}
use Rattle.mmdb_query.specs.Had.{Had}
use Rattle.mmdb_query.specs.declared.error.QueryError.{QueryError}
use Rattle.mmdb_query.specs.declared.error.QueryError.TheVariants.{Memory, Write, TooMany, OutOfOrder}

-- ---- which blocks a network is

-- a block has exactly the addresses that begin with these bits
pub record HasBits (block : Block) (bits : List Bool) : Type 0 where
  pub is_block : IsBlock block
  pub same : take block.prefix (bits_of 128 block.first) ≡ bits

-- what a block that begins below 2 ^ 32 has of the addresses of IPv4, which are those
abbrev pub ipv4_part : Block → Block
ipv4_part block = record { first = block.first; prefix = max block.prefix 96 }

abbrev pub kind_as : Bool → BlockKind
kind_as as_ipv4 = if as_ipv4 then Ipv4 else Ipv6

-- a block of IPv6 has addresses of IPv4
abbrev pub has_ipv4_part : Bool → Block → Bool
has_ipv4_part as_ipv4 block = not as_ipv4 && nat_lt block.first (2 ^ 32)

-- The blocks of a network, each of a kind. One of IPv6 with addresses of IPv4 is one of these before that: lookups of them find it
-- where a database has no tree of IPv4.
abbrev pub blocks_of : Bool → Block → List (BlockKind × Block)
blocks_of as_ipv4 block =
    if has_ipv4_part as_ipv4 block then (Ipv4, ipv4_part block) ∷ (Ipv6, block) ∷ [] else (kind_as as_ipv4, block) ∷ []

-- ---- what a list does with them

-- A block is pushed where its kind is wanted, or is at hand, which only wanted ones come to be; else nothing is done.
abbrev pub Puts : BlockKind × Block → Listing → List ℕ → Listing → Type 0
Puts (kind, block) old text new = ((IsWanted old.page.kinds kind ⊎ (old.kind ≡ Some kind)) × Pushes kind block old text new)
    ⊎ (¬ IsWanted old.page.kinds kind × (new ≡ old) × (text ≡ []))

-- one block after another
abbrev pub PutsAll : List (BlockKind × Block) → Listing → List ℕ → Listing → Type 0
PutsAll [] old text new = (new ≡ old) × (text ≡ [])
PutsAll (part ∷ parts) old text new =
    (mid : Listing) × (first rest : List ℕ) × Puts part old first mid × PutsAll parts mid rest new × (text ≡ first ++ rest)

-- the network of an address's first bits
abbrev pub PutsBits : Bool → List Bool → Listing → List ℕ → Listing → Type 0
PutsBits as_ipv4 bits old text new = (block : Block) × HasBits block bits × PutsAll (blocks_of as_ipv4 block) old text new

-- that is how a list takes networks
abbrev pub puts_listed : Unit {0} → List (List ℕ) → Had → Listing → List ℕ → Listing → Type 0
puts_listed form s had old text new = PutsBits had.as_ipv4 had.bits old text new

-- ---- what it leaves where it does not take one

-- an error of a list, as a query answers it
abbrev pub of_list : BlocksError → QueryError
of_list (ListWrite e) = Write (write_error e)
of_list ListOutOfOrder = OutOfOrder
of_list ListMemory = Memory

-- a text begins with another one
abbrev pub Begins : List ℕ → List ℕ → Type 0
Begins part text = (rest : List ℕ) × (text ≡ part ++ rest)

-- of a block: a part of what is printed, where memory is out; or what is left of another kind, where the block does not ascend
abbrev pub LeavesOne : BlockKind × Block → Listing → List ℕ → QueryError → Type 0
LeavesOne (kind, block) old part Memory = Begins part (changed_text old.page old.kind kind old.waiting)
    ⊎ ((text : List ℕ) × (new : Listing) × Pushes kind block old text new × Begins part text)
LeavesOne (kind, block) old part OutOfOrder =
    IsRefused (changed_waiting old.kind kind old.waiting) block × (part ≡ changed_text old.page old.kind kind old.waiting)
LeavesOne (kind, block) old part (Write e) = Unit {0}
LeavesOne (kind, block) old part TooMany = ⊥

-- of blocks, of which some first ones are taken
abbrev pub LeavesAll : List (BlockKind × Block) → Listing → List ℕ → QueryError → Type 0
LeavesAll [] old part e = ⊥
LeavesAll (one ∷ parts) old part e = LeavesOne one old part e
    ⊎ ((mid : Listing) × (first rest : List ℕ) × Puts one old first mid × LeavesAll parts mid rest e × (part ≡ first ++ rest))

abbrev pub LeavesBits : Bool → List Bool → Listing → List ℕ → QueryError → Type 0
LeavesBits as_ipv4 bits old part e = (block : Block) × HasBits block bits × LeavesAll (blocks_of as_ipv4 block) old part e

-- of a network
abbrev pub leaves_listed : Unit {0} → List (List ℕ) → Had → Listing → List ℕ → QueryError → Type 0
leaves_listed form s had old part e = LeavesBits had.as_ipv4 had.bits old part e
