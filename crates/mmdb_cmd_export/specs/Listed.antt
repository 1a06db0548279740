-- What is written of lists.
use Rattle.std.specs.Prelude.{◌≡◌, ◌<◌, ◌^◌, ◌⊎◌, ◌↔◌, ◌||◌, Bool, true, false, ℕ, List, [], ◌∷◌, ◌++◌, map, Option, Result, Ok, Err, nat_eq}
use Rattle.std.specs.Io.KnownBytes.{Appends}
use Rattle.mmdb_blocks.specs.Blocks.{IsIn, IsJoined}
use Rattle.mmdb_blocks.specs.Kinds.{IsWanted}
use Rattle.mmdb_blocks.specs.Lists.{Page, Listing, beginning_left, finished_text, finished_page, no_networks, IsEndOf}
use Rattle.mmdb_blocks.specs.ListTexts.{kind_text, PushesAll}
use Rattle.mmdb_blocks.specs.Texts.{beginning_of, breaking_of}
use Rattle.mmdb_blocks.specs.declared.block.Block.{Block}
use Rattle.mmdb_blocks.specs.declared.kind.BlockKind.{BlockKind}
use Rattle.mmdb_blocks.specs.declared.kind.BlockKind.TheVariants.{Ipv4, Ipv6}
use Rattle.mmdb_blocks.specs.declared.kind.Kinds.{Kinds}
use Rattle.mmdb_blocks.specs.declared.list.BlocksError.{BlocksError}
use Rattle.mmdb_blocks.specs.declared.list.BlocksError.TheVariants.{Write as ListWrite, OutOfOrder as ListOutOfOrder, Memory as ListMemory}
use Rattle.mmdb_blocks.specs.declared.ranges.RangesError.{RangesError}
use Rattle.mmdb_blocks.specs.declared.ranges.RangesError.TheVariants.{OutOfOrder as RangesOutOfOrder, Memory as RangesMemory}
use Rattle.mmdb_blocks.specs.declared.syntax.Action.TheVariants.{Fill}
use Rattle.mmdb_blocks.specs.declared.syntax.Syntax.{Syntax}
use Rattle.mmdb_blocks.specs.declared.syntax.Syntax.TheVariants.{Cidr}
use Rattle.mmdb_console.specs.declared.error.ProgramError.{ProgramError}
use Rattle.mmdb_console.specs.declared.error.ProgramError.TheVariants.{Database as OfDatabase, Write, OutOfOrder, EmptyList, Memory}
use Rattle.mmdb_layout.specs.Conditions.{SaysAllMetBy, HasUnreadBy}
use Rattle.mmdb_layout.specs.Networks.{items_in}
use Rattle.mmdb_layout.specs.declared.condition.Condition.{Condition}
use Rattle.mmdb_net.specs.declared.network.IpNetwork.{IpNetwork}
use Rattle.mmdb_query.specs.Ascending.{IsAddressOf, HaveAddresses}
use Rattle.mmdb_query.specs.Had.{Had}
use Rattle.mmdb_query.specs.Listings.{puts_listed, leaves_listed}
use Rattle.mmdb_query.specs.Parts.{ComesInPart}
use Rattle.mmdb_query.specs.Reading.{outlines_of}
use Rattle.mmdb_query.specs.Rows.{nothing}
use Rattle.mmdb_query.specs.Sets.{needs_nothing}
use Rattle.mmdb_query.specs.Taking.{Asked, ArePicked, Runs}
use Rattle.mmdb_query.specs.Walks.{Item, item_listed}
use Rattle.mmdb_reader.specs.File.{Database, data_section}
use Rattle.mmdb_cmd_export.specs.Gathered.{IsListedOf}
use Rattle.mmdb_query.specs.declared.addresses.Addresses.{Addresses as Chosen}
use Rattle.mmdb_cmd_export.specs.declared.gathering.Adjustment.{Adjustment}
use Rattle.mmdb_cmd_export.specs.declared.task.ExportTask.{ExportTask}
use Rattle.mmdb_cmd_export.specs.declared.task.Shape.{Shape}
use Rattle.mmdb_cmd_export.specs.declared.task.Shape.TheVariants.{List as ListShape}

-- ---- the text

-- the blocks are the fewest that have exactly the addresses of a kind that a list has
pub record AreFewestOf (kind : BlockKind) (chosen : Chosen) (adjustment : Adjustment) (blocks : List Block) : Type 0 where
  pub exact : (address : ℕ) → address < 2 ^ 128 → IsIn address blocks ↔ IsListedOf kind chosen adjustment address
  pub fewest : IsJoined blocks blocks

-- of a kind that is not wanted there are none
abbrev pub AreFewestWanted : Kinds → BlockKind → Chosen → Adjustment → List Block → Type 0
AreFewestWanted kinds kind chosen adjustment blocks = (IsWanted kinds kind × AreFewestOf kind chosen adjustment blocks) ⊎ (¬ IsWanted kinds kind × (blocks ≡ []))

-- what ends a list, as its page says, of which all networks could be read or not
abbrev pub EndsList : Bool → Page → List ℕ → Type 0
EndsList true page text = IsEndOf page text
EndsList false page text = text ≡ breaking_of page.syntax

-- The text of a list: what comes before all networks, of each wanted kind the fewest blocks of its addresses, and what ends it.
pub record IsListText (syntax : Syntax) (kinds : Kinds) (chosen : Chosen) (adjustment : Adjustment) (is_whole : Bool) (text : List ℕ) : Type 0 where
  pub ipv4 : List Block
  pub ipv6 : List Block
  pub ending : List ℕ
  pub ipv4_is : AreFewestWanted kinds Ipv4 chosen adjustment ipv4
  pub ipv6_is : AreFewestWanted kinds Ipv6 chosen adjustment ipv6
  pub ends : EndsList is_whole (no_networks syntax kinds Fill).page ending
  pub text_is : text ≡ beginning_of syntax kinds ++ kind_text syntax Ipv4 Fill ipv4 ++ kind_text syntax Ipv6 Fill ipv6 ++ ending

-- ---- lists without networks

-- a list has an address of a wanted kind
abbrev pub HasAddress : Kinds → Chosen → Adjustment → Type 0
HasAddress kinds chosen adjustment = (kind : BlockKind) × (address : ℕ) × IsWanted kinds kind × (address < 2 ^ 128) × IsListedOf kind chosen adjustment address

-- a list of plain blocks may lack networks
abbrev pub may_lack_of : Shape → Bool
may_lack_of (ListShape Cidr) = true
may_lack_of _ = false

-- a list may have no networks
abbrev pub may_be_empty_of : ExportTask → Bool
may_be_empty_of task = task.allow_empty || may_lack_of task.shape

-- Why a list is not written. Where it would have no networks, and may not, nothing is written.
abbrev pub ListFails : ExportTask → Chosen → Adjustment → Option (List ℕ) → Option (List ℕ) → ProgramError → Type 0
ListFails task chosen adjustment before after EmptyList =
    (may_be_empty_of task ≡ false) × ¬ HasAddress task.kinds chosen adjustment × Appends before after []
ListFails task chosen adjustment before after OutOfOrder = Unit {0}
ListFails task chosen adjustment before after Memory = Unit {0}
ListFails task chosen adjustment before after (Write e) = Unit {0}
ListFails task chosen adjustment before after _ = ⊥

-- ---- its parts

-- blocks of a kind are pushed, if it is wanted, and this text is printed of them
abbrev pub ArePushed : BlockKind → List Block → Listing → List ℕ → Listing → Type 0
ArePushed kind blocks old text new = (IsWanted old.page.kinds kind × PushesAll kind blocks old text new)
    ⊎ (¬ IsWanted old.page.kinds kind × (new ≡ old) × (text ≡ []))

-- the fewest blocks of a kind are pushed, if it is wanted
abbrev pub PushesListed : Kinds → BlockKind → Chosen → Adjustment → Listing → List ℕ → Listing → Type 0
PushesListed kinds kind chosen adjustment old text new =
    (blocks : List Block) × AreFewestWanted kinds kind chosen adjustment blocks × PushesAll kind blocks old text new

-- what is left of a list, what comes before all networks where there are none, and what comes after them
abbrev pub IsFinished : Listing → Bool → List ℕ → Type 0
IsFinished list is_whole text = (ending : List ℕ) × EndsList is_whole (finished_page list) ending
    × (text ≡ finished_text list ++ beginning_left (finished_page list) ++ ending)

-- a list is ended that has networks or may have none
abbrev pub MayEnd : Listing → Bool → Type 0
MayEnd list may_be_empty = (may_be_empty ≡ true) ⊎ ((finished_page list).has_begun ≡ true)

-- it has none and may not, and nothing was written but what was left; or the output failed, or memory is out
abbrev pub EndFails : Listing → Bool → Option (List ℕ) → Option (List ℕ) → ProgramError → Type 0
EndFails list may_be_empty before after EmptyList =
    (may_be_empty ≡ false) × ((finished_page list).has_begun ≡ false) × Appends before after (finished_text list)
EndFails list may_be_empty before after Memory = Unit {0}
EndFails list may_be_empty before after (Write e) = Unit {0}
EndFails list may_be_empty before after _ = ⊥

-- ---- lists that are written while networks come

-- what is asked of the records at offsets of these data sections: whether they meet all conditions; and what a list prints
abbrev pub listed_of : List Condition → List (List ℕ) → Asked Listing
listed_of conditions s = record {
  says = λ offsets b. SaysAllMetBy conditions (outlines_of s offsets) b;
  unsaid = λ offsets. HasUnreadBy conditions (outlines_of s offsets);
  puts = puts_listed nothing s;
  unput = needs_nothing nothing s;
  leaves = leaves_listed nothing s;
}

-- The text of what a list prints of the networks that are put of those that come, one after another, from a list without networks;
-- and of what is left then and what ends it, by which it is whole where each could be read.
pub record IsListOf (comes : List Item → Type 0) (a : Asked Listing) (syntax : Syntax) (kinds : Kinds) (text : List ℕ) : Type 0 where
  pub items : List Item
  pub put : List Had
  pub unread : ℕ
  pub lines : List ℕ
  pub list : Listing
  pub ending : List ℕ
  pub come : comes items
  pub picked : ArePicked a items put unread
  pub ran : Runs a.puts put (no_networks syntax kinds Fill) lines list
  pub ended : IsFinished list (nat_eq unread 0) ending
  pub text_is : text ≡ lines ++ ending

-- these networks have an address of a wanted kind
abbrev pub HaveOne : Kinds → List Had → Type 0
HaveOne kinds put = (kind : BlockKind) × (address : ℕ) × IsWanted kinds kind × (address < 2 ^ 128) × IsAddressOf kind put address

-- The text of a list of the networks that are put of those that come: what comes before all networks, of each wanted kind the lines
-- of the fewest blocks that have exactly their addresses, and what ends it, by which it is whole where each could be read. There is
-- an address, unless the list may be empty.
pub record IsListOfFewest (comes : List Item → Type 0) (a : Asked Listing) (syntax : Syntax) (kinds : Kinds) (may_be_empty : Bool) (text : List ℕ) : Type 0 where
  pub items : List Item
  pub put : List Had
  pub unread : ℕ
  pub ipv4 : List Block
  pub ipv6 : List Block
  pub ending : List ℕ
  pub come : comes items
  pub picked : ArePicked a items put unread
  pub ipv4_exact : HaveAddresses kinds Ipv4 put ipv4
  pub ipv6_exact : HaveAddresses kinds Ipv6 put ipv6
  pub ipv4_fewest : IsJoined ipv4 ipv4
  pub ipv6_fewest : IsJoined ipv6 ipv6
  pub ends : EndsList (nat_eq unread 0) (no_networks syntax kinds Fill).page ending
  pub text_is : text ≡ beginning_of syntax kinds ++ kind_text syntax Ipv4 Fill ipv4 ++ kind_text syntax Ipv6 Fill ipv6 ++ ending
  pub not_empty : may_be_empty ≡ false → HaveOne kinds put

-- the networks that are put of those that come have no address of a wanted kind
pub record HasNoneOf (comes : List Item → Type 0) (a : Asked Listing) (kinds : Kinds) : Type 0 where
  pub items : List Item
  pub put : List Had
  pub unread : ℕ
  pub come : comes items
  pub picked : ArePicked a items put unread
  pub none : ¬ HaveOne kinds put

-- Why it is not written. Where it would have no networks, and may not, nothing is written; nor where the database can't be walked.
abbrev pub ListOfFewestFails : (List Item → Type 0) → Asked Listing → Kinds → Bool → Option (List ℕ) → Option (List ℕ) → ProgramError → Type 0
ListOfFewestFails comes a kinds may_be_empty before after EmptyList = (may_be_empty ≡ false) × HasNoneOf comes a kinds × Appends before after []
ListOfFewestFails comes a kinds may_be_empty before after (OfDatabase e) = Appends before after []
ListOfFewestFails comes a kinds may_be_empty before after OutOfOrder = Unit {0}
ListOfFewestFails comes a kinds may_be_empty before after Memory = Unit {0}
ListOfFewestFails comes a kinds may_be_empty before after (Write e) = Unit {0}
ListOfFewestFails comes a kinds may_be_empty before after _ = ⊥

-- exactly what is listed of a range of a database may come
abbrev pub ComesListed : Database → Option IpNetwork → List Item → Type 0
ComesListed db range items = items ≡ map (item_listed db) (items_in db range)

-- of the networks of some kinds of a range of a database, as far as they are in it
abbrev pub ComesOfDatabase : Database → Option IpNetwork → Kinds → List Item → Type 0
ComesOfDatabase db range kinds = ComesInPart kinds range (ComesListed db range)

-- what is asked of the records of a database
abbrev pub asked_of_database : List Condition → Database → Asked Listing
asked_of_database conditions db = listed_of conditions (data_section db ∷ [])

-- ---- errors

-- an error of a list or of ranges, as the program reports it
abbrev pub list_error : BlocksError → ProgramError
list_error (ListWrite e) = Write e
list_error ListOutOfOrder = OutOfOrder
list_error ListMemory = Memory

abbrev pub ranges_error : RangesError → ProgramError
ranges_error RangesOutOfOrder = OutOfOrder
ranges_error RangesMemory = Memory

abbrev pub list_result : Result (Unit {0}) BlocksError → Result (Unit {0}) ProgramError
list_result (Ok done) = Ok done
list_result (Err e) = Err (list_error e)

-- it is one of these
abbrev pub IsOfList : ProgramError → Type 0
IsOfList (Write e) = Unit {0}
IsOfList OutOfOrder = Unit {0}
IsOfList Memory = Unit {0}
IsOfList _ = ⊥
