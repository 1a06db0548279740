-- Networks that the reader lists, as blocks.
use Rattle.std.proofs.Common.{◌≡◌, ℕ, ◌+◌, ◌-◌, ◌*◌, ◌/◌, ◌%◌, ◌^◌, ◌<◌, ◌≤◌, Bool, true, false, List, [], ◌∷◌, ◌++◌, Option, nat_eq, take, refl, ap, arith, sym, subst, ◌∙◌, eqb-true, if◌then◌else◌}
use Rattle.std.proofs.lemmas.Bool.{lt-ltb}
use Rattle.std.proofs.lemmas.Bool.Decides.{nat_tests}
use Rattle.std.proofs.lemmas.Nat.{pow_pos}
use Rattle.std.proofs.Math.Dec.{ltb}
use Rattle.std.proofs.Math.Nat.{mul-mod_left}
use Rattle.mmdb_net.specs.Bits.{bits_of, zero_bits}
use Rattle.mmdb_net.specs.declared.network.IpNetwork.{IpNetwork}
use Rattle.mmdb_blocks.specs.declared.block.Block.{Block}
use Rattle.mmdb_blocks.specs.Blocks.{IsBlock}
use Rattle.mmdb_blocks.specs.Networks.{network_bits}
use Rattle.mmdb_blocks.proofs.NetworkLaws.{wide_bits}
use Rattle.mmdb_reader.specs.File.{Database, width, has_ipv6}
use Rattle.mmdb_reader.specs.Items.{Item, items_of}
use Rattle.mmdb_reader.specs.Items.Item.{Network as ItemNetwork}
use Rattle.mmdb_reader.specs.Listing.{listed}
use Rattle.mmdb_reader.specs.declared.options.WithinOptions.{WithinOptions}
use Rattle.mmdb_reader.specs.Options.{default_options}
use Rattle.mmdb_reader.specs.Numbered.{numbered_block, HasZerosAfter}
use Rattle.mmdb_reader.specs.Shown.{block_in}
use Rattle.mmdb_compare.specs.Coming.{Leaf, Coming, coming, coming_from, passed, block_of_bits}
use Rattle.mmdb_compare.specs.Coming.Leaf.{Network, Unread}
use Rattle.mmdb_compare.specs.Listed.{shown_bits, block_within, leaf_of_item, leaves_of_items, all_of}
use Rattle.mmdb_compare.proofs.BlockLaws.{block_is}
use Rattle.mmdb_compare.proofs.ComingLaws.{stays}

-- the zero bits before an address of IPv4 are 96
pub zeros_before : (ipv6 : Bool) (bits : List Bool) → zero_bits (128 - (if ipv6 then 128 else 32)) ++ (zero_bits (if ipv6 then 96 else 0) ++ bits) ≡ zero_bits 96 ++ bits
unfolding zero_bits
zeros_before true bits = refl
zeros_before false bits = refl

-- a network's numbers are its block
abbrev IsShownBlock : Database → List Bool → ℕ → ℕ → ℕ → Type 0
IsShownBlock db leaf width first prefix =
    let block : Block = record { first = first; prefix = 128 - width + prefix } in
    IsBlock block × (block ≡ block_of_bits (shown_bits db leaf (nat_eq width 32)))

multiple : (n p : ℕ) → n ≡ n / p * p → n % p ≡ 0
multiple n p e = ap (λ (k : ℕ). k % p) e ∙ mul-mod_left (n / p) p

aligned : (width prefix first : ℕ) → prefix ≤ width → width ≤ 128 → HasZerosAfter width prefix first → first % 2 ^ (128 - (128 - width + prefix)) ≡ 0
aligned width prefix first within small zeros =
    let e : 128 - (128 - width + prefix) ≡ width - prefix = omega (arith, within, small) in
    ap (λ (k : ℕ). first % 2 ^ k) e ∙ multiple first (2 ^ (width - prefix)) zeros

shown_short : (db : Database) (leaf : List Bool) (first prefix : ℕ) → numbered_block db 32 first prefix ≡ leaf → HasZerosAfter 32 prefix first → prefix ≤ 32 → first < 2 ^ 32 → IsShownBlock db leaf 32 first prefix
shown_short db leaf first prefix same zeros within fits =
    let block : Block = record { first = first; prefix = 96 + prefix } in
    let is : IsBlock block = record { prefix = omega (arith, within); first = omega (arith, fits); aligned = aligned 32 prefix first within (omega arith) zeros } in
    let bits : take (96 + prefix) (bits_of 128 first) ≡ zero_bits (128 - width db) ++ leaf = wide_bits first prefix fits ∙ sym (zeros_before (has_ipv6 db) (take prefix (bits_of 32 first))) ∙ ap (λ (l : List Bool). zero_bits (128 - width db) ++ l) same in
    (is, block_is block (zero_bits (128 - width db) ++ leaf) is bits)

shown_long : (db : Database) (leaf : List Bool) (first prefix : ℕ) → numbered_block db 128 first prefix ≡ leaf → HasZerosAfter 128 prefix first → prefix ≤ 128 → first < 2 ^ 128 → IsShownBlock db leaf 128 first prefix
shown_long db leaf first prefix same zeros within fits =
    let none : 128 - 128 + prefix ≡ prefix = omega arith in
    let block : Block = record { first = first; prefix = 128 - 128 + prefix } in
    let is : IsBlock block = record { prefix = omega (arith, within); first = fits; aligned = aligned 128 prefix first within (omega arith) zeros } in
    (is, block_is block leaf is (ap (λ (k : ℕ). take k (bits_of 128 first)) none ∙ same))

abbrev IsClaimed : Database → List Bool → ℕ → ℕ → ℕ → Type 0
IsClaimed db leaf first prefix w =
    numbered_block db w first prefix ≡ leaf → HasZerosAfter w prefix first → prefix ≤ w → first < 2 ^ w → IsShownBlock db leaf w first prefix

shown_by : (b : Bool) (db : Database) (leaf : List Bool) (width first prefix : ℕ) → nat_eq width 32 ≡ b → (nat_eq width 32 ≡ false → width ≡ 128) → IsClaimed db leaf first prefix width
shown_by true db leaf width first prefix e is_width = subst (IsClaimed db leaf first prefix) (sym (eqb-true width 32 e)) (shown_short db leaf first prefix)
shown_by false db leaf width first prefix e is_width = subst (IsClaimed db leaf first prefix) (sym (is_width e)) (shown_long db leaf first prefix)

pub shown_block : (db : Database) (leaf : List Bool) (width first prefix : ℕ) → (nat_eq width 32 ≡ false → width ≡ 128) → numbered_block db width first prefix ≡ leaf → HasZerosAfter width prefix first → prefix ≤ width → first < 2 ^ width → IsShownBlock db leaf width first prefix
shown_block db leaf width first prefix is_width = shown_by (nat_eq width 32) db leaf width first prefix refl is_width

-- a network that is wider than a range has all of it
pub within_narrow : (range block : Block) → block.prefix < range.prefix → range ≡ block_within range block
within_narrow range block h = rw (lt-ltb block.prefix range.prefix h) refl

-- and else it lies in it
pub within_wide : (range block : Block) → range.prefix ≤ block.prefix → block ≡ block_within range block
within_wide range block h = let e : ltb block.prefix range.prefix ≡ false = grind (arith, nat_tests) in rw e refl

-- the block of a network that was found
pub found_block : (db asked : Database) (range result : Block) (leaf : List Bool) (as_ipv4 : Bool) (width first prefix : ℕ) → asked ≡ db → (nat_eq width 32 ≡ false → width ≡ 128) → numbered_block asked width first prefix ≡ leaf → HasZerosAfter width prefix first → prefix ≤ width → first < 2 ^ width → nat_eq width 32 ≡ as_ipv4 → result ≡ block_within range (record { first = first; prefix = 128 - width + prefix }) → result ≡ block_within range (block_of_bits (shown_bits db leaf as_ipv4))
found_block db asked range result leaf as_ipv4 width first prefix same is_width numbered zeros within fits kind value =
    let shown = (shown_block asked leaf width first prefix is_width numbered zeros within fits).1 in
    value ∙ ap (block_within range) (shown ∙ ap (λ (d : Database). block_of_bits (shown_bits d leaf (nat_eq width 32))) same ∙ ap (λ (b : Bool). block_of_bits (shown_bits db leaf b)) kind)

-- the next item is the first of the leaves
pub next_network : (db after : Database) (range block : Block) (leaf : List Bool) (offset : Option ℕ) (as_ipv4 : Bool) (items rest : List Item) (u : Bool) → items ≡ ItemNetwork leaf offset as_ipv4 ∷ rest → after ≡ db → block ≡ block_within range (block_of_bits (shown_bits db leaf as_ipv4)) → coming (Network block offset ∷ leaves_of_items after range rest) u ≡ coming (leaves_of_items db range items) u
next_network db after range block leaf offset as_ipv4 items rest u e d b = rw (e, d, b) refl

pub next_leaf : (db after : Database) (range : Block) (item : Item) (items rest : List Item) → items ≡ item ∷ rest → after ≡ db → leaves_of_items db range items ≡ leaf_of_item db range item ∷ leaves_of_items after range rest
next_leaf db after range item items rest e d = rw (e, d) refl

-- what comes at the beginning
pub begun : (db walked : Database) (network : IpNetwork) (options : WithinOptions) (range : Block) (items : List Item) → options ≡ default_options → walked ≡ db → items ≡ items_of db (listed db options (block_in db network)) → IsBlock range → take range.prefix (bits_of 128 range.first) ≡ network_bits network → coming (leaves_of_items walked range items) false ≡ all_of db network
begun db walked network options range items o w i is bits =
    let same : range ≡ block_of_bits (network_bits network) = block_is range (network_bits network) is bits in
    let list : items ≡ items_of db (listed db default_options (block_in db network)) = i ∙ ap (λ (x : WithinOptions). items_of db (listed db x (block_in db network))) o in
    ap (λ (x : Database). coming (leaves_of_items x range items) false) w ∙ ap (λ (x : Block). coming (leaves_of_items db x items) false) same ∙ ap (λ (x : List Item). coming (leaves_of_items db (block_of_bits (network_bits network)) x) false) list

-- no network ends at the first address
first_left : (leaves : List Leaf) (u : Bool) → passed 0 leaves u ≡ coming leaves u
first_left [] u = refl
first_left (Unread ∷ leaves) u = refl
first_left (Network block offset ∷ leaves) u = stays 0 block offset leaves u (omega (arith, pow_pos (128 - block.prefix)))

pub from_first : (c : Coming) → coming_from 0 c ≡ c
from_first c = first_left c.leaves c.is_unknown
