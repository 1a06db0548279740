-- Several databases side by side.
use Rattle.std.specs.Prelude.{◌≡◌, ◌↔◌, ◌<◌, ◌≤◌, ◌^◌, ◌+◌, ◌*◌, ℕ, Bool, IsTrue, List, [], ◌∷◌, take, map, Option, Some}
use Rattle.mmdb_net.specs.Bits.{bits_of}
use Rattle.mmdb_blocks.specs.declared.block.Block.{Block}
use Rattle.mmdb_compare.specs.Coming.{Answer}
use Rattle.mmdb_compare.specs.Together.{Abreast, AreOver, IsNextOfAll, offset_of}
use Rattle.mmdb_compare.specs.declared.together.TogetherStretch.{TogetherStretch}
use Rattle.mmdb_compare.specs.declared.together.TogetherPart.TheVariants.{Stretch as StretchPart, Unread as UnreadPart}
use Rattle.mmdb_query.specs.Had.{Had}
use Rattle.mmdb_query.specs.Keys.{digit_of, radix_of}
use Rattle.mmdb_query.specs.Walks.{Item}
use Rattle.mmdb_query.specs.Walks.Item.{Found, Unread}

-- a block is to be shown as a network of IPv4, and its addresses are some of IPv4
abbrev pub IsOfIpv4 : Bool → Block → Type 0
IsOfIpv4 is_ipv4 block = IsTrue is_ipv4 × (96 ≤ block.prefix) × (block.first < 2 ^ 32)

-- a network has the addresses of a stretch, and its kind
pub record IsOfStretch (had : Had) (stretch : TogetherStretch) : Type 0 where
  pub bits : had.bits ≡ take stretch.block.prefix (bits_of 128 stretch.block.first)
  pub kind : IsTrue had.as_ipv4 ↔ IsOfIpv4 stretch.is_ipv4 stretch.block

-- where each database has its record, by what they answer
abbrev pub offsets_said : List Answer → List (Option ℕ)
offsets_said answers = map offset_of answers

-- What may come of databases side by side: the parts that are handed out one after another, each of them a block in which each
-- database has one answer, or a leaf that can't be read; and nothing more where all addresses are passed.
abbrev pub ComesAbreast : Abreast → List Item → Type 0
ComesAbreast before [] = (after : Abreast) × AreOver before after
ComesAbreast before (Found had ∷ items) =
    (after : Abreast) × (stretch : TogetherStretch) × IsNextOfAll before after (StretchPart stretch) × IsOfStretch had stretch
    × (had.offsets ≡ offsets_said after.answers) × ComesAbreast after items
ComesAbreast before (Unread ∷ items) = (after : Abreast) × (place : ℕ) × IsNextOfAll before after (UnreadPart place) × ComesAbreast after items

-- ---- what only contracts of private functions and proofs name

-- a key with one more digit
abbrev pub IsLonger : Option ℕ → List ℕ → Option ℕ → ℕ → Type 0
IsLonger before section offset key =
    (number : ℕ) × (before ≡ Some number) × (digit_of offset < radix_of section) × (key ≡ number * radix_of section + digit_of offset)
