-- What two databases have that are walked side by side.
use Rattle.std.specs.Prelude.{◌≡◌, ◌<◌, ◌^◌, ℕ, Bool, true, false, List, [], ◌∷◌, map, if◌then◌else◌, nat_lt}
use Rattle.mmdb_blocks.specs.Blocks.{end}
use Rattle.mmdb_net.specs.Network.{ip_of}
use Rattle.mmdb_net.specs.declared.network.IpNetwork.{IpNetwork}
use Rattle.mmdb_reader.specs.File.{Database, data_section}
use Rattle.mmdb_reader.specs.Lookup.{CanAsk}
use Rattle.mmdb_compare.specs.Coming.{Leaf, Coming, Answer, answer_of, between}
use Rattle.mmdb_compare.specs.Coming.Leaf.{Network, Unread}
use Rattle.mmdb_compare.specs.Listed.{all_of}
use Rattle.mmdb_compare.specs.Same.{Sections}
use Rattle.mmdb_compare.specs.Together.{are_shown, offset_in}
use Rattle.mmdb_cmd_diff.specs.Lines.{Both}

-- What a database has at an address, by the first network that ends after it. Leaves that can't be read are passed: what is between
-- one and the next network is not known.
abbrev pub has_at : ℕ → List Leaf → Bool → Answer
has_at at [] is_unknown = between is_unknown
has_at at (Unread ∷ leaves) is_unknown = has_at at leaves true
has_at at (Network block offset ∷ leaves) is_unknown =
    if nat_lt at (end block) then answer_of at (Network block offset ∷ leaves) is_unknown else has_at at leaves false

-- what each of some databases has there
abbrev pub all_at : List Coming → ℕ → List Answer
all_at left address = map (λ c. has_at address c.leaves c.is_unknown) left

-- where the records of two databases are at each address
abbrev pub both_of : List Coming → Both
both_of left is_ipv4 address = (offset_in (all_at left address) 0, offset_in (all_at left address) 1)

-- it is known what both have at an address, and one of them has a record
abbrev pub IsShownAt : List Coming → ℕ → Type 0
IsShownAt left address = (address < 2 ^ 128) × (are_shown (all_at left address) ≡ true)

-- Two databases, with these data sections, are asked for all that comes of a range.
pub record AreCompared (sections : Sections) (databases : List Database) (left : List Coming) : Type 0 where
  pub old : Database
  pub new : Database
  pub range : IpNetwork
  pub databases_are : databases ≡ old ∷ new ∷ []
  pub left_is : left ≡ all_of old range ∷ all_of new range ∷ []
  pub can_ask_old : CanAsk old (ip_of range)
  pub can_ask_new : CanAsk new (ip_of range)
  pub in_old : sections.in_old ≡ data_section old
  pub in_new : sections.in_new ≡ data_section new
