-- Conditions that records decide. A number may be shown by more than one JSON if it is a double or a float, so of conditions that
-- compare one nothing is claimed.
use Rattle.std.specs.Prelude.{◌≡◌, ◌↔◌, ℕ, List, [], ◌∷◌, Option, Some}
use Rattle.std.specs.List.{All}
use Rattle.std.specs.declared.net.ip_addr.IpAddr.{IpAddr}
use Rattle.mmdb_format.specs.Contents.{double_bits, float_bits}
use Rattle.mmdb_format.specs.Unfolding.{Tree, scalar, pointer}
use Rattle.mmdb_reader.specs.File.{Database, data_section}
use Rattle.mmdb_reader.specs.declared.path.PathElement.{PathElement}
use Rattle.mmdb_layout.specs.declared.condition.Condition.{Condition}
use Rattle.mmdb_layout.specs.declared.condition.Requirement.{Requirement}
use Rattle.mmdb_layout.specs.declared.condition.Requirement.TheVariants.{OneOf, NoneOf, Part, Present, Above, Below}
use Rattle.mmdb_query.specs.Answered.{IsOfWidth, HasAddress, HasRecord, IsAnswered, HasOnlyMet, HasAllMet}
use Rattle.mmdb_query.specs.Reading.{outlines_of}
use Rattle.mmdb_query.specs.declared.addresses.Addresses.{Addresses}
use Rattle.mmdb_query_forms.specs.Met.{says_all, has_unread}
use Rattle.mmdb_query_forms.specs.declared.all_of.AllOf.{AllOf}

-- a value is neither a double nor a float, and not behind a pointer: those that are read have none
abbrev pub IsNoFloat : Tree → Type 0
IsNoFloat (scalar (double_bits _)) = ⊥
IsNoFloat (scalar (float_bits _)) = ⊥
IsNoFloat (pointer _ _) = ⊥
IsNoFloat _ = Unit {0}

-- A value decides what is asked for: any does whether there is one, or a text that has others in it; and one that is compared
-- does unless it is a double or a float.
abbrev pub Decides : Requirement → Tree → Type 0
Decides OneOf v = IsNoFloat v
Decides NoneOf v = IsNoFloat v
Decides Part v = Unit {0}
Decides Present v = Unit {0}
Decides Above v = IsNoFloat v
Decides Below v = IsNoFloat v

-- the value that is read at the path of a condition decides it, if there is one
abbrev pub IsDecided : (List PathElement → Option (Option Tree)) → Condition → Type 0
IsDecided reads condition = (v : Tree) → reads condition.path.items ≡ Some (Some v) → Decides condition.wanted v

-- the record that a lookup of an address finds decides all conditions
abbrev pub AreDecided : AllOf → Database → IpAddr → Type 0
AreDecided all db address = (offset : ℕ) → HasRecord db address offset
    → All (IsDecided (outlines_of (data_section db ∷ []) (Some offset ∷ []))) all.conditions.now

-- A set that has only the addresses of records that meet conditions, and all of them unless that can't be read, has such an
-- address exactly where its record meets them.
abbrev pub SetsOfDecidedAreExact : Type 0
SetsOfDecidedAreExact = (all : AllOf) (db : Database) (set : Addresses) (unread : ℕ)
    → HasOnlyMet db (says_all all (data_section db ∷ [])) set
    → HasAllMet db (says_all all (data_section db ∷ [])) (has_unread all (data_section db ∷ [])) set unread
    → (address : IpAddr) → IsOfWidth address → AreDecided all db address
    → HasAddress set address ↔ IsAnswered db (says_all all (data_section db ∷ [])) address
