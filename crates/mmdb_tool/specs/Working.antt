-- What contracts of private functions and proofs name.
use Rattle.std.specs.Prelude.{◌≡◌, ℕ, List, ◌++◌, Option, codes}
use Rattle.std.specs.Io.KnownBytes.{Appends}
use Rattle.mmdb_net.specs.declared.network.IpNetwork.{IpNetwork}
use Rattle.mmdb_net.specs.Network.{full_text_of}
use Rattle.mmdb_tool.specs.Lines.{offset_text}

-- known bytes grow by a beginning of the text, of which this much is left
pub record PutsFront (old new : Option (List ℕ)) (text left : List ℕ) : Type 0 where
  pub front : List ℕ
  pub is_front : text ≡ front ++ left
  pub appended : Appends old new front

-- the line of a network
abbrev pub network_line : IpNetwork → Option ℕ → List ℕ
network_line network offset = full_text_of network ++ (codes " " ++ (offset_text offset ++ codes "\n"))
