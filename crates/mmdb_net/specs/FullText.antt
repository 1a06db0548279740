-- The full text of a network: the address of its bits, with zeros after them and every group
-- written out, then `/` and how many bits it has.
use Rattle.std.specs.Prelude.{ℕ, ◌/◌, ◌%◌, Bool, List, [], ◌∷◌, ◌++◌, length, map, codes, decimal}
use Rattle.std.specs.Char.{digit_char}
use Rattle.std.specs.Int.{w32, w128, to_be_bytes}
use Rattle.std.specs.List.{join_with_byte}
use Rattle.std.specs.Net.Addr.{segments_of}
use Rattle.std.specs.Net.Text.{ipv4_text}
use Rattle.mmdb_net.specs.Bits.{number_of}

-- a group of four lower-case hexadecimal digits
abbrev pub hex_group : ℕ → List ℕ
hex_group n = digit_char (n / 0x1000) ∷ digit_char (n / 0x100 % 16) ∷ digit_char (n / 0x10 % 16)
    ∷ digit_char (n % 16) ∷ []

-- groups with colons between them
unfoldable pub groups_text : List ℕ → List ℕ
groups_text segments = join_with_byte 58 (map hex_group segments)

-- `/` and a prefix
abbrev pub prefix_text : ℕ → List ℕ
prefix_text prefix = codes "/" ++ decimal prefix

-- the text of the IPv4 network of these bits: dotted decimal, and the prefix
unfoldable pub ipv4_full_text : List Bool → List ℕ
ipv4_full_text block =
    ipv4_text (to_be_bytes w32 (number_of 32 block)) ++ prefix_text (length block)

-- the text of the IPv6 network of these bits: eight groups of four digits, and the prefix
unfoldable pub ipv6_full_text : List Bool → List ℕ
ipv6_full_text block =
    groups_text (segments_of (to_be_bytes w128 (number_of 128 block)))
    ++ prefix_text (length block)
