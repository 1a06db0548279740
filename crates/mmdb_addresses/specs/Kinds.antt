-- Which bytes a kind has. Only contracts of private functions and proofs name it.
use Rattle.std.specs.Prelude.{ℕ, Bool, ◌==◌, not}
use Rattle.mmdb_addresses.specs.Bytes.{is_blank, ends_word, is_name_byte, is_run_byte}
use Rattle.mmdb_addresses.specs.declared.bytes.AddressKind.{AddressKind}
use Rattle.mmdb_addresses.specs.declared.bytes.AddressKind.TheVariants.{Blank, InWord, Name, InRun, OffRun, Not}

abbrev pub has : AddressKind → ℕ → Bool
has Blank x = is_blank x
has InWord x = not (ends_word x)
has Name x = is_name_byte x
has InRun x = is_run_byte x
has OffRun x = not (is_run_byte x)
has (Not byte) x = not (x == byte)
