-- The bytes of an address's text.
use Rattle.std.specs.Prelude.{ℕ, List, take}
use Rattle.mmdb_addresses.specs.declared.address_text.AddressText.{AddressText}

abbrev pub spelling : AddressText → List ℕ
spelling text = take text.length text.bytes
