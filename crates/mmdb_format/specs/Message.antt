-- The text that an error was made of.
use Rattle.std.specs.Prelude.{ℕ, List, Option, Some, None, string_bytes}
use Rattle.mmdb_format.specs.declared.message.Message.{Message}
use Rattle.mmdb_format.specs.declared.message.Message.TheVariants.{Fixed, Made}

-- the bytes of a made text; a fixed one has none of its own
abbrev pub message_made : Message → Option (List ℕ)
message_made (Made text) = Some (string_bytes text.value)
message_made (Fixed text) = None
