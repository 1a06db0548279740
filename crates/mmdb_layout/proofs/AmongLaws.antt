-- Which values are among texts, by their JSON.
use Rattle.std.proofs.Common.{◌≡◌, ℕ, List, Option, Some, None, Bool, false, sym, subst}
use Rattle.std.proofs.lemmas.Bool.{true≢false}
use Rattle.mmdb_format.specs.Contents.{text, bytes, boolean, signed32, number16, number32, number64, number128, double_bits, float_bits}
use Rattle.mmdb_format.specs.Unfolding.{Tree, scalar, array, table, pointer}
use Rattle.mmdb_json.specs.Texts.{IsCompact}
use Rattle.mmdb_layout.specs.Conditions.{SaysWrittenBy, SaysAmong, text_of}
use Rattle.mmdb_layout.specs.Working.{is_container}

abbrev IsNone : {A : Type 0} → Option A → Type 0
IsNone None = Unit {0}
IsNone (Some x) = ⊥

-- what is said of the JSON of a value that is no text and no container is said of the value
pub among : (v : Tree) (json : List ℕ) (texts : List (List ℕ)) (b : Bool) → text_of v ≡ None → is_container v ≡ false → IsCompact v json → SaysWrittenBy v json texts b → SaysAmong v texts b
among (scalar (bytes x)) json texts b plain alone compact says = (json, compact, says)
among (scalar (boolean x)) json texts b plain alone compact says = (json, compact, says)
among (scalar (signed32 x)) json texts b plain alone compact says = (json, compact, says)
among (scalar (number16 x)) json texts b plain alone compact says = (json, compact, says)
among (scalar (number32 x)) json texts b plain alone compact says = (json, compact, says)
among (scalar (number64 x)) json texts b plain alone compact says = (json, compact, says)
among (scalar (number128 x)) json texts b plain alone compact says = (json, compact, says)
among (scalar (double_bits x)) json texts b plain alone compact says = (json, compact, says)
among (scalar (float_bits x)) json texts b plain alone compact says = (json, compact, says)
among (pointer a t) json texts b plain alone compact says = (json, compact, says)
among (scalar (text x)) json texts b plain alone compact says = absurd (subst IsNone (sym plain) tt)
among (array ts) json texts b plain alone compact says = absurd (true≢false alone)
among (table ps) json texts b plain alone compact says = absurd (true≢false alone)
