-- The names of members.
use Rattle.std.proofs.Common.{◌≡◌, ℕ, List, ap, ◌∙◌, append-nil}
use Rattle.json.specs.Print.{print, print_from, quoted}
use Rattle.json.specs.Tree.{json_tokens}
use Rattle.mmdb_format.specs.Contents.{text}
use Rattle.mmdb_format.specs.Unfolding.{scalar}
use Rattle.mmdb_json.specs.Texts.{IsCompact}

-- the JSON of a text
pub compact_text : (x key : List ℕ) → IsCompact (scalar (text x)) key → key ≡ quoted x
unfolding print_from
compact_text x key is = is.text_is ∙ ap (λ j. print (json_tokens j)) is.shows ∙ append-nil (quoted x)
