use Rattle.std.proofs.Common.{◌≡◌, ◌-◌, ◌<◌, ◌≤◌, ◌||◌, true, false, List, None, length, drop, option_map}
use Rattle.json.specs.Find.{get_member}
use Rattle.json.specs.Json.{Members}
use Rattle.json.specs.Word.{head}
use Rattle.json.specs.Lex.{Lexeme, Place, fresh, may_begin}
use Rattle.mmdb_objects.specs.Objects.{has_member, is_empty}
use Rattle.mmdb_objects.specs.Scanned.{lexemes_at, BeginWithMembers}
use Rattle.mmdb_objects.proofs.FoundLaws.{text_or}
use Rattle.mmdb_objects.proofs.one_pass.follow_object.Given as goal

abbrev pub invariant-loop-key : goal.invariant-loop-key
invariant-loop-key l = record {
  low : l.fn.from ≤ l.at;
  within : l.at < length l.text;
  first : head (drop l.at l.text) ≡ 34;
  reads : (ms : Members) (rest : List Lexeme) → ((p : Place) → may_begin p ≡ true → BeginWithMembers l.depth p (lexemes_at l.text l.at) ms rest)
      → (all : Members) × BeginWithMembers l.depth fresh (lexemes_at l.text l.fn.from) all rest
      × (text_or l.path (get_member l.name all) None ≡ text_or l.path (get_member l.name ms) (option_map (λ s. s.now) l.found))
      × (is_empty ms ≡ false → is_empty all ≡ false)
      × (has_member l.other all ≡ (l.is_taken || has_member l.other ms));
}

abbrev pub decreases-loop-key : goal.decreases-loop-key
decreases-loop-key l = length l.text - l.at
