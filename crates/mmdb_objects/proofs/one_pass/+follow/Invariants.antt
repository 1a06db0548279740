use Rattle.std.proofs.Common.{◌≡◌, ◌+◌, ◌-◌, ◌*◌, ◌<◌, ◌≤◌, true, List, None, length, drop, option_map}
use Rattle.json.specs.Find.{get_member}
use Rattle.json.specs.Json.{Members}
use Rattle.json.specs.Word.{head}
use Rattle.json.specs.Lex.{Lexeme, Place, fresh, may_begin}
use Rattle.mmdb_objects.specs.Scanned.{lexemes_at, BeginWithMembers}
use Rattle.mmdb_objects.proofs.FoundLaws.{text_or}
use Rattle.mmdb_objects.proofs.one_pass.+follow.Given as goal

abbrev pub decreases-follow : goal.decreases-follow
decreases-follow l = 3 * length l.path.now

abbrev pub decreases-follow_member : goal.decreases-follow_member
decreases-follow_member l = 3 * length l.path.now + 1

abbrev pub decreases-follow_members : goal.decreases-follow_members
decreases-follow_members l = 3 * length l.path.now + 2

abbrev pub invariant-follow_members-loop-key : goal.invariant-follow_members-loop-key
invariant-follow_members-loop-key l = record {
  low : l.fn.from ≤ l.at;
  within : l.at < length l.text;
  first : head (drop l.at l.text) ≡ 34;
  reads : (ms : Members) (rest : List Lexeme) → ((p : Place) → may_begin p ≡ true → BeginWithMembers l.depth p (lexemes_at l.text l.at) ms rest)
      → (all : Members) × BeginWithMembers l.depth fresh (lexemes_at l.text l.fn.from) all rest
      × (text_or l.path (get_member l.name all) None ≡ text_or l.path (get_member l.name ms) (option_map (λ s. s.now) l.found));
}

abbrev pub decreases-follow_members-loop-key : goal.decreases-follow_members-loop-key
decreases-follow_members-loop-key l = length l.text - l.at
