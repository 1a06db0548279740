use Rattle.std.proofs.Common.{◌≡◌, ◌+◌, ◌-◌, ◌*◌, ◌<◌, ◌≤◌, true, List, length, drop}
use Rattle.json.specs.Json.{Items, Members}
use Rattle.json.specs.Word.{head}
use Rattle.json.specs.Lex.{Lexeme, Place, fresh, may_begin}
use Rattle.mmdb_objects.specs.Scanned.{lexemes_at, BeginWithItems, BeginWithMembers}
use Rattle.mmdb_objects.proofs.one_pass.+scan.Given as goal

abbrev pub decreases-value_end : goal.decreases-value_end
decreases-value_end l = 2 * l.depth

abbrev pub decreases-items_end : goal.decreases-items_end
decreases-items_end l = 2 * l.depth + 1

abbrev pub decreases-members_end : goal.decreases-members_end
decreases-members_end l = 2 * l.depth + 1

abbrev pub invariant-items_end-loop-item : goal.invariant-items_end-loop-item
invariant-items_end-loop-item l = record {
  low : l.fn.from ≤ l.at;
  high : l.at ≤ length l.text;
  reads : (js : Items) (rest : List Lexeme) → ((p : Place) → may_begin p ≡ true → BeginWithItems l.depth p (lexemes_at l.text l.at) js rest)
      → (all : Items) × BeginWithItems l.depth fresh (lexemes_at l.text l.fn.from) all rest;
}

abbrev pub decreases-items_end-loop-item : goal.decreases-items_end-loop-item
decreases-items_end-loop-item l = length l.text - l.at

abbrev pub invariant-members_end-loop-key : goal.invariant-members_end-loop-key
invariant-members_end-loop-key l = record {
  low : l.fn.from ≤ l.at;
  within : l.at < length l.text;
  first : head (drop l.at l.text) ≡ 34;
  reads : (ms : Members) (rest : List Lexeme) → ((p : Place) → may_begin p ≡ true → BeginWithMembers l.depth p (lexemes_at l.text l.at) ms rest)
      → (all : Members) × BeginWithMembers l.depth fresh (lexemes_at l.text l.fn.from) all rest;
}

abbrev pub decreases-members_end-loop-key : goal.decreases-members_end-loop-key
decreases-members_end-loop-key l = length l.text - l.at
