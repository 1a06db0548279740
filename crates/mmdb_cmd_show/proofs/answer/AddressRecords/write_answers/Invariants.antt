use Rattle.std.proofs.Common.{◌≡◌, ◌++◌, ◌||◌, Bool, drop, length}
use Rattle.json.specs.Json.{Members}
use Rattle.json.specs.Tree.{members_tokens}
use Rattle.mmdb_cmd_show.specs.Printed.{HasDatabases}
use Rattle.mmdb_cmd_show.proofs.answer.AddressRecords.write_answers.Given as goal

-- the members of what is left complete those of all
abbrev pub invariant-loop-shown : goal.invariant-loop-shown
invariant-loop-shown g l = record {
  can_next : (goal.iterator-loop-shown g).can_next l.shown-iterator;
  is_finite : (goal.iterator-loop-shown g).is_finite l.shown-iterator;
  completes : (members : Members) (b : Bool) → HasDatabases l.fn.self.are_named (drop (length l.yielded) l.fn.self.databases.now) (drop (length l.yielded) l.fn.self.answers.now) members b
      → (whole : Members) × HasDatabases l.fn.self.are_named l.fn.self.databases.now l.fn.self.answers.now whole (l.has_record || b)
      × (g.W.TokenSink.tokens l.out ++ members_tokens members ≡ g.W.TokenSink.tokens l.fn.out ++ members_tokens whole);
  front : g.W.TokenSink.front l.out ≡ g.W.TokenSink.front l.fn.out;
}
