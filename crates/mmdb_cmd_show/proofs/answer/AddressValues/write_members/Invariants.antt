use Rattle.std.proofs.Common.{◌≡◌, ◌++◌, ◌&&◌, Bool, ℕ, List, drop, length}
use Rattle.json.specs.Json.{Members}
use Rattle.json.specs.Tree.{members_tokens}
use Rattle.mmdb_cmd_show.specs.Printed.{HasValues, IsFirstUnread}
use Rattle.mmdb_cmd_show.proofs.answer.AddressValues.write_members.Given as goal

-- the members of what is left complete those of all, and so does what can't be read
abbrev pub invariant-loop-name : goal.invariant-loop-name
invariant-loop-name g l = record {
  can_next : (goal.iterator-loop-name g).can_next l.name-iterator;
  is_finite : (goal.iterator-loop-name g).is_finite l.name-iterator;
  completes : (members : Members) (b : Bool) → HasValues l.fn.self.databases.now l.fn.self.address (drop (length l.yielded) l.fn.fields.names.items) (drop (length l.yielded) l.fn.fields.paths.items) members b
      → (whole : Members) × HasValues l.fn.self.databases.now l.fn.self.address l.fn.fields.names.items l.fn.fields.paths.items whole (l.are_found && b)
      × (g.W.TokenSink.tokens l.out ++ members_tokens members ≡ g.W.TokenSink.tokens l.fn.out ++ members_tokens whole);
  unread : (name : List ℕ) → IsFirstUnread l.fn.self.databases.now l.fn.self.address (drop (length l.yielded) l.fn.fields.paths.items) name → IsFirstUnread l.fn.self.databases.now l.fn.self.address l.fn.fields.paths.items name;
  front : g.W.TokenSink.front l.out ≡ g.W.TokenSink.front l.fn.out;
}
