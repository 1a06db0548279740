use Rattle.std.proofs.Common.{refl, rules}
use Rattle.std.proofs.lemmas.Bool.{false≢true}
use Rattle.mmdb_blocks.specs.Joining.{settled_of}
use Rattle.mmdb_blocks.proofs.ListLaws.{empty-of}
use Rattle.mmdb_blocks.proofs.list.List.take.Goals as goal

pub returns-in-Ok : goal.returns-in-Ok
returns-in-Ok c = (
  record {
    at_hand = search rules;
    joins = record { after = λ pushed handed h. (c.in-Ok.ensures.taken pushed handed h).0 refl; joining = c.in-Ok.ensures.ok };
    page = refl;
    same = refl;
  },
  empty-of c.settled.result.now (settled_of c.push.new.self) c.settled.ensures.all c.if-is_empty.ensures,
)

pub returns-in-Ok-2 : goal.returns-in-Ok-2
returns-in-Ok-2 c = (
  record {
    at_hand = search rules;
    joins = record { after = λ pushed handed h. (c.in-Ok-2.ensures.taken pushed handed h).0 refl; joining = c.in-Ok-2.ensures.ok };
    page = refl;
    same = refl;
  },
  λ none. search rules,
)

pub returns-in-Err : goal.returns-in-Err
returns-in-Err c = (
  rw c.in-Err.ensures.err refl,
  λ at_hand pushed handed h p. absurd (false≢true ((c.in-Err.ensures.taken pushed handed h).1 p)),
)
