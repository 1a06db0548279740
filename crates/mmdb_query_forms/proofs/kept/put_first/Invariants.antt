use Rattle.std.proofs.Common.{◌≡◌, length}
use Rattle.mmdb_query_forms.specs.Kept.{AreAllKept}
use Rattle.mmdb_query_forms.proofs.KeptLaws.{ValuesWay}
use Rattle.mmdb_query_forms.proofs.kept.put_first.Given as goal

-- no database before this one has a value, so nothing was added
abbrev pub invariant-loop-place : goal.invariant-loop-place
invariant-loop-place g l = record {
  many : length l.caches.items ≡ length l.fn.caches.items;
  kept : AreAllKept l.printer.form l.path (g.A.Answer.sections l.answer) l.caches.items;
  way : ValuesWay l.path (g.A.Answer.sections l.answer) (g.A.Answer.had l.answer).offsets l.place;
  same : l.out.items ≡ l.fn.out.items;
}
