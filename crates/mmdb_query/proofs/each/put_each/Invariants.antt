use Rattle.std.proofs.Common.{◌≡◌, ◌≤◌}
use Rattle.mmdb_query.specs.Kept.{ChoiceFits}
use Rattle.mmdb_query.specs.Taking.{asks}
use Rattle.mmdb_query.specs.Steps.{UnderWay}
use Rattle.mmdb_query.proofs.each.put_each.Given as goal

abbrev pub invariant-loop : goal.invariant-loop
invariant-loop g l =
    let s = g.W.Walk.sections l.fn.walk in
    record {
      way : UnderWay g.W.Walk.comes (asks g.C.Conditions.says g.C.Conditions.is_unread g.S.Sink.puts g.S.Sink.is_unread g.S.Sink.leaves l.fn.conditions (g.S.Sink.form l.fn.sink) s) l.fn.walk l.walk (g.S.Sink.took l.fn.sink) (g.S.Sink.took l.sink) (g.O.Write.contents l.fn.out) (g.O.Write.contents l.out) l.unread l.counter;
      choice : ChoiceFits g.C.Conditions.says s l.choice;
      sink : g.S.Sink.fits s l.sink;
      conditions : l.choice.conditions.now ≡ l.fn.conditions;
      form : g.S.Sink.form l.sink ≡ g.S.Sink.form l.fn.sink;
      sections : g.W.Walk.sections l.walk ≡ s;
      few : l.unread ≤ l.counter;
    }
