use Rattle.std.proofs.Common.{[], refl}
use Rattle.std.proofs.KnownBytes.{Appends-nil}
use Rattle.mmdb_query.proofs.SetLaws.{adds_had}
use Rattle.mmdb_query.proofs.addresses.AddressesSink.put.Goals as goal

pub returns-in-Ok-clause-done : goal.returns-in-Ok-clause-done
returns-in-Ok-clause-done g c = ([], (adds_had (g.A.Answer.had c.args.answer.now) c.network.result c.args.self.now c.add.new.self c.network.ensures c.in-Ok.ensures, refl), Appends-nil (g.O.Write.contents c.args._out.now))

pub returns-in-Err-clause-failed : goal.returns-in-Err-clause-failed
returns-in-Err-clause-failed g c = ([], (refl, refl), Appends-nil (g.O.Write.contents c.args._out.now))
