use Rattle.mmdb_objects.proofs.ScanLaws.{key_at}
use Rattle.std.proofs.Common.{arith}
use Rattle.mmdb_objects.proofs.one_pass.read_key.Goals as goal

pub returns-clause-key : goal.returns-clause-key
returns-clause-key c =
    let text = c.args.text.now in
    let colon = c.in_ok-value.ensures.at in
    key_at text c.args.from c.in_ok-quote.quote colon.place c.in_ok-value.value.at c.requires.first c.in_ok-quote.ensures colon.low colon.before colon.is (omega (arith, colon.high)) colon.within colon.behind
