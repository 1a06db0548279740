use Rattle.std.specs.declared.net.ip_addr.IpAddr.TheVariants.{V6}
use Rattle.mmdb_cmd_enrich.proofs.OneLaws.{one_key}
use Rattle.mmdb_cmd_enrich.proofs.ask.OneDatabase.key_long.Goals as goal

pub returns : goal.returns
returns g c =
    one_key c.args.self.now.reader.now (V6 c.args.long) c.asked_of-asked.result c.in-Ok.found c.offset.result c.key_of.result c.asked_of-asked.ensures c.in-Ok.ensures.answered c.offset.ensures c.key_of.ensures
