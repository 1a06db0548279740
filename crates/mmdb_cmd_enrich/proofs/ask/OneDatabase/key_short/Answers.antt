use Rattle.std.proofs.Common.{refl}
use Rattle.std.specs.declared.net.ip_addr.IpAddr.TheVariants.{V4}
use Rattle.mmdb_cmd_enrich.proofs.OneLaws.{one_key}
use Rattle.mmdb_cmd_enrich.proofs.ask.OneDatabase.key_short.Goals as goal

pub returns : goal.returns
returns g c =
    one_key c.args.self.now.reader.now (V4 c.args.short) (V4 c.args.short) c.in-Ok.found c.offset.result c.key_of.result refl c.in-Ok.ensures.answered c.offset.ensures c.key_of.ensures
