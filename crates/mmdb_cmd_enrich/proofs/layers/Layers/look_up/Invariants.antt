use Rattle.std.proofs.Common.{◌≡◌, List, drop}
use Rattle.std.specs.declared.net.ip_addr.IpAddr.{IpAddr}
use Rattle.mmdb_cmd_enrich.specs.Ahead.{AreFoundIn, IsNumberOf}
use Rattle.mmdb_cmd_enrich.proofs.LayerLaws.{LayersWay}
use Rattle.mmdb_cmd_enrich.proofs.layers.Layers.look_up.Given as goal

abbrev pub invariant-loop-reader : goal.invariant-loop-reader
invariant-loop-reader g l = record {
  way : LayersWay l.fn.readers (drop l.reader-index l.fn.readers) l.address l.self.answers.items l.self.key;
  found : (addresses : List IpAddr) × AreFoundIn (drop l.reader-index l.fn.readers) addresses l.left × IsNumberOf addresses l.number l.address;
  of : l.self.readers.now ≡ l.fn.readers;
}
