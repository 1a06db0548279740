use Rattle.mmdb_reader.proofs.LeafLemmas.{reader_of, start-is}
use Rattle.mmdb_reader.proofs.reader.Reader.ipv4_start.Goals as goal

pub returns : goal.returns
returns g c =
    let known = reader_of c.args.self.now _ c.self.inside.data_start c.self.inside.ipv4_start c.self.inside.ipv4_depth c.self.inside.ipv4_table c.self.inside.ipv6_table c.self.view_is c.self.invariant in
    start-is c.args.self.now c.self.inside.ipv4_start c.self.inside.ipv4_depth known.ipv4
