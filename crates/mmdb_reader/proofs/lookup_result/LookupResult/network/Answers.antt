use Rattle.mmdb_reader.proofs.NumberedLemmas.{shown_numbered}
use Rattle.mmdb_reader.proofs.lookup_result.LookupResult.network.Goals as goal

pub returns : goal.returns
returns g c =
    let r = c.args.self.now in
    shown_numbered r.reader.now c.address.result c.mask_ip-masked.result r.address.width r.address.bits r.prefix _ c.address.ensures.width c.address.ensures.kind (c.address.ensures.block r.reader.now r.prefix) r.is_prefix c.mask_ip-masked.ensures.masked c.in_ok-new.ensures.ip c.in_ok-new.ensures.prefix
