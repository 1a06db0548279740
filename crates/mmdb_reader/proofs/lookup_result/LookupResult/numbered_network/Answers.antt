use Rattle.std.proofs.Common.{ℕ, ap, ◌∙◌}
use Rattle.mmdb_reader.specs.Numbered.{numbered_block}
use Rattle.mmdb_reader.proofs.NumberedLemmas.{cleared_block}
use Rattle.mmdb_reader.proofs.lookup_result.LookupResult.numbered_network.Goals as goal

pub returns-clause-leaf : goal.returns-clause-leaf
returns-clause-leaf g c =
    let r = c.args.self.now in
    ap (λ (n : ℕ). numbered_block r.reader.now r.address.width n r.prefix) c.without_last.ensures.value
    ∙ cleared_block r.reader.now r.address.width r.address.bits r.prefix r.is_width r.is_prefix
