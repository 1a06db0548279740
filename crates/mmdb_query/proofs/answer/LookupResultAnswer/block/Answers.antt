use Rattle.std.proofs.Common.{refl, sym, subst}
use Rattle.mmdb_reader.specs.Found.{database_asked, leaf_of, shown_as_ipv4}
use Rattle.mmdb_query.specs.Had.{shown_bits}
use Rattle.mmdb_query.specs.Listings.{HasBits}
use Rattle.mmdb_query.proofs.NetworkLaws.{block_numbers}
use Rattle.mmdb_query.proofs.answer.LookupResultAnswer.block.Goals as goal

pub returns-clause-block : goal.returns-clause-block
returns-clause-block g c =
    let r = c.args.self.now in
    let n = c.numbered_network-numbers in
    let bits = shown_bits (database_asked r) (leaf_of r) (shown_as_ipv4 r) in
    subst (λ block. HasBits block bits) (sym c.of_numbers.ensures)
    (block_numbers (database_asked r) (leaf_of r) (shown_as_ipv4 r) _ n.result.width n.result.prefix n.result.first refl n.ensures.kind n.ensures.is_width n.ensures.leaf n.ensures.masked n.ensures.within.0 n.ensures.fits)
