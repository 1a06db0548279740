use Rattle.std.proofs.Common.{◌≡◌, min, ◌∙◌, ap, nat_lt, arith}
use Rattle.mmdb_filter.specs.Lines.{text_length}
use Rattle.mmdb_filter.proofs.TextLaws.{seen_cut, long_is}
use Rattle.mmdb_filter.proofs.text.seen.Goals as goal

pub returns-clause-text : goal.returns-clause-text
returns-clause-text c =
    let least : c.min-front.result ≡ min (text_length c.args.row.now) c.args.most = omega (arith, c.requires.text) in
    seen_cut c.args.most c.args.row.now c.min-front.result least

pub returns-clause-long : goal.returns-clause-long
returns-clause-long c = ap (λ n. nat_lt c.args.most n) c.requires.text ∙ long_is c.args.most c.args.row.now
