use Rattle.std.proofs.Common.{rules, ◌≡◌, ◌+◌, ◌-◌, [], ◌∷◌, ◌++◌, replicate, arith}
use Rattle.mmdb_cmd_enrich.specs.Columns.{delimiter_of}
use Rattle.mmdb_cmd_enrich.proofs.BreakLaws.{one_padded, all_padded}
use Rattle.mmdb_cmd_enrich.proofs.padding.put_delimiters.Goals as goal

pub loop-preserved : goal.loop-preserved
loop-preserved c =
    let d = delimiter_of c.args.rows in
    let put : c.push.new.self.items ≡ c.loop.out.items ++ (d ∷ []) = search rules in
    one_padded d (c.args.count - (c.loop.counter + 1)) (c.args.count - c.loop.counter) (c.args.out.now.items ++ replicate c.args.count d) c.loop.out.items c.push.new.self.items (omega arith) c.loop.invariant put

pub returns : goal.returns
returns c =
    let d = delimiter_of c.args.rows in
    all_padded d (c.args.count - c.loop.counter) (c.args.out.now.items ++ replicate c.args.count d) c.loop.out.items (omega arith) c.loop.invariant
