use Rattle.std.proofs.Common.{◌-◌, ◌^◌, ℕ, ap, arith}
use Rattle.mmdb_reader.proofs.PositionLemmas.{upper-fits}
use Rattle.mmdb_reader.proofs.positions.Position.half.Goals as goal

pub overflow_add-result : goal.overflow_add-result
overflow_add-result g c =
    let fits = upper-fits c.args.walker.now.reader.now c.args.self c.requires.at c.requires.halves.1 in
    let same = c.args.walker.now.are.width in
    omega (arith, fits, ap (λ (w : ℕ). 2 ^ (w - c.args.self.prefix - 1)) same)
