use Rattle.std.proofs.Common.{◌≡◌, ℕ, ◌+◌, ◌-◌, ◌<◌, ◌||◌, ◌&&◌, nat_lt, Bool, false, get_or, sym, ap, ◌∙◌, arith, refl}
use Rattle.mmdb_net.specs.Bits.{bit_of, bits_of}
use Rattle.mmdb_net.proofs.BitLaws.{length-bits_of, get_or-bits_of}
use Rattle.mmdb_tree.specs.Walked.{walked_by}
use Rattle.mmdb_tree.proofs.PointLemmas.{point-start, point-next}
use Rattle.mmdb_tree.proofs.walked.Walker.point_along.Goals as goal

pub loop-point-init : goal.loop-point-init
loop-point-init c = record { within = omega arith; at = point-start (walked_by c.args.self.now) }

pub loop-point-preserved : goal.loop-point-preserved
loop-point-preserved c =
    let walked = walked_by c.args.self.now in
    let width = c.args.self.now.width in
    let address = c.args.address in
    let p = c.loop-point.point in
    let taken = c.from-taken.result in
    let same : taken ≡ p.prefix = c.from-taken.ensures in
    let x : Bool = bit_of address (width - 1 - taken) in
    let test = c.loop-point-test.true in
    let within = c.requires in
    let len = length-bits_of width address in
    let more : taken < width = omega (arith, test, within, same) in
    let is : x ≡ get_or (bits_of width address) p.prefix false = sym (get_or-bits_of width address taken false more) ∙ ap (λ (k : ℕ). get_or (bits_of width address) k false) same in
    record {
      within = omega (arith, test);
      at = point-next walked (bits_of width address) p (record { number = c.step.result; prefix = p.prefix + 1; high = c.is_high_with.result }) x len (omega (arith, more, len, same)) is c.loop-point.invariant.at refl c.step.ensures
          (c.is_high_with.ensures ∙ ap (λ (n : ℕ). p.high || (x && nat_lt (n + 32) width)) same);
    }
