use Rattle.std.proofs.Common.{◌∙◌, ◌<◌, ◌/◌, ◌%◌, ◌==◌, length, sym, ap, arith}
use Rattle.std.proofs.lemmas.List.{get_or_default}
use Rattle.std.specs.Int.{bit_at}
use Rattle.std.proofs.lemmas.Nat.Bits.{shr_and_one}
use Rattle.mmdb_offsets.specs.OffsetSet.{holds}
use Rattle.mmdb_offsets.proofs.Words.{length-set_of, word-inside, holds-set_of}
use Rattle.mmdb_offsets.proofs.offset_set.OffsetSet.contains.Goals as goal

pub index-requires : goal.index-requires
index-requires c =
    let long = ap length c.self.view_is in
    let inside = word-inside c.self.inside.words.items c.self.inside.len c.args.offset c.self.invariant.0 (omega (arith, c.requires, long, length-set_of c.self.inside.words.items c.self.inside.len)) in
    omega (arith, inside, c.self.inside.words.ok.0)

pub returns : goal.returns
returns c =
    let words = c.self.inside.words.items in
    let long = ap length c.self.view_is in
    let low : c.args.offset < c.self.inside.len = omega (arith, c.requires, long, length-set_of words c.self.inside.len) in
    let inside = word-inside words c.self.inside.len c.args.offset c.self.invariant.0 (omega (arith, low)) in
    let word = c.index.ensures ∙ get_or_default words (c.args.offset / 64) _ 0 inside in
    ap (λ n. n == 1) (shr_and_one c.index.result.now (c.args.offset % 64))
    ∙ ap (λ w. bit_at w (c.args.offset % 64) == 1) word
    ∙ sym (holds-set_of words c.self.inside.len c.args.offset low)
    ∙ ap (λ s. holds s c.args.offset) c.self.view_is
