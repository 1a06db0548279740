use Rattle.std.proofs.Common.{◌∙◌, ◌*◌, ◌^◌, ◌%◌, ◌/◌, ◌<◌, ◌||◌, ◌==◌, length, bit_or, set, sym, ap, arith}
use Rattle.std.proofs.lemmas.List.{get_or_default}
use Rattle.mmdb_offsets.specs.OffsetSet.{holds, set_of}
use Rattle.mmdb_offsets.proofs.Words.{length-set_of, word-inside, holds-more}
use Rattle.mmdb_offsets.proofs.offset_set.OffsetSet.insert.Goals as goal

pub index_mut-requires : goal.index_mut-requires
index_mut-requires c =
    let long = ap length c.self.view_is in
    let inside = word-inside c.self.inside.words.items c.self.inside.len c.args.offset c.self.invariant.0 (omega (arith, c.requires, long, length-set_of c.self.inside.words.items c.self.inside.len)) in
    omega (arith, inside, c.self.inside.words.ok.0)

pub returns-clause-length : goal.returns-clause-length
returns-clause-length c = length-set_of _ c.self.inside.len ∙ sym (length-set_of c.self.inside.words.items c.self.inside.len) ∙ ap length c.self.view_is

pub returns-clause-offsets : goal.returns-clause-offsets
returns-clause-offsets c = λ q.
    let long = ap length c.self.view_is in
    let low : c.args.offset < c.self.inside.len = omega (arith, c.requires, long, length-set_of c.self.inside.words.items c.self.inside.len) in
    let inside = word-inside c.self.inside.words.items c.self.inside.len c.args.offset c.self.invariant.0 (omega arith) in
    let word = c.index_mut.ensures.value ∙ get_or_default c.self.inside.words.items (c.args.offset / 64) _ 0 inside in
    ap (λ w. holds (set_of (set c.self.inside.words.items (c.args.offset / 64) (bit_or w (1 * 2 ^ (c.args.offset % 64) % 2 ^ 64))) c.self.inside.len) q) word
    ∙ holds-more c.self.inside.words.items c.args.offset inside c.self.inside.len q low
    ∙ ap (λ m. holds m q || (c.args.offset == q)) c.self.view_is
