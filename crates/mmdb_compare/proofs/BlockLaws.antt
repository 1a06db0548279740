-- Blocks and the bits that their addresses begin with.
use Rattle.std.proofs.Common.{◌≡◌, ℕ, ◌+◌, ◌-◌, ◌*◌, ◌/◌, ◌%◌, ◌^◌, ◌<◌, ◌≤◌, Bool, List, ◌++◌, length, take, ap, arith, sym, ◌∙◌}
use Rattle.std.proofs.lemmas.List.{length-take-le}
use Rattle.mmdb_net.specs.Bits.{bits_of, zero_bits, number_of}
use Rattle.mmdb_net.proofs.BitLaws.{length-bits_of, bits_of-split, take-bits_of, bits_of-shifted, number_of-bits_of, number_of-filled}
use Rattle.mmdb_blocks.specs.declared.block.Block.{Block}
use Rattle.mmdb_blocks.specs.Blocks.{end, IsBlock}
use Rattle.mmdb_blocks.proofs.NumberLaws.{quotient, nested, same-start}
use Rattle.mmdb_compare.specs.Coming.{block_of_bits}

-- the first address of a block is the number of the bits that its addresses begin with
first_of : (first prefix : ℕ) → first < 2 ^ 128 → prefix ≤ 128 → first % 2 ^ (128 - prefix) ≡ 0 → number_of 128 (take prefix (bits_of 128 first)) ≡ first
first_of first prefix fits within aligned =
    let low = 128 - prefix in
    let q = first / 2 ^ low in
    let whole : first ≡ q * 2 ^ low = quotient first low aligned in
    let zeros : bits_of low first ≡ zero_bits low = ap (bits_of low) whole ∙ bits_of-shifted low low q (omega arith) in
    let sum : 128 ≡ prefix + low = omega arith in
    let split : bits_of 128 first ≡ bits_of prefix q ++ bits_of low first = bits_of-split prefix low 128 first sum in
    let kept : take prefix (bits_of 128 first) ≡ bits_of prefix q = take-bits_of prefix 128 low first sum in
    let filled : bits_of 128 first ≡ take prefix (bits_of 128 first) ++ zero_bits low = split ∙ ap (λ (xs : List Bool). bits_of prefix q ++ xs) zeros ∙ ap (λ (xs : List Bool). xs ++ zero_bits low) (sym kept) in
    let number : number_of 128 (bits_of 128 first) ≡ first % 2 ^ 128 = number_of-bits_of 128 first in
    let small : first % 2 ^ 128 ≡ first = omega (arith, fits) in
    sym (number_of-filled 128 low (take prefix (bits_of 128 first))) ∙ ap (number_of 128) (sym filled) ∙ number ∙ small

same_block : (b : Block) (first prefix : ℕ) → b.first ≡ first → b.prefix ≡ prefix → b ≡ record { first = first; prefix = prefix }
same_block b first prefix e f = ap (λ (x : ℕ). record { first = x; prefix = b.prefix }) e ∙ ap (λ (x : ℕ). record { first = first; prefix = x }) f

-- a block is that of the bits that its addresses begin with
pub block_is : (b : Block) (bits : List Bool) → IsBlock b → take b.prefix (bits_of 128 b.first) ≡ bits → b ≡ block_of_bits bits
block_is b bits is same =
    let first : b.first ≡ number_of 128 bits = sym (first_of b.first b.prefix is.first is.prefix is.aligned) ∙ ap (number_of 128) same in
    let prefix : b.prefix ≡ length bits = sym (length-take-le b.prefix (bits_of 128 b.first) (omega (arith, is.prefix, length-bits_of 128 b.first))) ∙ ap length same in
    same_block b (number_of 128 bits) (length bits) first prefix

-- a block that begins in another one with a shorter prefix, or the same, ends there
pub inside : (narrow wide : Block) → IsBlock narrow → IsBlock wide → wide.prefix ≤ narrow.prefix → narrow.first < end wide → end narrow ≤ end wide
inside narrow wide n w le below = nested narrow.first wide.first (128 - narrow.prefix) (128 - wide.prefix) (omega (arith, le)) n.aligned w.aligned below

-- blocks with one prefix that have an address in common are one
pub one_block : (a b : Block) (at : ℕ) → IsBlock a → IsBlock b → a.prefix ≡ b.prefix → a.first ≡ at → b.first ≤ at → at < end b → b.first ≡ at
one_block a b at x y e f le below =
    let aligned : at % 2 ^ (128 - b.prefix) ≡ 0 = rw (← f, ← e) x.aligned in
    sym (same-start at b.first (128 - b.prefix) aligned y.aligned le below)
