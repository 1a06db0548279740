use Rattle.std.proofs.Common.{arith}
use Rattle.std.proofs.lemmas.Simd.{zip2_splat, zip2_of_maps, splat_is_map}
use lib.Bits.{bit_xor}
use Rattle.mmdb_objects.specs.Scanned.{is_stop}
use Rattle.mmdb_objects.proofs.VectorLaws.{hit, below, either, masked}
use Rattle.mmdb_objects.proofs.lexemes.stops.Goals as goal

pub returns : goal.returns
returns c =
    let v = c.args.bytes in
    let long = c.fits-bytes.0 in
    let turned = zip2_of_maps below (λ x. bit_xor x 2) (λ _. 33) v (zip2_splat bit_xor v 16 2 long) (splat_is_map v 16 33 long) in
    masked _ is_stop v _ (omega arith) c.fits-bytes.1 (either _ _ v (zip2_splat hit v 16 92 long) turned) tt
