use Rattle.std.proofs.Common.{arith}
use Rattle.std.proofs.lemmas.Simd.{zip2_splat, zip2_splat_left}
use Rattle.mmdb_objects.specs.Scanned.{is_other}
use Rattle.mmdb_objects.proofs.VectorLaws.{below, either, masked}
use Rattle.mmdb_objects.proofs.lexemes.others.Goals as goal

pub returns : goal.returns
returns c =
    let v = c.args.bytes in
    let long = c.fits-bytes.0 in
    masked _ is_other v _ (omega arith) c.fits-bytes.1 (either _ _ v (zip2_splat below v 16 48 long) (zip2_splat_left below 57 16 v long)) tt
