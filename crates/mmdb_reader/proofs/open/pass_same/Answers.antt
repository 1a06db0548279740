use Rattle.std.proofs.Common.{◌≡◌, ◌≤◌, ◌+◌, ◌-◌, ◌++◌, ℕ, List, length, take, drop, true, Option, Some, None, IfSome, ap, ◌∙◌, sym, arith, length-take, length-drop, refl, take_all, take-take, nat_eq}
use Rattle.std.proofs.lemmas.List.{append-nil}
use Rattle.std.proofs.lemmas.Bool.Decides.{nat_tests}
use Rattle.std.proofs.KnownBytes.{Consumes-nil, Consumes-trans, Consumes-kept}
use Rattle.std.specs.Cmp.Lexicographic.{pointwise, bytes_decides}
use Rattle.std.specs.Io.KnownBytes.{Consumes, IsAtEnd}
use lib.Seq.{take-add}
use Rattle.mmdb_reader.proofs.open.pass_same.Goals as goal

-- what was read is all that there is
all_read : (a b : Option (List ℕ)) (xs ys : List ℕ) → Consumes a b xs → IsAtEnd b → xs ≡ ys → IfSome a (λ all. all ≡ ys)
all_read None b xs ys h e s = tt
all_read (Some a) None xs ys h e s = absurd h
all_read (Some a) (Some b) xs ys h e s = h ∙ ap (λ (l : List ℕ). xs ++ l) e ∙ append-nil xs ∙ s

-- bytes of a file that begin what is left of the other one are its next ones
next_same : (other chunk : List ℕ) (passed n : ℕ) → n ≤ length chunk → n ≤ length other - passed
    → pointwise nat_eq (take n chunk) (take (length (take n chunk)) (take (length other - passed) (drop passed other))) ≡ true → take (passed + n) other ≡ take passed other ++ take n chunk
next_same other chunk passed n few within e =
    let len : length (take n chunk) ≡ n = omega (arith, length-take n chunk) in
    let same : take n chunk ≡ take n (take (length other - passed) (drop passed other)) = (bytes_decides _ _).0 (rw len at e) in
    take-add passed n other ∙ ap (λ (l : List ℕ). take passed other ++ l) (sym (same ∙ take-take n (length other - passed) (drop passed other) within))

pub loop-init : goal.loop-init
loop-init g c = record {
  within = omega arith;
  taken = Consumes-nil (g.R.Read.remaining c.args.file.now);
  room = c.requires;
}

pub loop-preserved-in-Err : goal.loop-preserved-in-Err
loop-preserved-in-Err g c = record {
  within = c.loop.invariant.within;
  taken = Consumes-kept _ (g.R.Read.remaining c.loop.file) _ (take c.loop.passed c.args.other.now) c.loop.invariant.taken c.in-Err.ensures.bytes;
  room = omega (arith, c.read.auto.buf, c.loop.invariant.room);
}

pub slice_bounds-left-count : goal.slice_bounds-left-count
slice_bounds-left-count g c = c.loop.invariant.within

pub returns-then-is_empty-clause-same : goal.returns-then-is_empty-clause-same
returns-then-is_empty-clause-same g c =
    let left = length-take (length c.args.other.now - c.loop.passed) (drop c.loop.passed c.args.other.now) in
    let is_none : nat_eq (length (take (length c.args.other.now - c.loop.passed) (drop c.loop.passed c.args.other.now))) 0 ≡ true = sym c.is_empty.ensures ∙ c.if-is_empty.true in
    let none : length (take (length c.args.other.now - c.loop.passed) (drop c.loop.passed c.args.other.now)) ≡ 0 = grind (arith, nat_tests) in
    let end : length c.args.other.now ≤ c.loop.passed = omega (arith, left, length-drop c.loop.passed c.args.other.now, none) in
    all_read (g.R.Read.remaining c.args.file.now) (g.R.Read.remaining c.read.new.self) (take c.loop.passed c.args.other.now ++ take c.in-Ok.count c.read.new.buf) c.args.other.now (Consumes-trans _ (g.R.Read.remaining c.loop.file) _ (take c.loop.passed c.args.other.now) (take c.in-Ok.count c.read.new.buf) c.loop.invariant.taken c.in-Ok.ensures.bytes.0) (c.in-Ok.ensures.bytes.1 c.if-count-eq0.true (omega (arith, c.read.auto.buf, c.loop.invariant.room))) (rw c.if-count-eq0.true (append-nil (take c.loop.passed c.args.other.now) ∙ take_all c.loop.passed c.args.other.now end))

pub returns-then-count-eq0-2-clause-other : goal.returns-then-count-eq0-2-clause-other
returns-then-count-eq0-2-clause-other g c = Consumes-trans _ (g.R.Read.remaining c.loop.file) _ (take c.loop.passed c.args.other.now) (take c.in-Ok.count c.read.new.buf) c.loop.invariant.taken c.in-Ok.ensures.bytes.0

pub returns-then-count-eq0-2-clause-within : goal.returns-then-count-eq0-2-clause-within
returns-then-count-eq0-2-clause-within g c = (c.loop.invariant.within, c.in-Ok.ensures.bound.0)

pub loop-preserved : goal.loop-preserved
loop-preserved g c =
    let few = c.in-Ok.ensures.bound.0 in
    let fits = c.if-not-starts_with.ensures.bound refl in
    let room : c.in-Ok.count ≤ length c.args.other.now - c.loop.passed = omega (arith, fits, few, length-take c.in-Ok.count c.read.new.buf, length-take (length c.args.other.now - c.loop.passed) (drop c.loop.passed c.args.other.now), length-drop c.loop.passed c.args.other.now) in
    let joined = next_same c.args.other.now c.read.new.buf c.loop.passed c.in-Ok.count few room (sym c.starts_with.ensures.value ∙ c.if-not-starts_with.false) in
    record {
      within = omega (arith, room, c.loop.invariant.within);
      taken = rw joined (Consumes-trans _ (g.R.Read.remaining c.loop.file) _ (take c.loop.passed c.args.other.now) (take c.in-Ok.count c.read.new.buf) c.loop.invariant.taken c.in-Ok.ensures.bytes.0);
      room = omega (arith, c.read.auto.buf, c.loop.invariant.room);
    }
