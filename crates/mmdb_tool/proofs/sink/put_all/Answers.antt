use Rattle.std.proofs.Common.{rules, ◌≡◌, ◌≢◌, ℕ, suc, zero, ◌-◌, List, ◌++◌, length, take, drop, Ok, false, eqb, sym, ap, ◌∙◌, refl, append_assoc, take-append-drop}
use Rattle.std.proofs.lemmas.List.{take_rest}
use Rattle.std.proofs.KnownBytes.{Appends-trans}
use Rattle.mmdb_tool.specs.Sink.{fault_after}
use Rattle.mmdb_tool.specs.declared.sink.Fault.{Fault}
use Rattle.mmdb_tool.specs.declared.sink.Fault.TheVariants.{Free}
use Rattle.mmdb_tool.proofs.sink.put_all.Goals as goal

moves_front : (all done rest : List ℕ) (n : ℕ) → all ≡ done ++ rest → all ≡ (done ++ take n rest) ++ take (length rest - n) (drop n rest)
moves_front all done rest n e =
    e ∙ ap (λ l. done ++ l) (sym (take-append-drop n rest)) ∙ sym (append_assoc done (take n rest) (drop n rest)) ∙ ap (λ l. (done ++ take n rest) ++ l) (sym (take_rest rest n))

-- what is taken leaves a sink without a fault
still_free : (E : Type 0) (old new : Fault) (n : ℕ) (bytes : List ℕ) → new ≡ fault_after {E = E} old (Ok n) bytes → eqb n 0 ≡ false → old ≡ Free → new ≡ Free
still_free E old new zero bytes e some free = absurd (cc)
still_free E old new (suc n) bytes e some free = e ∙ rw free refl

pub loop-rest-preserved : goal.loop-rest-preserved
loop-rest-preserved g c =
    let (done, split, appended) = c.loop-rest.invariant.written in
    let rest = c.loop-rest.rest.now in
    let n = c.in-Ok.n in
    let some : n ≢ 0 = c.in-Ok.n-test.1 in
    record {
      written = (done ++ take n rest, moves_front _ done rest n split, Appends-trans _ _ _ _ _ appended c.in-Ok.ensures.bytes);
      fault = λ free. still_free _ _ _ n rest c.in-Ok.ensures.fault (search rules) (c.loop-rest.invariant.fault free);
    }
