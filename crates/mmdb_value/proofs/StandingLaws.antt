-- The laws of what is at an offset.
use Rattle.std.specs.Result.{IfOk, IfErr}
use Rattle.mmdb_format.specs.Error.{MemoryApart}
use Rattle.mmdb_format.specs.declared.error.MaxMindDbError.{MaxMindDbError}
use Rattle.mmdb_format.specs.declared.error.MaxMindDbError.TheVariants.{InvalidDatabase, Io, Decoding, ResourceLimit, InvalidNetwork, InvalidInput, Memory}
use Rattle.std.proofs.Common.{◌≡◌, Result, Ok, Err, ℕ, suc, ◌-◌, ◌≤◌, List, Option, Some, None, Bool, true, false, refl, sym, ap, ◌∙◌, arith}
use Rattle.mmdb_decode.specs.Reading.{Reading}
use Rattle.mmdb_decode.specs.Errors.{answer, Fails}
use Rattle.mmdb_format.specs.Pointer.{most_levels}
use Rattle.mmdb_format.specs.Unfolding.{Tree, value_count, payload}
use Rattle.mmdb_value.specs.AnyValue.{value_at}
use Rattle.mmdb_value.specs.Standing.{ValueStands, WholeValue, ValueIsWhatStands, AnswerIsWholeValue, OneValueStands}
use Rattle.mmdb_value.proofs.GrammarWhole.{read_unfolds, unfolds_read}
use Rattle.mmdb_record.proofs.LimitLaws.{answer_within, within_answer}

abbrev at : {A : Type 0} → A → ℕ → ℕ → ℕ → Reading A
at v q n b = record { value = v; next = q; values = n; bytes = b }

stands_read : (tested : Bool) (s : List ℕ) (p d : ℕ) (v : Tree) (q c b : ℕ) → d ≤ most_levels → ValueStands tested s p d v q c b → value_at tested s p d ≡ Some (at v q c b)
stands_read tested s p d v q c b l h = unfolds_read tested s p d h.0 (at v q c b) (record { unfolds = h.1.unfolds; keyed = h.1.keyed; texts = h.1.texts; levels = omega (arith, h.1.levels); value = h.2; values = h.3; bytes = h.4 })

read_stands : (tested : Bool) (s : List ℕ) (p d : ℕ) (v : Tree) (q c b : ℕ) → d ≤ most_levels → value_at tested s p d ≡ Some (at v q c b) → ValueStands tested s p d v q c b
read_stands tested s p d v q c b l h =
    let w = read_unfolds tested s p d (at v q c b) h in
    let g = w.1 in
    (w.0, record { unfolds = g.unfolds; keyed = g.keyed; texts = g.texts; levels = omega (arith, g.levels) }, g.value, g.values, g.bytes)

pub value_is_what_stands : ValueIsWhatStands
value_is_what_stands tested s p d v q c b l = (read_stands tested s p d v q c b l, stands_read tested s p d v q c b l)

answer_whole : (tested : Bool) (s : List ℕ) (p : ℕ) (v : Tree) → answer true (value_at tested) s p ≡ Some v → WholeValue tested s p v
answer_whole tested s p v h =
    let w = answer_within (value_at tested) s p v h in
    let u = read_unfolds tested s p 0 w.0 w.1 in
    let g = u.1 in
    (u.0, w.0.next, record { unfolds = g.unfolds; keyed = g.keyed; texts = g.texts; levels = omega (arith, g.levels) }, sym w.3 ∙ g.value, omega (arith, g.values, w.2), omega (arith, g.bytes, w.2))

whole_answer : (tested : Bool) (s : List ℕ) (p : ℕ) (v : Tree) → WholeValue tested s p v → answer true (value_at tested) s p ≡ Some v
whole_answer tested s p v h =
    let u = h.0 in
    let some_more : value_count u ≡ suc (value_count u - 1) = some_values u in
    let r : Reading Tree = at v h.1 (value_count u - 1) (payload u) in
    within_answer (value_at tested) s p v r (stands_read tested s p 0 v h.1 (value_count u - 1) (payload u) (omega arith) (u, h.2, h.3, some_more, refl)) (omega (arith, some_more, h.4)) h.5 refl
  where
    some_values : (u : Tree) → value_count u ≡ suc (value_count u - 1)
    some_values (Tree.scalar c) = refl
    some_values (Tree.array ts) = omega arith
    some_values (Tree.table ps) = omega arith
    some_values (Tree.pointer a t) = some_values t

pub answer_is_whole_value : AnswerIsWholeValue
answer_is_whole_value tested s p v = (answer_whole tested s p v, whole_answer tested s p v)

pub one_value_stands : OneValueStands
one_value_stands tested s p d v w q r c e b f l h k =
    let a = stands_read tested s p d v q c b l h in
    let i = stands_read tested s p d w r e f l k in
    let same : at v q c b ≡ at w r e f = cc in
    (ap (λ (x : Reading Tree). x.value) same, ap (λ (x : Reading Tree). x.next) same, ap (λ (x : Reading Tree). x.values) same, ap (λ (x : Reading Tree). x.bytes) same)

-- an error that is not for memory
rejected : {A : Type 0} (e : MaxMindDbError) (read : Option A) (P : Type 0) → (read ≡ None → P) → Fails false e read → MemoryApart e P
rejected Memory read P k h = tt
rejected (InvalidDatabase m o) read P k h = k h
rejected (Io e) read P k h = k h
rejected (Decoding m o p) read P k h = k h
rejected (ResourceLimit m o p) read P k h = k h
rejected (InvalidNetwork m) read P k h = k h
rejected (InvalidInput m) read P k h = k h

nothing_whole : (tested : Bool) (s : List ℕ) → answer true (value_at tested) s 0 ≡ None → (v : Tree) → WholeValue tested s 0 v → ⊥
nothing_whole tested s none v w = let some = whole_answer tested s 0 v w in absurd (cc)

pub decoded_whole : {X : Type 0} (tested : Bool) (view : X → Tree) (s : List ℕ) (r : Result X MaxMindDbError) → IfOk r (λ v. true ≡ true → answer true (value_at tested) s 0 ≡ Some (view v)) → IfOk r (λ v. WholeValue tested s 0 (view v))
decoded_whole tested view s (Ok v) h = answer_whole tested s 0 (view v) (h refl)
decoded_whole tested view s (Err e) h = tt

pub rejected_whole : {X : Type 0} (tested : Bool) (s : List ℕ) (r : Result X MaxMindDbError) → IfErr r (λ e. true ≡ true → Fails false e (answer true (value_at tested) s 0)) → IfErr r (λ e. MemoryApart e ((v : Tree) → WholeValue tested s 0 v → ⊥))
rejected_whole tested s (Ok v) h = tt
rejected_whole tested s (Err e) h = rejected e (answer true (value_at tested) s 0) ((v : Tree) → WholeValue tested s 0 v → ⊥) (nothing_whole tested s) (h refl)
