-- A reading that begins a budget.
use Rattle.std.proofs.Common.{◌≡◌, Option, Some, None, Bool, true, false, refl, sym, ap, ◌∙◌, arith, Result, Ok, Err}
use Rattle.std.specs.Result.{OnOk, OnErr, IfOk, IfErr}
use Rattle.mmdb_decode.specs.declared.budget.Charges.{Charges}
use Rattle.mmdb_format.specs.declared.error.MaxMindDbError.{MaxMindDbError}
use Rattle.mmdb_decode.specs.Reading.{Meaning}
use Rattle.mmdb_decode.specs.Errors.{Kept, Fails, Reads}
use Rattle.mmdb_decode.specs.State.{State, begun, decoded, NoneBack, GivenUp}
use Rattle.mmdb_decode.proofs.StepLaws.{fails_more, back_trans, kept_decoded}

abbrev pub started : State → State
started σ = record σ { budget = begun true σ.budget }

pub decoded-started : {A : Type 0} (read : Meaning A) (σ : State) → decoded true read σ ≡ decoded false read (started σ)
unfolding decoded
decoded-started read σ = refl

begun_back : (b : Option Charges) → NoneBack b (begun true b)
begun_back None = tt
begun_back (Some c) = (omega arith, omega arith)

pub started_ok : {X A : Type 0} (view : X → A) (free exact : Bool) (read : Meaning A) (σ ρ τ : State) (r : Result X MaxMindDbError) → ρ ≡ started σ → Reads view free (decoded false read ρ) ρ τ r → IfOk r (λ v. exact ≡ true → decoded true read σ ≡ Some (view v, τ))
started_ok view free exact read σ ρ τ (Ok v) e h = λ x. decoded-started read σ ∙ ap (decoded false read) (sym e) ∙ h
started_ok view free exact read σ ρ τ (Err x) e h = tt

pub started_kept : {X A : Type 0} (view : X → A) (free : Bool) (read : Meaning A) (σ ρ τ : State) (r : Result X MaxMindDbError) → ρ ≡ started σ → Reads view free (decoded false read ρ) ρ τ r → OnOk r (Kept σ τ)
started_kept view free read σ ρ τ (Ok v) e h = kept_decoded true read σ τ (view v) (decoded-started read σ ∙ ap (decoded false read) (sym e) ∙ h)
started_kept view free read σ ρ τ (Err x) e h = tt

pub started_err : {X A : Type 0} (view : X → A) (free exact : Bool) (read : Meaning A) (σ ρ τ : State) (r : Result X MaxMindDbError) → ρ ≡ started σ → Reads view free (decoded false read ρ) ρ τ r → IfErr r (λ x. exact ≡ true → Fails free x (decoded true read σ))
started_err view free exact read σ ρ τ (Ok v) e h = tt
started_err view free exact read σ ρ τ (Err x) e h = λ y. fails_more free x (decoded false read ρ) (decoded true read σ) (λ n. decoded-started read σ ∙ ap (decoded false read) (sym e) ∙ n) h.1

pub started_given_up : {X A : Type 0} (view : X → A) (free : Bool) (read : Meaning A) (σ ρ τ : State) (r : Result X MaxMindDbError) → ρ ≡ started σ → Reads view free (decoded false read ρ) ρ τ r → OnErr r (GivenUp σ τ)
started_given_up view free read σ ρ τ (Ok v) e h = tt
started_given_up view free read σ ρ τ (Err x) e h =
    let g = h.0 in
    record { section = g.section ∙ ap (λ (x : State). x.section) e; charges = back_trans σ.budget ρ.budget τ.budget (rw e (begun_back σ.budget)) g.charges }
