-- What has kept a sink from taking bytes, and how a put changes that.
use Rattle.std.specs.Prelude.{ℕ, suc, zero, List, [], ◌∷◌, Result, Ok, Err}
use Rattle.mmdb_tool.specs.declared.sink.Fault.{Fault}
use Rattle.mmdb_tool.specs.declared.sink.Fault.TheVariants.{Free, Failed, Stalled}

-- the first fault stays: an `Err` fails, and 0 of at least one byte stalls
abbrev pub fault_after : {E : Type 0} → Fault → Result ℕ E → List ℕ → Fault
fault_after Failed r bytes = Failed
fault_after Stalled r bytes = Stalled
fault_after Free (Err e) bytes = Failed
fault_after Free (Ok zero) [] = Free
fault_after Free (Ok zero) (b ∷ bs) = Stalled
fault_after Free (Ok (suc n)) bytes = Free
