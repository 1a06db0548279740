-- What is read in each record.
use Rattle.std.proofs.Common.{◌≡◌, ℕ, zero, suc, ◌<◌, ◌≤◌, List, [], ◌∷◌, length, Option, Some, None, slice_index_or, refl, ap, arith}
use Rattle.std.specs.declared.convert.AsSlice.{Ghosts}
use Rattle.mmdb_layout.specs.Reading.{reads_of}
use Rattle.mmdb_reader.specs.declared.lookup_result.LookupResult.{LookupResult}
use Rattle.mmdb_reader.specs.declared.path.PathElement.{PathElement}
use Rattle.mmdb_cmd_enrich.specs.Records.{answer_read}

-- the answer of a number, and none past their end
pub answer_here : {S : Type 0} {G : Ghosts S ℕ} (answers : List (Option (LookupResult S G))) (n : ℕ) (answer : Option (LookupResult S G)) (path : List PathElement)
    → n < length answers → answer ≡ slice_index_or answers n answer → reads_of answer path ≡ answer_read answers n path
answer_here [] n answer path room is = absurd (omega (arith, room))
answer_here (a ∷ answers) zero answer path room is = ap (λ x. reads_of x path) is
answer_here (a ∷ answers) (suc n) answer path room is = answer_here answers n answer path (omega arith) is

pub none_here : {S : Type 0} {G : Ghosts S ℕ} (answers : List (Option (LookupResult S G))) (n : ℕ) (path : List PathElement) → length answers ≤ n → Some None ≡ answer_read answers n path
none_here [] n path over = refl
none_here (a ∷ answers) zero path over = absurd (omega (arith, over))
none_here (a ∷ answers) (suc n) path over = none_here answers n path (omega arith)
