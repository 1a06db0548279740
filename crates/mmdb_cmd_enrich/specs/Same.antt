-- What is read in answers is read in the records of their databases.
use Rattle.std.specs.Prelude.{◌≡◌, ℕ, zero, suc, List, [], ◌∷◌, Option, Some, None, map, refl}
use Rattle.std.proofs.Common.{sym, ap, ◌∙◌}
use Rattle.std.specs.declared.convert.AsSlice.{Ghosts}
use Rattle.mmdb_format.specs.Unfolding.{Tree}
use Rattle.mmdb_layout.specs.Reading.{reads_in, reads_found, reads_of, first_read_of, or_next}
use Rattle.mmdb_reader.specs.File.{Database, data_section}
use Rattle.mmdb_reader.specs.Found.{database_asked, offset_found}
use Rattle.mmdb_reader.specs.declared.lookup_result.LookupResult.{LookupResult}
use Rattle.mmdb_reader.specs.declared.path.PathElement.{PathElement}
use Rattle.mmdb_reader.specs.declared.path.PathElement.TheVariants.{Key, Index, IndexFromEnd}
use Rattle.mmdb_cmd_enrich.specs.Records.{record_read, each_read, answer_read, each_read_of}
use Rattle.mmdb_cmd_enrich.specs.Layers.{first_read}
use Rattle.mmdb_cmd_enrich.specs.Working.{offset_in, IsAnswerOf, AreAnswersOf}

pub or_none : (a : Option (Option Tree)) → a ≡ or_next a (Some None)
or_none None = refl
or_none (Some None) = refl
or_none (Some (Some v)) = refl

-- in one result
pub one_reads_first : {S : Type 0} {G : Ghosts S ℕ} (found : LookupResult S G) (dbs : List Database) → dbs ≡ (database_asked found ∷ []) → reads_found found ≡ first_read dbs (offset_found found ∷ [])
one_reads_first found dbs is = λ i path. (or_none (reads_found found path) ∙ ap (λ (ds : List Database). first_read ds (offset_found found ∷ []) path) (sym is)) i

-- in an answer
pub answer_same : {S : Type 0} {G : Ghosts S ℕ} (db : Database) (answer : Option (LookupResult S G)) (path : List PathElement) → IsAnswerOf db answer → reads_of answer path ≡ reads_in (data_section db) (offset_in answer) path
answer_same db None path is = refl
answer_same db (Some found) path is = ap (λ d. reads_in (data_section d) (offset_found found) path) is

first_same : {S : Type 0} {G : Ghosts S ℕ} (dbs : List Database) (answers : List (Option (LookupResult S G))) (path : List PathElement) → AreAnswersOf dbs answers → first_read_of answers path ≡ first_read dbs (map offset_in answers) path
first_same [] [] path are = refl
first_same [] (answer ∷ answers) path are = absurd are
first_same (db ∷ dbs) [] path are = absurd are
first_same (db ∷ dbs) (answer ∷ answers) path are =
    ap (λ r. or_next r (first_read_of answers path)) (answer_same db answer path are.0)
    ∙ ap (λ r. or_next (reads_in (data_section db) (offset_in answer) path) r) (first_same dbs answers path are.1)

-- in several
pub all_read_first : {S : Type 0} {G : Ghosts S ℕ} (dbs : List Database) (answers : List (Option (LookupResult S G))) → AreAnswersOf dbs answers → first_read_of answers ≡ first_read dbs (map offset_in answers)
all_read_first dbs answers are = λ i path. first_same dbs answers path are i

-- what is read in each answer is read in the record of its database
record_same : {S : Type 0} {G : Ghosts S ℕ} (dbs : List Database) (answers : List (Option (LookupResult S G))) (n : ℕ) (path : List PathElement) → AreAnswersOf dbs answers → answer_read answers n path ≡ record_read dbs (map offset_in answers) n path
record_same [] [] n path are = refl
record_same [] (answer ∷ answers) n path are = absurd are
record_same (db ∷ dbs) [] n path are = absurd are
record_same (db ∷ dbs) (answer ∷ answers) zero path are = answer_same db answer path are.0
record_same (db ∷ dbs) (answer ∷ answers) (suc n) path are = record_same dbs answers n path are.1

each_at : {S : Type 0} {G : Ghosts S ℕ} (dbs : List Database) (answers : List (Option (LookupResult S G))) (path : List PathElement) → AreAnswersOf dbs answers → each_read_of answers path ≡ each_read dbs (map offset_in answers) path
each_at dbs answers [] are = refl
each_at dbs answers (Index n ∷ path) are = record_same dbs answers n path are
each_at dbs answers (Key name ∷ path) are = refl
each_at dbs answers (IndexFromEnd n ∷ path) are = refl

pub each_same : {S : Type 0} {G : Ghosts S ℕ} (dbs : List Database) (answers : List (Option (LookupResult S G))) → AreAnswersOf dbs answers → each_read_of answers ≡ each_read dbs (map offset_in answers)
each_same dbs answers are = λ i path. each_at dbs answers path are i

-- of one result
pub one_reads_each : {S : Type 0} {G : Ghosts S ℕ} (found : LookupResult S G) (dbs : List Database) → dbs ≡ (database_asked found ∷ []) → each_read_of (Some found ∷ []) ≡ each_read dbs (offset_found found ∷ [])
one_reads_each found dbs is = each_same (database_asked found ∷ []) (Some found ∷ []) (refl, tt) ∙ ap (λ (ds : List Database). each_read ds (offset_found found ∷ [])) (sym is)
