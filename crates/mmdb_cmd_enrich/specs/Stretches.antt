-- Rows of an input to which databases add, of which files may be replaced meanwhile: a stretch of rows for each opening of them.
use Rattle.std.specs.Prelude.{◌≡◌, ℕ, List, [], ◌∷◌, ◌++◌, Option, Some, IfSome, Bool, false}
use Rattle.std.specs.Io.KnownBytes.{Appends}
use Rattle.mmdb_filter.specs.Lines.{MayAdd, Line, AreLines, AppendsFront, written, counted}
use Rattle.mmdb_filter.specs.declared.counts.Counts.{Counts}
use Rattle.mmdb_filter.specs.declared.rows.Rows.{Rows}
use Rattle.mmdb_reader.specs.File.{Database}
use Rattle.mmdb_cmd_enrich.specs.Added.{Adds}
use Rattle.mmdb_cmd_enrich.specs.Template.{Template, most_of}

-- what a template adds of these databases
abbrev pub additions_of : Template → List Database → MayAdd
additions_of template dbs = record { most = most_of template; adds = λ text goes_on extra behind outcome. Adds template dbs text goes_on extra behind outcome }

-- rows that passed while these databases were open, with what was added to each
pub record Stretch : Type 0 where
  pub template : Template
  pub databases : List Database
  pub lines : List Line

-- These are the first rows of the bytes, in order, each with what the databases then open add, and this is left of the bytes. Of the
-- templates and the databases this holds.
abbrev pub AreStretches : Rows → (Template → List Database → Type 0) → List Stretch → List ℕ → List ℕ → Type 0
AreStretches rows Are [] xs left = left ≡ xs
AreStretches rows Are (stretch ∷ stretches) xs left =
    (mid : List ℕ) × Are stretch.template stretch.databases × AreLines rows (additions_of stretch.template stretch.databases) stretch.lines xs mid
    × AreStretches rows Are stretches mid left

abbrev pub lines_of : List Stretch → List Line
lines_of [] = []
lines_of (stretch ∷ stretches) = stretch.lines ++ lines_of stretches

-- Where the bytes of the input are known, it lost its first rows, known output grew by these, each with what the databases then open
-- add, and the counts are those before with theirs.
abbrev pub IsEnriched : Rows → (Template → List Database → Type 0) → Option (List ℕ) → Option (List ℕ) → Option (List ℕ) → Option (List ℕ) → Counts → Counts → Type 0
IsEnriched rows Are input left old new before counts =
    IfSome input (λ xs. (ys : List ℕ) × (stretches : List Stretch) × (left ≡ Some ys) × AreStretches rows Are stretches xs ys
    × Appends old new (written (lines_of stretches)) × (counts ≡ counted before (lines_of stretches)))

-- There known output grew by a beginning of its first rows, each with what the databases then open add.
abbrev pub IsEnrichedFront : Rows → (Template → List Database → Type 0) → Option (List ℕ) → Option (List ℕ) → Option (List ℕ) → Type 0
IsEnrichedFront rows Are input old new =
    IfSome input (λ xs. (left : List ℕ) × (stretches : List Stretch) × AreStretches rows Are stretches xs left × AppendsFront old new (written (lines_of stretches)))

-- What is added is as it was asked for, of databases that are those that were opened first, unless replaced files are opened anew.
abbrev pub AreAsked : Bool → List Database → (Template → Type 0) → Template → List Database → Type 0
AreAsked reloads first IsAsked template dbs = IsAsked template × (reloads ≡ false → dbs ≡ first)
