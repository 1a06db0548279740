use Rattle.std.proofs.Common.{ℕ, List, ◌++◌, drop, Option}
use Rattle.mmdb_format.specs.declared.error.MaxMindDbError.{MaxMindDbError}
use Rattle.mmdb_cmd_show.specs.Answers.{AreAnswers, named_errors}
use Rattle.mmdb_cmd_show.specs.declared.answer.DatabaseAnswer.{DatabaseAnswer}
use Rattle.mmdb_cmd_show.proofs.databases.answers_of.Given as goal

-- what comes of those that are left completes the answers
abbrev pub invariant-loop-shown : goal.invariant-loop-shown
invariant-loop-shown l =
    (answers : List (Option DatabaseAnswer)) (errors : List (List ℕ × MaxMindDbError))
    → AreAnswers l.databases (drop l.shown-index l.databases) l.address answers errors
    → AreAnswers l.databases l.databases l.address (l.answers.answers.items ++ answers) (named_errors l.answers ++ errors)
