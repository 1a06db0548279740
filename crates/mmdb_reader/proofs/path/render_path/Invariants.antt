use Rattle.std.proofs.Common.{◌≡◌, take, string_bytes}
use Rattle.mmdb_reader.specs.PathText.{path_text}
use Rattle.mmdb_reader.proofs.path.render_path.Given as goal

-- the steps so far were written
abbrev pub invariant-loop-step : goal.invariant-loop-step
invariant-loop-step l = string_bytes l.text ≡ path_text (take l.step-index l.path)
