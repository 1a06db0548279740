use Rattle.std.proofs.Common.{◌++◌, string_bytes, ◌∙◌, ap}
use Rattle.mmdb_reader.proofs.PathLemmas.{no_text, more_text}
use Rattle.mmdb_reader.proofs.path.render_path.Goals as goal

pub loop-step-init : goal.loop-step-init
loop-step-init c = no_text _ c.new-text.ensures.bytes

pub loop-step-preserved : goal.loop-step-preserved
loop-step-preserved c = more_text c.args.path.now c.loop-step.step-index _ (string_bytes c.loop-step.text) (string_bytes c.in_ok-one.one) (string_bytes c.push_str.new.self) c.loop-step-test.true c.loop-step.invariant c.in_ok-one.ensures (c.in_ok-push_str.ensures.bytes ∙ ap (λ x. string_bytes c.loop-step.text ++ x) c.as_str.ensures.value)
