use Rattle.std.proofs.Common.{sym, false}
use Rattle.std.proofs.lemmas.Result.{err_from_is_err_and}
use Rattle.mmdb_format.specs.Contents.{content_end, scalar_payload}
use Rattle.mmdb_format.specs.Views.{content_view}
use Rattle.mmdb_decode.specs.Levels.{content_of}
use Rattle.mmdb_decode.proofs.StepLaws.{state, nothing_taken, unread, read_at, read_past}
use Rattle.mmdb_decode.proofs.LevelLaws.{content_none, content_some}
use Rattle.mmdb_decode.proofs.decoder.Decoder.take_content.Goals as goal

pub returns-in_err-content : goal.returns-in_err-content
returns-in_err-content c = let p = err_from_is_err_and c.from_residual.result c.from_residual.ensures.1 in rw (p.1, ← c.self.view_is) (nothing_taken _ _ (unread false (content_of c.args.header) _ (content_none c.args.header (state c.self.inside.section.now c.self.inside.offset c.self.inside.levels c.self.inside.budget) (sym c.in_err-content.ensures.value))))

pub returns-in_err-self-inside : goal.returns-in_err-self-inside
returns-in_err-self-inside c = let p = err_from_is_err_and c.from_residual-in_err-self-inside.result c.from_residual-in_err-self-inside.ensures.1 in rw (p.1, ← c.self.view_is) (nothing_taken _ _ (read_past false (content_of c.args.header) _ (record { value = content_view c.in_ok-content.content; next = content_end c.args.header; values = 0; bytes = scalar_payload (content_view c.in_ok-content.content) }) (content_some c.args.header (state c.self.inside.section.now c.self.inside.offset c.self.inside.levels c.self.inside.budget) (content_view c.in_ok-content.content) (sym c.in_ok-content.ensures.value)) (rw c.payload.ensures at (sym c.in_err-self-inside.ensures.value))))

pub returns : goal.returns
returns c = rw (← c.self.view_is, c.content_end-self-inside.ensures) (read_at false (content_of c.args.header) _ (record { value = content_view c.in_ok-content.content; next = content_end c.args.header; values = 0; bytes = scalar_payload (content_view c.in_ok-content.content) }) c.in_ok-self-inside.field-0 (content_some c.args.header (state c.self.inside.section.now c.self.inside.offset c.self.inside.levels c.self.inside.budget) (content_view c.in_ok-content.content) (sym c.in_ok-content.ensures.value)) (rw c.payload.ensures at (sym c.in_ok-self-inside.ensures.value)))
