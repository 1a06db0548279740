use Rattle.mmdb_cmd_diff.proofs.Showing.{shown_for}
use Rattle.mmdb_cmd_diff.proofs.differences.Pairs.is_shown_same.Goals as goal

pub note_last-requires : goal.note_last-requires
note_last-requires c = shown_for c.args.self.now.shown _ _ c.in-Some.number c.args.shown c.in-Some.ensures c.requires
