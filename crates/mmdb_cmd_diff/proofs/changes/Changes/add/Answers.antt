use Rattle.std.proofs.Common.{◌∙◌, inl}
use Rattle.mmdb_cmd_diff.proofs.Telling.{told-added, tells-weaker, run-added, run-same, in-run-same}
use Rattle.mmdb_cmd_diff.proofs.changes.Changes.add.Goals as goal

pub returns-clause-told : goal.returns-clause-told
returns-clause-told g c both h there =
    let added = told-added c.args.pairs.now.layout.now c.args.pairs.now.shown both c.args.self.now.run c.join.new.self.run c.args.stretch _ _ c.args.self.now.joiner c.join.new.self.joiner _ _
    c.join.ensures.run c.requires h there c.in_ok-join.ensures.joined c.in_ok-put_settled.ensures.written in
    tells-weaker c.args.pairs.now.layout.now c.args.pairs.now.shown both _ _ _ _ _ _ (λ is_ipv4 address due. inl due)
    (λ is_ipv4 address waits. c.note_last.ensures.kept is_ipv4 address
    (in-run-same c.args.self.now.run c.keep_presence.new.self.run c.join.new.self.joiner c.keep_presence.new.self.joiner is_ipv4 address
    (c.keep_presence.ensures.run ∙ c.put_settled.ensures.run ∙ c.join.ensures.run) (c.keep_presence.ensures.joiner ∙ c.put_settled.ensures.joiner) waits)) added

pub returns-clause-waiting : goal.returns-clause-waiting
returns-clause-waiting g c both h there =
    c.note_last.ensures.waiting c.args.pairs.now.shown both
    (run-same c.args.pairs.now.shown both c.args.self.now.run c.keep_presence.new.self.run c.join.new.self.joiner c.keep_presence.new.self.joiner
    (c.keep_presence.ensures.run ∙ c.put_settled.ensures.run ∙ c.join.ensures.run) (c.keep_presence.ensures.joiner ∙ c.put_settled.ensures.joiner)
    (run-added c.args.pairs.now.shown both c.args.self.now.run c.args.stretch _ _ c.args.self.now.joiner c.join.new.self.joiner c.requires h there c.in_ok-join.ensures.joined))
