use Rattle.std.proofs.Common.{◌∙◌, [], ◌∷◌, ◌++◌, refl, ap}
use Rattle.std.proofs.lemmas.Bool.{false≢true}
use Rattle.mmdb_blocks.specs.Joining.{waiting_of}
use Rattle.mmdb_blocks.proofs.JoinLaws.{pend-of, after-pushed-of, pushed-after-of}
use Rattle.mmdb_blocks.proofs.joiner.Joiner.push.Goals as goal

pub returns-then-not-is_after-clause-taken : goal.returns-then-not-is_after-clause-taken
returns-then-not-is_after-clause-taken c = λ pushed handed h.
    let seen = ap (λ p. p.0) c.self.view_is in (
      λ t. absurd (false≢true t),
      λ p. c.if-not-is_after.ensures.1 (pushed-after-of pushed handed (waiting_of c.args.self.now) c.deref.result.now c.args.block (c.deref.ensures.value ∙ seen) h p.1),
    )

pub returns-clause-ok : goal.returns-clause-ok
returns-clause-ok c = λ pushed handed h.
    let seen = ap (λ p. p.0) c.self.view_is in
    c.add.ensures.joining (pushed ++ c.args.block ∷ []) handed
    (pend-of pushed handed (waiting_of c.args.self.now) c.self.inside.waiting.items c.deref.result.now c.args.block seen c.deref.ensures.value h (c.if-not-is_block.ensures.0 refl) (c.if-not-is_after.ensures.0 refl))

pub returns-clause-taken : goal.returns-clause-taken
returns-clause-taken c = λ pushed handed h.
    let seen = ap (λ p. p.0) c.self.view_is in (
      λ t. (c.if-not-is_block.ensures.0 refl, after-pushed-of pushed handed (waiting_of c.args.self.now) c.deref.result.now c.args.block (c.deref.ensures.value ∙ seen) h (c.if-not-is_after.ensures.0 refl)),
      λ p. refl,
    )
