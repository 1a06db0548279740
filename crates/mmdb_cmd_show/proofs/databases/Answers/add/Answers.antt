use Rattle.std.proofs.Common.{None, [], ◌∷◌, map, inr, refl, ap, ◌∙◌}
use Rattle.std.proofs.lemmas.List.{map-append}
use Rattle.mmdb_cmd_show.proofs.databases.Answers.add.Goals as goal

pub returns-in_ok-push-in-Err-2 : goal.returns-in_ok-push-in-Err-2
returns-in_ok-push-in-Err-2 c =
    let shown = c.args.shown.now in
    let error = c.in-Err.error in (
      None,
      (shown.name.now, error) ∷ [],
      inr (error, (c.if-is_passed.ensures, c.in-Err.ensures.unread), refl),
      c.in_ok-push-in-Err.ensures.items,
      ap (map (λ e. (e.0.now, e.1))) c.in_ok-push-in-Err-2.ensures.items ∙ map-append (λ e. (e.0.now, e.1)) c.args.self.now.errors.items ((shown.name, error) ∷ []),
    )
