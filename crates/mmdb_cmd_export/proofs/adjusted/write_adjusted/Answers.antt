use Rattle.std.proofs.Common.{◌≡◌, ◌∙◌, ◌||◌, Bool, refl, sym, ap}
use Rattle.mmdb_blocks.specs.Lists.{listing_of}
use Rattle.mmdb_cmd_export.specs.Listed.{may_lack_of, may_be_empty_of}
use Rattle.mmdb_cmd_export.proofs.ListedLaws.{kinds-kept, list-is-text, has-address, list-fails}
use Rattle.mmdb_cmd_export.proofs.adjusted.write_adjusted.Goals as goal
use Rattle.mmdb_cmd_export.proofs.adjusted.write_adjusted.Goals.{then-task, else-task}

pub push_kind-requires-2 : goal.push_kind-requires-2
push_kind-requires-2 g c =
    kinds-kept c.args.syntax c.args.task.now.kinds c.args.gathered.now.chosen c.args.adjustment.now (listing_of c.in-Ok.list) (listing_of c.push_kind.new.list) _ _
    c.in-Ok.ensures c.in_ok-push_kind.ensures.pushed

pub returns-clause-written : goal.returns-clause-written
returns-clause-written g c =
    list-is-text c.args.syntax c.args.task.now.kinds c.args.gathered.now.chosen c.args.adjustment.now (listing_of c.in-Ok.list) (listing_of c.push_kind.new.list) (listing_of c.push_kind-2.new.list) _ _ _
    c.list_is_of_fewest.ensures c.joined_form_is_unique.ensures
    (record { start = c.in-Ok.ensures; of_ipv4 = c.in_ok-push_kind.ensures.pushed; of_ipv6 = c.in_ok-push_kind-2.ensures.pushed })
    _ c.end_list.result _ c.end_list.ensures.ended

pub returns-clause-not_empty : goal.returns-clause-not_empty
returns-clause-not_empty g c =
    let may : c.if-task.end_list ≡ may_be_empty_of c.args.task.now = elim c.if-task.branch [
      | then-task w ↦ w.end_list-is ∙ w.if-task.true ∙ ap (λ (b : Bool). b || may_lack_of c.args.task.now.shape) (sym w.if-task.true)
      | else-task w ↦ w.end_list-is ∙ w.may_lack.ensures ∙ ap (λ (b : Bool). b || may_lack_of c.args.task.now.shape) (sym w.if-task.false)
    ] in
    has-address c.args.syntax c.args.task.now.kinds c.args.gathered.now.chosen c.args.adjustment.now (listing_of c.in-Ok.list) (listing_of c.push_kind.new.list) (listing_of c.push_kind-2.new.list) _ _ _
    c.list_is_of_fewest.ensures c.joined_form_is_unique.ensures
    (record { start = c.in-Ok.ensures; of_ipv4 = c.in_ok-push_kind.ensures.pushed; of_ipv6 = c.in_ok-push_kind-2.ensures.pushed })
    c.end_list.result _ (may_be_empty_of c.args.task.now) may c.end_list.ensures.may_end

pub returns-clause-failed : goal.returns-clause-failed
returns-clause-failed g c =
    let may : c.if-task.end_list ≡ may_be_empty_of c.args.task.now = elim c.if-task.branch [
      | then-task w ↦ w.end_list-is ∙ w.if-task.true ∙ ap (λ (b : Bool). b || may_lack_of c.args.task.now.shape) (sym w.if-task.true)
      | else-task w ↦ w.end_list-is ∙ w.may_lack.ensures ∙ ap (λ (b : Bool). b || may_lack_of c.args.task.now.shape) (sym w.if-task.false)
    ] in
    list-fails c.args.syntax c.args.task.now.kinds c.args.gathered.now.chosen c.args.adjustment.now (listing_of c.in-Ok.list) (listing_of c.push_kind.new.list) (listing_of c.push_kind-2.new.list) _ _ _
    c.list_is_of_fewest.ensures c.joined_form_is_unique.ensures
    (record { start = c.in-Ok.ensures; of_ipv4 = c.in_ok-push_kind.ensures.pushed; of_ipv6 = c.in_ok-push_kind-2.ensures.pushed })
    _ c.end_list.result c.args.task.now c.if-task.end_list refl may c.end_list.ensures.failed
