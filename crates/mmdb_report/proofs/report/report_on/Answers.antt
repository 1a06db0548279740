use Rattle.std.proofs.Common.{rules, Some, ap, ◌∙◌, subst, refl}
use Rattle.mmdb_reader.specs.File.{Database}
use Rattle.mmdb_reader.specs.Items.{item_view, IsItemOf}
use Rattle.mmdb_reader.specs.Enumeration.{items_to_come, database_walked}
use Rattle.mmdb_report.proofs.TallyLemmas.{shares_first, shares_next, counts_all, counted_length, more_than_counted, reports_list, has_too_many, full_of}
use Rattle.mmdb_report.proofs.report.report_on.Goals as goal

pub loop-item-init : goal.loop-item-init
loop-item-init g c = record { can = tt; ends = tt; walked = refl; shares = shares_first _ _ _ c.new-tally.ensures }

pub loop-item-preserved : goal.loop-item-preserved
loop-item-preserved g c =
    let first = database_walked c.into_iter-item-iterator.result in
    let P : Database → Type 0 = λ d. IsItemOf d (Some c.in-Some.item) in
    let is_item : IsItemOf first (Some c.in-Some.item) = subst P c.loop-item.invariant.walked c.in-Some.ensures.steps.1.1 in
    record {
      can = tt;
      ends = tt;
      walked = c.in-Some.ensures.steps.1.0 ∙ c.loop-item.invariant.walked;
      shares = shares_next first _ _ _ (item_view c.in-Some.item) _ _ c.loop-item.invariant.shares c.in-Some.ensures.steps.0 (c.in_ok-add.ensures.added first is_item);
    }

pub returns-clause-counts : goal.returns-clause-counts
returns-clause-counts g c =
    let first = database_walked c.into_iter-item-iterator.result in
    let given = c.into_iter-item-iterator.ensures.into_iter_gives in
    let listing = c.in_ok-item-items.ensures.listing in
    let none = c.in-None.ensures.steps.0.0 in
    let shares = c.loop-item.invariant.shares in
    reports_list first _ c.args.reader.now _ _ _ _ listing.list c.loop-item.tally c.into_report.result (ap database_walked given) c.in_ok-item-items.ensures.database (ap items_to_come given) listing.comes listing.is_listing
    (counted_length first _ _ _ shares none) c.into_report.ensures.items (counts_all first _ _ _ c.into_report.result shares none c.into_report.ensures)

pub returns-in_err-add-clause-too_many : goal.returns-in_err-add-clause-too_many
returns-in_err-add-clause-too_many g c is =
    let first = database_walked c.into_iter-item-iterator.result in
    let given = c.into_iter-item-iterator.ensures.into_iter_gives in
    let listing = c.in_ok-item-items.ensures.listing in
    let more = more_than_counted first _ _ _ _ _ c.loop-item.invariant.shares c.in-Some.ensures.steps.0 in
    let full = full_of c.loop-item.tally c.in_err-add.field-0.0 c.in_err-add.ensures.no_other (search rules) in
    has_too_many first _ c.args.reader.now _ _ _ _ listing.list _ (ap database_walked given) c.in_ok-item-items.ensures.database (ap items_to_come given) listing.comes listing.is_listing more full
