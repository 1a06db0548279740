use Rattle.mmdb_blocks.specs.Lists.{listing_of, page_of}
use Rattle.mmdb_cmd_export.proofs.ListedLaws.{was-ok, ends-whole, ends-broken}
use Rattle.mmdb_cmd_export.proofs.blocks.end_list.Goals as goal

pub returns-then-is_whole-clause-ended : goal.returns-then-is_whole-clause-ended
returns-then-is_whole-clause-ended g c =
    ends-whole c.end.result _ (listing_of c.args.list.now) _ (page_of c.finish.new.self) (page_of c.begin.new.self) _ _ _ _
    c.if-is_whole.true c.of_list-then-is_whole.ensures (
      was-ok _ c.finish.result _ c.in_ok-of_list.ensures c.finish.ensures.written,
      was-ok _ c.finish.result _ c.in_ok-of_list.ensures c.finish.ensures.page,
      was-ok _ c.begin.result _ c.in_ok-of_list-2.ensures c.begin.ensures.written,
      was-ok _ c.begin.result _ c.in_ok-of_list-2.ensures c.begin.ensures.page,
    ) c.end.ensures.written

pub returns-else-is_whole-clause-ended : goal.returns-else-is_whole-clause-ended
returns-else-is_whole-clause-ended g c =
    ends-broken c.break_off.result _ (listing_of c.args.list.now) _ (page_of c.finish.new.self) (page_of c.begin.new.self) _ _ _ _
    c.if-is_whole.false c.of_list-else-is_whole.ensures (
      was-ok _ c.finish.result _ c.in_ok-of_list.ensures c.finish.ensures.written,
      was-ok _ c.finish.result _ c.in_ok-of_list.ensures c.finish.ensures.page,
      was-ok _ c.begin.result _ c.in_ok-of_list-2.ensures c.begin.ensures.written,
      was-ok _ c.begin.result _ c.in_ok-of_list-2.ensures c.begin.ensures.page,
    ) c.break_off.ensures.written
