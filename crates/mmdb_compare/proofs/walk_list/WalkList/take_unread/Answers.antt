use Rattle.std.proofs.Common.{◌<◌, length, arith}
use Rattle.mmdb_compare.proofs.TogetherLaws.{written_back}
use Rattle.mmdb_compare.proofs.walk_list.WalkList.take_unread.Goals as goal

pub returns : goal.returns
returns g c =
    let walks = c.args.self.now.walks.items in
    let lt : c.args.place < length walks = omega arith in
    written_back walks c.index_mut-walk.result.now c.take_unread.new.self c.args.place lt c.index_mut-walk.ensures.value c.take_unread.ensures
