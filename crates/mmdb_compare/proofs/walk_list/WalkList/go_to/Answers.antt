use Rattle.std.proofs.Common.{◌<◌, ◌≤◌, length, arith}
use Rattle.mmdb_compare.proofs.TogetherLaws.{gone_more, gone_all, met_of, as_many, same_databases}
use Rattle.mmdb_compare.proofs.walk_list.WalkList.go_to.Goals as goal

pub returns-then-not-go_to-clause-step : goal.returns-then-not-go_to-clause-step
returns-then-not-go_to-clause-step g c =
    let before = c.args.self.now.walks.items in
    let walks = c.loop-place.self.walks.items in
    let place = c.loop-place.place in
    let i = c.loop-place.invariant in
    let lt : place < length walks = omega (arith, as_many before walks place c.args.at i) in
    met_of before walks c.index_mut-walk.result.now c.go_to.new.self place c.args.at i.left lt c.index_mut-walk.ensures.value c.if-not-go_to.ensures.step

pub loop-place-preserved : goal.loop-place-preserved
loop-place-preserved g c =
    let before = c.args.self.now.walks.items in
    let walks = c.loop-place.self.walks.items in
    let place = c.loop-place.place in
    let i = c.loop-place.invariant in
    let lt : place < length walks = omega (arith, as_many before walks place c.args.at i) in
    gone_more before walks c.index_mut-walk.result.now c.go_to.new.self place c.args.at i lt c.index_mut-walk.ensures.value c.if-not-go_to.ensures.step c.if-not-go_to.ensures.database

pub returns-clause-step : goal.returns-clause-step
returns-clause-step g c =
    let before = c.args.self.now.walks.items in
    let walks = c.loop-place.self.walks.items in
    let place = c.loop-place.place in
    let i = c.loop-place.invariant in
    let le : length walks ≤ place = omega (arith, as_many before walks place c.args.at i) in
    gone_all before walks place c.args.at i le

pub returns-then-not-go_to-clause-databases : goal.returns-then-not-go_to-clause-databases
returns-then-not-go_to-clause-databases g c =
    let before = c.args.self.now.walks.items in
    let walks = c.loop-place.self.walks.items in
    same_databases before walks c.index_mut-walk.result.now c.go_to.new.self c.loop-place.place c.loop-place.invariant.databases c.index_mut-walk.ensures.value c.if-not-go_to.ensures.database
