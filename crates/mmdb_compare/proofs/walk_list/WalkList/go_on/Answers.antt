use Rattle.std.proofs.Common.{◌<◌, length, arith, refl}
use Rattle.mmdb_compare.proofs.TogetherLaws.{passed_more, met_on, same_databases}
use Rattle.mmdb_compare.proofs.walk_list.WalkList.go_on.Goals as goal

pub loop-place-init : goal.loop-place-init
loop-place-init g c = record { databases = refl; rest = refl; many = refl; left = λ at all. refl }

pub loop-place-preserved : goal.loop-place-preserved
loop-place-preserved g c =
    let walks = c.loop-place.self.walks.items in
    let place = c.loop-place.place in
    let i = c.loop-place.invariant in
    let lt : place < length walks = omega (arith, i.many) in
    passed_more c.args.self.now.walks.items walks c.index_mut-walk.result.now c.pass.new.self place i lt c.index_mut-walk.ensures.value c.if-not-pass.ensures.step c.if-not-pass.ensures.database

pub returns-then-not-pass-clause-step : goal.returns-then-not-pass-clause-step
returns-then-not-pass-clause-step g c =
    let walks = c.loop-place.self.walks.items in
    let place = c.loop-place.place in
    let i = c.loop-place.invariant in
    let lt : place < length walks = omega (arith, i.many) in
    met_on c.args.self.now.walks.items walks c.index_mut-walk.result.now c.pass.new.self place i lt c.index_mut-walk.ensures.value c.if-not-pass.ensures.step

pub returns-then-not-pass-clause-databases : goal.returns-then-not-pass-clause-databases
returns-then-not-pass-clause-databases g c =
    same_databases c.args.self.now.walks.items c.loop-place.self.walks.items c.index_mut-walk.result.now c.pass.new.self c.loop-place.place c.loop-place.invariant.databases c.index_mut-walk.ensures.value c.if-not-pass.ensures.database
