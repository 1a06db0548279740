use Rattle.std.proofs.Common.{rules, ◌≡◌, Some, subst, refl}
use Rattle.mmdb_format.specs.Contents.{key_bytes_at}
use Rattle.mmdb_compare.specs.declared.place.PairPosition.{PairPosition}
use Rattle.mmdb_compare.specs.Same.{Sections}
use Rattle.mmdb_compare.specs.SideBySide.{IsSameKey}
use Rattle.mmdb_compare.proofs.Same.{key_same}
use Rattle.mmdb_compare.proofs.equality.SideBySide.has_same_key.Goals as goal

pub returns : goal.returns
returns c = λ _.
    let i = c.self.inside in
    let k = c.in-Ok in
    let n = c.in-Some in
    let of_old : key_bytes_at i.in_old.now c.args.place.now.in_old ≡ Some (k.old.now, k.behind_old) = search rules in
    let of_new : key_bytes_at i.in_new.now c.args.place.now.in_new ≡ Some (n.new.now, n.behind_new) = search rules in
    let same : k.old.now ≡ n.new.now = search rules in
    let paid = c.if-not-takes.ensures in
    let after : PairPosition = record { in_old = k.behind_old; in_new = n.behind_new; left = c.takes.new.self.left } in
    let is : Sections = record { in_old = i.in_old.now; in_new = i.in_new.now } in
    subst (λ s. IsSameKey s c.args.place.now after) c.self.view_is (key_same is c.args.place.now after k.old.now n.new.now of_old of_new same (search rules) (paid.left refl))
