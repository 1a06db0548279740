use Rattle.std.proofs.Common.{◌≡◌, length, get_or, ap, arith, subst, sym, ◌∙◌}
use Rattle.std.proofs.lemmas.List.{length-map}
use Rattle.mmdb_compare.specs.Found.{numbered_ip, IsFoundAt}
use Rattle.mmdb_compare.specs.Together.{Abreast}
use Rattle.mmdb_compare.specs.Walks.{Standing}
use Rattle.mmdb_compare.proofs.together.Together.found.Goals as goal

pub returns : goal.returns
returns g c db lt =
    let walks = c.self.inside.list.walks.items in
    let many : length walks ≡ length c.args.self.now.databases = sym (length-map walks (λ (s : Standing). s.database)) ∙ ap (λ (x : Abreast). length x.databases) c.self.view_is in
    subst (λ (x : Abreast). IsFoundAt (get_or x.databases c.args.place db) (numbered_ip c.args.stretch.block.first) c.found_in.result) c.self.view_is (c.found_in.ensures db (omega (arith, many, lt)))
