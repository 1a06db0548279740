use Rattle.std.proofs.Common.{◌≡◌, ℕ, ◌+◌, ◌-◌, ◌<◌, ◌≤◌, List, ◌++◌, length, get_or, take, drop, arith, sym, ap, ◌∙◌, subst, inl, inr}
use Rattle.std.proofs.lemmas.List.{get_or-take, get_or-drop, get_or_append_left, get_or-append_right, length-take-le, take_all, length-drop}
use Rattle.std.proofs.lemmas.Bool.{cases_lt}
use Rattle.std.specs.declared.net.ip_addr.IpAddr.{IpAddr}
use borrow.Rule.Slice.PartMut.{put_mid, post_of, same_len_mid}
use Rattle.mmdb_tree.specs.declared.group.FoundLeaf.{FoundLeaf}
use Rattle.mmdb_reader.specs.File.{Database}
use Rattle.mmdb_reader.specs.Many.{IsFoundFor}
use Rattle.mmdb_reader.proofs.reader.Reader.find_groups.Goals as goal

module _ (db : Database) (addresses : List IpAddr) (leaves group : List FoundLeaf) (done count k : ℕ) (within : done ≤ length leaves) (few : count ≤ length group)
    (before : (i : ℕ) (a : IpAddr) (d : FoundLeaf) → i < done → IsFoundFor db (get_or addresses i a) (get_or leaves i d))
    (here : (i : ℕ) (a : IpAddr) (d : FoundLeaf) → i < count → IsFoundFor db (get_or (drop done addresses) i a) (get_or group i d)) where
  front : length (take done leaves) ≡ done
  front = length-take-le done leaves within

  -- leaves before a place stay
  stays : (i : ℕ) (d : FoundLeaf) → i < done → get_or (put_mid done k leaves (take count group)) i d ≡ get_or leaves i d
  stays i d less =
      get_or_append_left (take done leaves) (take count group ++ post_of done k leaves) d i (omega (arith, less, front)) ∙ get_or-take done leaves i d less

  -- those after it are the group's
  grows : (i : ℕ) (d : FoundLeaf) → i < count → get_or (put_mid done k leaves (take count group)) (done + i) d ≡ get_or group i d
  grows i d less =
      let taken = length-take-le count group few in
      let back : done + i - done ≡ i = omega arith in
      get_or-append_right (take done leaves) (take count group ++ post_of done k leaves) done (done + i) d front (omega arith)
      ∙ (ap (λ n. get_or (take count group ++ post_of done k leaves) n d) back
      ∙ (get_or_append_left (take count group) (post_of done k leaves) d i (omega (arith, less, taken)) ∙ get_or-take count group i d less))

  found-on : (i : ℕ) (a : IpAddr) (d : FoundLeaf) → i < done + count → IsFoundFor db (get_or addresses i a) (get_or (put_mid done k leaves (take count group)) i d)
  found-on i a d h = elim (cases_lt i done) [
    | inl less ↦ subst (IsFoundFor db (get_or addresses i a)) (sym (stays i d less)) (before i a d less)
    | inr more ↦
        let j = i - done in
        let at : done + j ≡ i = omega (arith, more) in
        let less : j < count = omega (arith, h, more) in
        let P : IpAddr → Type 0 = λ x. IsFoundFor db x (get_or (put_mid done k leaves (take count group)) (done + j) d) in
        let Q : ℕ → Type 0 = λ n. IsFoundFor db (get_or addresses n a) (get_or (put_mid done k leaves (take count group)) n d) in
        subst Q at (subst P (get_or-drop done addresses j a) (subst (IsFoundFor db (get_or (drop done addresses) j a)) (sym (grows j d less)) (here j a d less)))
  ]

pub loop-done-preserved : goal.loop-done-preserved
loop-done-preserved g c =
    let addresses = c.args.addresses.now in
    let done = c.loop-done.done in
    let count = c.find_group-count.result in
    let within = c.loop-done.invariant.within in
    let long = c.loop-done.invariant.long in
    let whole : take (length addresses - done) (drop done addresses) ≡ drop done addresses = take_all (length addresses - done) (drop done addresses) (omega (arith, length-drop done addresses)) in
    let left : count ≤ length addresses - done = let w = c.find_group-count.ensures.within in omega (arith, w, ap length whole, length-drop done addresses) in
    let copied : c.copy_from_slice.new.self ≡ take count c.find_group-count.new.leaves = c.copy_from_slice.ensures.after in
    let few : count ≤ length c.find_group-count.new.leaves = let few = c.find_group-count.ensures.few in let long = c.find_group-count.array_long in omega (arith, few, long) in
    let k = done + count - done in
    let P : List FoundLeaf → Type 0 = λ ys. (i : ℕ) (a : IpAddr) (d : FoundLeaf) → i < done + count → IsFoundFor c.args.self.now (get_or addresses i a) (get_or (put_mid done k c.loop-done.leaves ys) i d) in
    let Q : List IpAddr → Type 0 = λ xs. (i : ℕ) (a : IpAddr) (d : FoundLeaf) → i < count → IsFoundFor c.args.self.now (get_or xs i a) (get_or c.find_group-count.new.leaves i d) in
    record {
      within = omega (arith, left, within);
      long = same_len_mid done k c.loop-done.leaves c.copy_from_slice.new.self c.copy_from_slice.ensures.len ∙ long;
      found = subst P (sym copied) (found-on c.args.self.now addresses c.loop-done.leaves c.find_group-count.new.leaves done count k (omega (arith, within, long)) few c.loop-done.invariant.found (subst Q whole c.find_group-count.ensures.found));
    }

pub returns-clause-found : goal.returns-clause-found
returns-clause-found g c i a d h = c.loop-done.invariant.found i a d (let all = c.loop-done-test.false in omega (arith, h, all))
