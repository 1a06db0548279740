use Rattle.std.proofs.Common.{◌<◌, length, get_or, slice_set, arith, sym, refl, subst}
use Rattle.std.proofs.lemmas.List.{length-set}
use Rattle.mmdb_net.specs.Address.{bits_of_address}
use Rattle.mmdb_tree.specs.Tree.{SearchTree}
use Rattle.mmdb_tree.specs.Descents.{Walks}
use Rattle.mmdb_tree.specs.Groups.{HasEnded}
use Rattle.mmdb_reader.specs.Many.{first_number}
use Rattle.mmdb_tree.proofs.GroupLemmas.{set-done}
use Rattle.mmdb_reader.proofs.ManyLemmas.{Begins, Begins-at}
use Rattle.mmdb_reader.proofs.reader.Reader.walk_group.Goals as goal

pub loop-i-preserved : goal.loop-i-preserved
loop-i-preserved g c =
    let db = c.args.self.now in
    let i = c.loop-i.i in
    let long = c.loop-i.invariant.long in
    let few = c.requires in
    let inside : i < length c.args.addresses.now = c.loop-i-test.true in
    let within : i < length c.loop-i.leaves = omega (arith, inside, few, long) in
    record {
      long = omega (arith, length-set c.loop-i.leaves i c.begin.result, long);
      done = set-done (Begins db c.args.addresses.now) c.loop-i.leaves (slice_set c.loop-i.leaves i c.begin.result) i c.begin.result refl within c.loop-i.invariant.done
          (Begins-at db c.args.addresses.now i _ c.begin.result inside c.begin.ensures);
    }

pub returns : goal.returns
returns g c i a d h walk =
    let db = c.args.self.now in
    let address = get_or c.args.addresses.now i a in
    let leaf = get_or c.loop-i.leaves i d in
    let below : i < c.loop-i.i = let all = c.loop-i-test.false in omega (arith, h, all) in
    let P : SearchTree → Type 0 = λ t. Walks t (first_number db address) (bits_of_address address) leaf.taken leaf.number in
    let Q : SearchTree → Type 0 = λ t. HasEnded t (first_number db address) (bits_of_address address) (get_or c.go_on.new.leaves i d) in
    subst Q c.nodes.ensures.tree (c.go_on.ensures i a d (first_number db address) h (subst P (sym c.nodes.ensures.tree) (c.loop-i.invariant.done i d below a walk)))
