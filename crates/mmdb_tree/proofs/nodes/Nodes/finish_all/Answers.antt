use Rattle.std.proofs.Common.{◌<◌, ◌∙◌, length, slice_set, arith, refl}
use Rattle.std.proofs.lemmas.List.{length-set, get_or-set_other}
use Rattle.mmdb_tree.specs.declared.group.FoundLeaf.{FoundLeaf}
use Rattle.mmdb_tree.specs.Tree.{search_tree}
use Rattle.mmdb_tree.proofs.GroupLemmas.{Ends, Ends-at, Ends-off, set-done, kept-done}
use Rattle.mmdb_tree.proofs.nodes.Nodes.finish_all.Goals as goal
use Rattle.mmdb_tree.proofs.nodes.Nodes.finish_all.Goals.{then-number-self, else-number-self}

pub loop-i-preserved : goal.loop-i-preserved
loop-i-preserved c =
    let tree = search_tree c.args.self.now.bytes.now c.args.self.now.node_count c.args.self.now.record_size in
    let addresses = c.args.addresses.now in
    let old = c.args.leaves.now in
    let leaves = c.loop-i.leaves in
    let i = c.loop-i.i in
    let zero : FoundLeaf = record { number = 0; taken = 0 } in
    let long = c.loop-i.invariant.long in
    let was_long = c.loop-i.invariant.was_long in
    let inside : i < length addresses = c.loop-i-test.true in
    let few = c.requires in
    let within : i < length leaves = omega (arith, inside, few, long) in
    let before : i < length old = omega (arith, inside, few, was_long) in
    let same = c.loop-i.invariant.left i zero (omega arith) in
    elim c.if-number-self.branch [
      | then-number-self w ↦
          let next = w.finish.result in
          rw w.leaves-is (record {
            was_long = was_long;
            long = omega (arith, length-set leaves i next, long);
            done = set-done (Ends tree addresses old) leaves (slice_set leaves i next) i next refl within c.loop-i.invariant.done
                (Ends-at tree addresses old leaves i _ zero next inside before same w.finish.ensures);
            left = λ j d h. get_or-set_other leaves i j next d (λ at. absurd (omega (arith, at, h))) ∙ c.loop-i.invariant.left j d (omega (arith, h));
          })
      | else-number-self w ↦ rw w.leaves-is (record {
        was_long = was_long;
        long = long;
        done = kept-done (Ends tree addresses old) leaves leaves i zero refl within c.loop-i.invariant.done
            (Ends-off tree addresses old leaves i zero before same w.if-number-self.false);
        left = λ j d h. c.loop-i.invariant.left j d (omega (arith, h));
      })
    ]

pub returns : goal.returns
returns c i a d start h w =
    let below : i < c.loop-i.i = let all = c.loop-i-test.false in omega (arith, h, all) in
    c.loop-i.invariant.done i d below a d start w
