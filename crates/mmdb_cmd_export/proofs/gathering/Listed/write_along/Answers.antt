use Rattle.std.proofs.Common.{◌≡◌, ◌∙◌, ◌||◌, Bool, nat_eq, OnOk, IfErr, refl, sym, ap, subst}
use Rattle.mmdb_blocks.specs.Lists.{listing_of}
use Rattle.mmdb_query.specs.Parts.{ComesInPart}
use Rattle.mmdb_query.specs.Taking.{Takes}
use Rattle.mmdb_cmd_export.specs.Listed.{listed_of, may_lack_of, may_be_empty_of, MayEnd, EndFails}
use Rattle.mmdb_cmd_export.proofs.ListedLaws.{LawOfAscending, list-written, list-of-fewest, fewest-fails}
use Rattle.mmdb_cmd_export.proofs.gathering.Listed.write_along.Goals as goal
use Rattle.mmdb_cmd_export.proofs.gathering.Listed.write_along.Goals.{then-self, else-self}

pub returns : goal.returns
returns g c =
    let part = c.args.part.now in
    let task = c.args.self.now.task.now in
    let s = g.W.Walk.sections part.walk in
    let comes = ComesInPart part.kinds part.range (g.W.Walk.comes part.walk) in
    let a = listed_of task.conditions.items s in
    let first = listing_of c.in-Ok.listing.list in
    let last = listing_of c.list_part.new.listing.list in
    let unread = c.in-Ok-list_part.unread in
    let before = g.O.Write.contents c.args.out.now in
    let at = g.O.Write.contents c.list_part.new.out in
    let after = g.O.Write.contents c.end_list.new.out in
    let takes = subst (λ conditions. Takes comes (listed_of conditions s) first last before at unread) c.as_slice.ensures.value c.in-Ok-list_part.ensures.listed in
    let law = subst (λ conditions. LawOfAscending (listed_of conditions s)) c.as_slice.ensures.value (c.ascending_list_is_of_fewest.ensures (record { conditions = c.as_slice.result }) s) in
    let may : c.if-self.end_list ≡ may_be_empty_of task = elim c.if-self.branch [
      | then-self w ↦ w.end_list-is ∙ w.if-self.true ∙ ap (λ (b : Bool). b || may_lack_of task.shape) (sym w.if-self.true)
      | else-self w ↦ w.end_list-is ∙ w.may_lack.ensures ∙ ap (λ (b : Bool). b || may_lack_of task.shape) (sym w.if-self.false)
    ] in
    record {
      written = list-written comes a c.args.syntax task.kinds first last unread (nat_eq unread 0) c.end_list.result before at after c.in-Ok.ensures refl takes c.end_list.ensures.ended;
      fewest = list-of-fewest comes a c.args.syntax task.kinds last first unread before at c.in-Ok.ensures law takes (nat_eq unread 0) (may_be_empty_of task) c.end_list.result after refl
          c.end_list.ensures.ended (subst (λ b. OnOk c.end_list.result (MayEnd last b)) may c.end_list.ensures.may_end);
      failed = fewest-fails comes a c.args.syntax task.kinds last first unread before at c.in-Ok.ensures law takes (may_be_empty_of task) c.end_list.result after
          (subst (λ b. IfErr c.end_list.result (EndFails last b at after)) may c.end_list.ensures.failed);
    }
