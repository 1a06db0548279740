use Rattle.std.proofs.Common.{rules, ◌≡◌, ◌-◌, ◌+◌, refl, ◌∙◌, subst, arith}
use Rattle.std.specs.Prelude.{ℕ, Some, IfSome}
use Rattle.mmdb_format.specs.Pointer.{pointer_at}
use Rattle.mmdb_json.specs.Drafts.{Grows}
use Rattle.mmdb_json.specs.Appended.{AppendsText, AppendsMember, AppendsItem, comma_if}
use Rattle.mmdb_json.proofs.Containers.{table_begins, table_more, table_ends, array_begins, array_more, array_ends, value_behind_pointer, item_appended, member_appended}
use Rattle.mmdb_json.proofs.Keeping.{noted, kept_appended, some_goes}
use Rattle.mmdb_json.proofs.record_texts.RecordTexts.+texts.Goals as goal

pub put_table-loop-i-init : goal.put_table-loop-i-init
put_table-loop-i-init t c = record {
  section = refl;
  within = omega arith;
  few = c.note_levels.ensures.fewest.0;
  on = table_begins c.args.self.now c.args.offset c.args.header (c.args.header.size - 0) c.args.levels (c.args.levels - 1) c.args.budget.now c.note_levels.new.self c.args.out.now c.push.new.self c.requires.header c.requires.kind (omega arith) (omega arith) (omega arith) (omega arith) (omega arith) (search rules);
}

pub put_table-loop-i-preserved : goal.put_table-loop-i-preserved
put_table-loop-i-preserved t c =
    let l = c.loop-i in
    let part = subst (λ s. AppendsMember s l.at c.in_ok-at.at (c.args.levels - 1) l.after_value l.budget c.put_member.new.budget l.out c.put_member.new.out) l.invariant.section c.in_ok-at.ensures.member in
    let f = part.charges.levels_left in
    let g = part.costs.fewer in
    let few = l.invariant.few in
    record {
      section = c.in_ok-at.ensures.section ∙ l.invariant.section;
      within = omega arith;
      few = omega (arith, f, g, few);
      on = table_more c.args.self.now c.args.offset c.args.levels (c.args.levels - 1) c.args.budget.now c.args.out.now l.after_value l.at (c.args.header.size - l._i) c.in_ok-at.at (c.args.header.size - (l._i + 1)) l.budget c.put_member.new.budget l.out c.put_member.new.out l.invariant.on (omega arith) part;
    }

pub put_table-returns-clause-value : goal.put_table-returns-clause-value
put_table-returns-clause-value t c =
    let l = c.loop-i in
    table_ends c.args.self.now c.args.offset c.args.levels (c.args.levels - 1) c.args.budget.now c.args.out.now l.after_value l.at (c.args.header.size - l._i) l.budget l.out c.push-2.new.self l.invariant.on (omega arith) l.invariant.few (search rules)

pub put_array-loop-i-init : goal.put_array-loop-i-init
put_array-loop-i-init t c = record {
  section = refl;
  within = omega arith;
  few = c.note_levels.ensures.fewest.0;
  on = array_begins c.args.self.now c.args.offset c.args.header (c.args.header.size - 0) c.args.levels (c.args.levels - 1) c.args.budget.now c.note_levels.new.self c.args.out.now c.push.new.self c.requires.header c.requires.kind (omega arith) (omega arith) (omega arith) (omega arith) (omega arith) (search rules);
}

pub put_array-loop-i-preserved : goal.put_array-loop-i-preserved
put_array-loop-i-preserved t c =
    let l = c.loop-i in
    let part = subst (λ s. AppendsItem s l.at c.in_ok-at.at (c.args.levels - 1) l.after_value l.budget c.put_item.new.budget l.out c.put_item.new.out) l.invariant.section c.in_ok-at.ensures.item in
    let g = part.costs.fewer in
    let few = l.invariant.few in
    record {
      section = c.in_ok-at.ensures.section ∙ l.invariant.section;
      within = omega arith;
      few = omega (arith, g, few);
      on = array_more c.args.self.now c.args.offset c.args.levels (c.args.levels - 1) c.args.budget.now c.args.out.now l.after_value l.at (c.args.header.size - l._i) c.in_ok-at.at (c.args.header.size - (l._i + 1)) l.budget c.put_item.new.budget l.out c.put_item.new.out l.invariant.on (omega arith) part;
    }

pub put_array-returns-clause-value : goal.put_array-returns-clause-value
put_array-returns-clause-value t c =
    let l = c.loop-i in
    array_ends c.args.self.now c.args.offset c.args.levels (c.args.levels - 1) c.args.budget.now c.args.out.now l.after_value l.at (c.args.header.size - l._i) l.budget l.out c.push-2.new.self l.invariant.on (omega arith) l.invariant.few (search rules)

pub put_target-returns-then-put_value_at-clause-value : goal.put_target-returns-then-put_value_at-clause-value
put_target-returns-then-put_value_at-clause-value t c =
    let leads : pointer_at c.args.self.now c.args.header.body c.args.header.size ≡ Some c.in_ok-pointer.pointer = search rules in
    let (end, a) = c.if-put_value_at.ensures.value refl in
    value_behind_pointer c.args.self.now c.args.offset end c.args.levels (c.args.levels - 1) c.args.header c.in_ok-pointer.pointer c.args.budget.now c.put_value_at.new.budget c.args.out.now c.put_value_at.new.out c.requires.header c.requires.kind leads (omega arith) a

pub make_value-returns-clause-value : goal.make_value-returns-clause-value
make_value-returns-clause-value t c = λ _.
    (c.in-Some.field-0, noted c.args.self.now c.args.offset c.in-Some.field-0 c.args.levels c.args.budget.now _ c.put_value.new.budget c.note_levels.new.self c.args.out.now c.put_value.new.out c.in-Some.ensures.value refl refl c.note_levels.ensures.values c.note_levels.ensures.bytes c.note_levels.ensures.fewest.0 c.note_levels.ensures.fewest.1)

pub put_value_at-returns-in-Some-clause-value : goal.put_value_at-returns-in-Some-clause-value
put_value_at-returns-in-Some-clause-value t c = λ done.
    let (bytes, there) = c.in-Some.ensures in
    let charged = c.put_kept.ensures.charged done in
    subst (λ s. (end : ℕ) × AppendsText s c.args.offset end c.args.levels c.args.budget.now c.put_kept.new.budget c.args.out.now c.put_kept.new.out) c.self.view_is
    (kept_appended c.self.inside.section.now c.args.offset c.args.levels c.in-Some.kept.now c.args.budget.now c.put_kept.new.budget c.args.out.now c.put_kept.new.out (c.self.invariant.values_are (record { key = c.args.offset; value = c.in-Some.kept.now; bytes = bytes }) there) charged.deep charged.fewer charged.values_left charged.bytes_left (c.put_kept.ensures.put done))

pub put_item-returns-clause-item : goal.put_item-returns-clause-item
put_item-returns-clause-item t c =
    let comma : Grows c.args.out.now c.put_comma.new.self (comma_if c.args.after_value) = search rules in
    some_goes c.put_value.result (λ end a. item_appended c.args.self.now c.args.offset end c.args.levels c.args.after_value c.args.budget.now c.put_value.new.budget c.args.out.now c.put_comma.new.self c.put_value.new.out comma a) c.put_value.ensures.value

pub put_member-returns-clause-member : goal.put_member-returns-clause-member
put_member-returns-clause-member t c =
    let comma : Grows c.args.out.now c.put_comma.new.self (comma_if c.args.after_value) = search rules in
    let named = c.in_ok-value.ensures.name in
    let value = subst (λ s. IfSome c.put_value.result (λ end. AppendsText s c.in_ok-value.value end c.args.levels c.put_name.new.budget c.put_value.new.budget c.put_name.new.out c.put_value.new.out)) c.in_ok-value.ensures.section c.put_value.ensures.value in
    some_goes c.put_value.result (λ end a. member_appended c.args.self.now c.args.offset c.in_ok-value.value end c.args.levels c.args.after_value c.args.budget.now c.put_name.new.budget c.put_value.new.budget c.args.out.now c.put_comma.new.self c.put_name.new.out c.put_value.new.out comma named a) value
