use Rattle.std.proofs.Common.{◌≡◌, ◌<◌, inl, List, length, sym, ap, ◌∙◌, subst, arith}
use Rattle.mmdb_check.proofs.Inlines.{if_is}
use Rattle.mmdb_section.specs.declared.moved.MovedSection.{MovedSection}
use Rattle.mmdb_section.specs.Moved.{IsMoved}
use Rattle.mmdb_section.specs.Sections.{Tile, AreTiles}
use Rattle.mmdb_writer.proofs.layout.lay_out.Goals as goal

pub returns-then-have_moved : goal.returns-then-have_moved
returns-then-have_moved c =
    let given = c.deref.result.now in
    let moved = c.in-Some.moved in
    let bytes : given ≡ c.args.section.bytes = c.deref.ensures.value ∙ c.into_bytes-bytes.ensures in
    let is = if_is c.in_ok-moved.field-0 (λ (m : MovedSection). (tiles : List Tile) → AreTiles tiles given → IsMoved tiles m) moved c.in_ok-moved.ensures.moved c.in-Some.is in
    let shorter : length moved.bytes.items < length given = if_is c.in_ok-moved.field-0 (λ (m : MovedSection). length m.bytes.items < length given) moved c.in_ok-moved.ensures.shorter c.in-Some.is in
    let long : length given ≡ length c.args.section.bytes = ap length bytes in
    let out : length c.into_bytes.result.items ≡ length moved.bytes.items = ap (λ v. length v.items) c.into_bytes.ensures in
    inl (record {
      moved = moved;
      are = ap (λ v. v.items) c.into_bytes.ensures;
      is = λ tiles laid. is tiles (subst (AreTiles tiles) (sym bytes) laid);
      shorter = omega arith;
      all = c.have_moved.ensures c.if-have_moved.true;
      entries_are = c.move_entries.ensures;
    })
