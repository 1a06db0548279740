use Rattle.std.proofs.Common.{◌≡◌, ◌<◌, ◌≤◌, drop, length, sym, ◌∙◌, arith}
use Rattle.json.specs.Word.{head}
use Rattle.mmdb_objects.proofs.FoundLaws.{whole_object, whole_path}
use Rattle.mmdb_objects.proofs.one_pass.followed_object.Goals as goal

pub returns : goal.returns
returns c =
    let text = c.args.text.now in
    let path = c.args.path.now in
    let some : 0 < length path = grind (arith, c.if-is_empty.ensures) in
    let first : head (drop c.space_end-from.result text) ≡ 123 = sym c.byte_at.ensures ∙ c.if-byte_at-ne123.false in
    let past : length text ≤ c.space_end.result = omega arith in
    let (ms, inside, holds) = c.in_ok-object.ensures.value in (
      ms,
      whole_object text c.space_end-from.result c.in_ok-object.object.end c.space_end.result ms c.space_end-from.ensures.same first inside c.space_end.ensures.same past,
      record { text = whole_path path _ c.in-Key.name ms _ some c.in-Key.is holds.text; empty = holds.empty; taken = holds.taken },
    )
