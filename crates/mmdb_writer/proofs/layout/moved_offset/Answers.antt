use Rattle.std.proofs.Common.{◌≡◌, ℕ, List, Option, Some, None, IfSome, refl, sym, subst}
use Rattle.mmdb_section.specs.Moved.{MovesTo, IsMoved}
use Rattle.mmdb_section.specs.declared.moved.MovedSection.{MovedSection}
use Rattle.mmdb_section.specs.Sections.{Tile}
use Rattle.mmdb_writer.specs.Layout.{IsMovedOffset}
use Rattle.mmdb_writer.proofs.layout.moved_offset.Goals as goal

-- what the section says of an offset
by : (moved : MovedSection) (from : ℕ) (found : Option ℕ) → IfSome found (MovesTo moved from) → (found ≡ None → (tiles : List Tile) → IsMoved tiles moved → (to : ℕ) → ¬ MovesTo moved from to) → IsMovedOffset moved (Some from) found
by moved from (Some to) moves none = moves
by moved from None moves none = λ tiles is h. none refl tiles is h.0 h.1

pub returns : goal.returns
returns c = subst (λ (o : Option ℕ). IsMovedOffset c.args.moved.now o c.offset.result) (sym c.in_ok-offset.was) (by c.args.moved.now c.in_ok-offset.field-0 c.offset.result c.offset.ensures.moves c.offset.ensures.none)
