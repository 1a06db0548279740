use Rattle.std.proofs.Common.{◌≡◌, ℕ, List, IfSome, ap, sym, ◌∙◌, subst}
use Rattle.std.specs.Map.{lookup}
use Rattle.std.specs.Str.{bytes_eq}
use Rattle.mmdb_section.specs.Bytes.{shape_bytes}
use Rattle.mmdb_section.specs.Sections.{SectionView}
use Rattle.mmdb_section.specs.Working.{StandAt, added_in}
use Rattle.mmdb_section.proofs.KnownLemmas.{found_in, stands_if}
use Rattle.mmdb_section.proofs.section.Section.find.Goals as goal

pub returns-clause-stands : goal.returns-clause-stands
returns-clause-stands c =
    let value = c.args.bytes.now in
    let found : c.copied.result ≡ lookup (bytes_eq value) (added_in c.self.inside.known) = c.copied.ensures ∙ c.get.ensures.value ∙ found_in value c.self.inside.known in
    subst (λ (s : SectionView). IfSome c.copied.result (λ start. StandAt s.bytes start value)) c.self.view_is
    (stands_if c.copied.result c.self.inside.bytes.items value (λ start is. c.self.invariant value start (sym found ∙ is)))

pub returns-clause-known : goal.returns-clause-known
returns-clause-known c shape is =
    let value = c.args.bytes.now in
    c.copied.ensures ∙ c.get.ensures.value ∙ found_in value c.self.inside.known
    ∙ ap (λ (xs : List ℕ). lookup (bytes_eq xs) (added_in c.self.inside.known)) is
    ∙ ap (λ (s : SectionView). lookup (bytes_eq (shape_bytes shape)) s.added) c.self.view_is
