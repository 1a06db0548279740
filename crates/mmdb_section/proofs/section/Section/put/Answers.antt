use Rattle.std.proofs.Common.{◌≡◌, ◌++◌, ℕ, List, Some, cond, length, ap, sym, ◌∙◌, subst}
use Rattle.std.specs.Str.{bytes_eq}
use Rattle.mmdb_section.specs.Bytes.{shape_bytes}
use Rattle.mmdb_section.specs.Sections.{SectionView, start_of}
use Rattle.mmdb_section.specs.Working.{AreStarts}
use Rattle.mmdb_section.proofs.KnownLemmas.{one_key_more, starts_more}
use Rattle.mmdb_section.proofs.section.Section.put.Goals as goal

pub invariant_of-self-in_default : goal.invariant_of-self-in_default
invariant_of-self-in_default c =
    let bytes = c.self.inside.bytes.items in
    let at : c.args.start ≡ length bytes = c.requires ∙ ap (λ (s : SectionView). length s.bytes) (sym c.self.view_is) in
    let grown : bytes ++ c.args.bytes.items ≡ c.extend_from_slice.new.self.items = ap (λ (xs : List ℕ). bytes ++ xs) (sym c.deref.ensures.value) ∙ sym c.in_ok-extend_from_slice.ensures.items in
    subst (λ (xs : List ℕ). AreStarts xs c.insert.new.self) grown
    (starts_more bytes c.args.bytes c.self.inside.known c.insert.new.self c.args.start c.self.invariant at c.in_default.ensures.updates)

pub returns-clause-known : goal.returns-clause-known
returns-clause-known c shape =
    one_key_more c.args.bytes c.self.inside.known c.insert.new.self c.args.start c.in_default.ensures.updates (shape_bytes shape)
    ∙ ap (λ (s : SectionView). cond (bytes_eq c.args.bytes.items (shape_bytes shape)) (Some c.args.start) (start_of s shape)) c.self.view_is
