use Rattle.std.proofs.Common.{rules, ◌≡◌, ◌++◌, length, List, [], ℕ, ap, sym, subst, ◌∙◌}
use Rattle.mmdb_section.specs.Bytes.{shape_bytes}
use Rattle.mmdb_section.specs.Sections.{SectionView, shape_of}
use Rattle.mmdb_section.specs.Working.{IsWrittenDirect, WritesValue}
use Rattle.mmdb_section.proofs.KnownLemmas.{known_new, stays_known, is_new}
use Rattle.mmdb_section.proofs.StandLemmas.{alone}
use Rattle.mmdb_section.proofs.SectionLemmas.{value_added, value_found}
use Rattle.mmdb_section.proofs.section.Section.add.Goals as goal

-- the bytes that were put after none
alone_are : (old new xs : List ℕ) → old ≡ [] → new ≡ old ++ xs → new ≡ xs
alone_are old new xs none is = is ∙ ap (λ (ys : List ℕ). ys ++ xs) none

pub returns-in-Some-clause-value : goal.returns-in-Some-clause-value
returns-in-Some-clause-value c tiles v section is =
    let shape = shape_of c.args.value in
    let w = alone (WritesValue c.args.value) c.new-added.result.items c.push_value.new.out.items c.new-added.ensures.items c.in_ok-push_value.ensures.says in
    let written = subst (IsWrittenDirect tiles c.args.self.now.bytes v) (sym c.deref.ensures.value) (w tiles c.args.self.now.bytes v section.are is) in
    let bytes = c.deref.ensures.value ∙ alone_are c.new-added.result.items c.push_value.new.out.items (shape_bytes shape) c.new-added.ensures.items c.in_ok-push_value.ensures.bytes in
    value_found tiles v c.args.self.now shape c.in-Some.earlier c.deref.result.now section written c.in-Some.ensures.stands (sym (c.in-Some.ensures.known shape bytes))

pub returns-in-Some-clause-known : goal.returns-in-Some-clause-known
returns-in-Some-clause-known c =
    let shape = shape_of c.args.value in
    let bytes = c.deref.ensures.value ∙ alone_are c.new-added.result.items c.push_value.new.out.items (shape_bytes shape) c.new-added.ensures.items c.in_ok-push_value.ensures.bytes in
    sym (c.in-Some.ensures.known shape bytes)

pub returns-clause-value : goal.returns-clause-value
returns-clause-value c tiles v section is =
    let w = alone (WritesValue c.args.value) c.new-added.result.items c.push_value.new.out.items c.new-added.ensures.items c.in_ok-push_value.ensures.says in
    let added = c.push_value.new.out.items in
    let written = w tiles c.args.self.now.bytes v section.are is in
    let len : c.len.result ≡ length c.self.inside.bytes.items = search rules in
    let at : c.in-Ok.start ≡ length c.args.self.now.bytes = c.in-Ok.ensures.1 ∙ len ∙ ap (λ (s : SectionView). length s.bytes) c.self.view_is in
    value_added tiles v c.args.self.now c.put.new.self c.in-Ok.start added section written c.in_ok-put.ensures.bytes c.in_ok-put.ensures.known at

pub returns-clause-known : goal.returns-clause-known
returns-clause-known c =
    let shape = shape_of c.args.value in
    let bytes = alone_are c.new-added.result.items c.push_value.new.out.items (shape_bytes shape) c.new-added.ensures.items c.in_ok-push_value.ensures.bytes in
    known_new c.args.self.now c.put.new.self c.in-Ok.start c.push_value.new.out.items c.in_ok-put.ensures.known shape bytes

pub returns-clause-stays_known : goal.returns-clause-stays_known
returns-clause-stays_known c =
    stays_known c.args.self.now c.put.new.self c.in-Ok.start c.push_value.new.out.items c.in_ok-put.ensures.known
    (λ shape is. c.in_default-find.ensures.known shape (c.deref.ensures.value ∙ is))

pub returns-clause-once : goal.returns-clause-once
returns-clause-once c known =
    let shape = shape_of c.args.value in
    let bytes = c.deref.ensures.value ∙ alone_are c.new-added.result.items c.push_value.new.out.items (shape_bytes shape) c.new-added.ensures.items c.in_ok-push_value.ensures.bytes in
    absurd (is_new c.args.self.now shape (c.in_default-find.ensures.known shape bytes) known)
