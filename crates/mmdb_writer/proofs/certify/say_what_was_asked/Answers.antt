use Rattle.std.proofs.Common.{◌≡◌, ℕ, Bool, true, false, not, ◌&&◌, refl, sym, ap, ◌∙◌, arith}
use Rattle.std.specs.Prelude.{nat_eq}
use Rattle.std.specs.Cmp.Lexicographic.{pointwise}
use Rattle.std.specs.String.{string_eq}
use Rattle.std.proofs.lemmas.Bool.{and_from, false≢true}
use Rattle.std.proofs.lemmas.Bool.Decides.{nat_tests}
use Rattle.mmdb_nodes.specs.declared.tree.SearchTree.{SearchTree}
use Rattle.mmdb_nodes.specs.Trees.{bits_in}
use Rattle.mmdb_reader.specs.Metadata.{metadata_datum}
use Rattle.mmdb_reader.specs.declared.metadata.Metadata.{Metadata}
use Rattle.mmdb_reader.proofs.EqualityLemmas.{metadata_decides}
use Rattle.mmdb_writer.specs.declared.options.Options.{Options}
use Rattle.mmdb_writer.specs.Written.{version_number}
use Rattle.mmdb_writer.proofs.certify.say_what_was_asked.Goals as goal

same : (a b : ℕ) → a ≡ b → nat_eq a b ≡ true
same a b h = grind (arith, nat_tests)

equal : (a b : ℕ) → nat_eq a b ≡ true → a ≡ b
equal a b h = grind (arith, nat_tests)

yes : (b : Bool) → not b ≡ false → b ≡ true
yes true h = refl
yes false h = sym h

no : (r b : Bool) → r ≡ not b → r ≡ true → b ≡ true → ⊥
no r b is h k = false≢true (sym (is ∙ ap not k) ∙ h)

abbrev asked_of : Options → SearchTree → Metadata
asked_of o tree = record {
  binary_format_major_version = 2;
  binary_format_minor_version = 0;
  build_epoch = o.build_epoch;
  database_type = o.database_type;
  description = o.description;
  ip_version = version_number o.ip_version;
  languages = o.languages;
  node_count = tree.node_count;
  record_size = bits_in tree.record_size;
}

-- the tests of types, descriptions and languages, of nine that are all true
three_of : (a b c d e f g h i : Bool) → (a && (b && (c && (d && (e && (f && (g && (h && i)))))))) ≡ true → (d ≡ true) × (e ≡ true) × (g ≡ true)
three_of true true true true true true true h i all = (refl, refl, refl)
three_of false b c d e f g h i all = absurd (false≢true all)
three_of true false c d e f g h i all = absurd (false≢true all)
three_of true true false d e f g h i all = absurd (false≢true all)
three_of true true true false e f g h i all = absurd (false≢true all)
three_of true true true true false f g h i all = absurd (false≢true all)
three_of true true true true true false g h i all = absurd (false≢true all)
three_of true true true true true true false h i all = absurd (false≢true all)

texts_same : (m a : Metadata) → metadata_datum m ≡ metadata_datum a
    → (string_eq m.database_type a.database_type ≡ true) × (pointwise (λ p q. string_eq p.0 q.0 && string_eq p.1 q.1) m.description.entries a.description.entries ≡ true) × (pointwise string_eq m.languages.items a.languages.items ≡ true)
texts_same m a h =
    three_of (nat_eq m.binary_format_major_version a.binary_format_major_version) (nat_eq m.binary_format_minor_version a.binary_format_minor_version) (nat_eq m.build_epoch a.build_epoch) (string_eq m.database_type a.database_type)
    (pointwise (λ p q. string_eq p.0 q.0 && string_eq p.1 q.1) m.description.entries a.description.entries) (nat_eq m.ip_version a.ip_version) (pointwise string_eq m.languages.items a.languages.items) (nat_eq m.node_count a.node_count)
    (nat_eq m.record_size a.record_size) ((metadata_decides m a).1 h)

pub returns-clause-asked : goal.returns-clause-asked
returns-clause-asked c = λ h.
    let m = c.args.metadata.now in
    let o = c.args.options.now in
    (metadata_decides m (asked_of o c.args.tree.now)).0
    (and_from _ _ (same m.binary_format_major_version 2 c.if-metadata-ne2.false)
    (and_from _ _ (same m.binary_format_minor_version 0 c.if-metadata-ne0.false)
    (and_from _ _ (same m.build_epoch o.build_epoch c.if-metadata-options.false)
    (and_from _ _ (yes _ (sym c.ne.ensures ∙ c.if-ne.false))
    (and_from _ _ (yes _ (sym c.ne-2.ensures ∙ c.if-ne-2.false))
    (and_from _ _ (same m.ip_version (version_number o.ip_version) (c.if-metadata-version_number.false ∙ c.version_number.ensures))
    (and_from _ _ (yes _ (sym c.ne-3.ensures ∙ c.if-ne-3.false))
    (and_from _ _ (same m.node_count c.args.tree.now.node_count c.if-metadata-tree.false)
    (same m.record_size (bits_in c.args.tree.now.record_size) (equal m.record_size c.bits.result h ∙ c.bits.ensures))))))))))

pub returns-then-metadata-ne2-clause-other : goal.returns-then-metadata-ne2-clause-other
returns-then-metadata-ne2-clause-other c = λ is same_all. c.if-metadata-ne2.true (ap (λ d. d.binary_format_major_version) same_all)

pub returns-then-metadata-ne0-clause-other : goal.returns-then-metadata-ne0-clause-other
returns-then-metadata-ne0-clause-other c = λ is same_all. c.if-metadata-ne0.true (ap (λ d. d.binary_format_minor_version) same_all)

pub returns-then-metadata-options-clause-other : goal.returns-then-metadata-options-clause-other
returns-then-metadata-options-clause-other c = λ is same_all. c.if-metadata-options.true (ap (λ d. d.build_epoch) same_all)

pub returns-then-ne-clause-other : goal.returns-then-ne-clause-other
returns-then-ne-clause-other c = λ is same_all.
    no c.ne.result _ c.ne.ensures c.if-ne.true (texts_same c.args.metadata.now (asked_of c.args.options.now c.args.tree.now) same_all).0

pub returns-then-ne-2-clause-other : goal.returns-then-ne-2-clause-other
returns-then-ne-2-clause-other c = λ is same_all.
    no c.ne-2.result _ c.ne-2.ensures c.if-ne-2.true (texts_same c.args.metadata.now (asked_of c.args.options.now c.args.tree.now) same_all).1

pub returns-then-metadata-version_number-clause-other : goal.returns-then-metadata-version_number-clause-other
returns-then-metadata-version_number-clause-other c = λ is same_all. c.if-metadata-version_number.true (ap (λ d. d.ip_version) same_all ∙ sym c.version_number.ensures)

pub returns-then-ne-3-clause-other : goal.returns-then-ne-3-clause-other
returns-then-ne-3-clause-other c = λ is same_all.
    no c.ne-3.result _ c.ne-3.ensures c.if-ne-3.true (texts_same c.args.metadata.now (asked_of c.args.options.now c.args.tree.now) same_all).2

pub returns-then-metadata-tree-clause-other : goal.returns-then-metadata-tree-clause-other
returns-then-metadata-tree-clause-other c = λ is same_all. c.if-metadata-tree.true (ap (λ d. d.node_count) same_all)

pub returns-clause-other : goal.returns-clause-other
returns-clause-other c = λ is same_all.
    let m = c.args.metadata.now in
    false≢true (sym is ∙ same m.record_size c.bits.result (ap (λ d. d.record_size) same_all ∙ sym c.bits.ensures))
