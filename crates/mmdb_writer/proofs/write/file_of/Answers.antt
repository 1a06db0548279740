use Rattle.std.proofs.Common.{◌≡◌, ℕ, List, ◌++◌, length, refl, ap, ◌∙◌, append_assoc}
use Rattle.mmdb_writer.specs.Making.{BeginsWith}
use Rattle.mmdb_writer.proofs.write.file_of.Goals as goal

begins : (tree separator section marker metadata a b c d e : List ℕ) → a ≡ tree → b ≡ a ++ separator → c ≡ b ++ section → d ≡ c ++ marker → e ≡ d ++ metadata → length separator ≡ 16 → BeginsWith tree section e
begins tree separator section marker metadata a b c d e h i j k l len = record {
  separator = separator;
  len = len;
  behind = marker ++ metadata;
  whole =
      l ∙ ap (λ (xs : List ℕ). xs ++ metadata) (k ∙ ap (λ (xs : List ℕ). xs ++ marker) (j ∙ ap (λ (xs : List ℕ). xs ++ section) (i ∙ ap (λ (xs : List ℕ). xs ++ separator) h)))
      ∙ append_assoc ((tree ++ separator) ++ section) marker metadata
      ∙ append_assoc (tree ++ separator) section (marker ++ metadata)
      ∙ append_assoc tree separator (section ++ (marker ++ metadata));
}

pub returns-clause-ok : goal.returns-clause-ok
returns-clause-ok c =
    begins c.args.tree.now.bytes.items _ c.args.section.now _ _ _ _ _ _ _
    (c.in_ok-extend_from_slice.ensures.items ∙ ap (λ (xs : List ℕ). xs ++ c.deref.result.now) c.in_ok-file.ensures.items ∙ c.deref.ensures.value)
    c.in_ok-extend_from_slice-2.ensures.items c.in_ok-extend_from_slice-3.ensures.items c.in_ok-extend_from_slice-4.ensures.items c.in_ok-extend_from_slice-5.ensures.items refl
