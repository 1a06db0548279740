-- Metadata are equal where all fields say the same.
use Rattle.std.proofs.Common.{◌≡◌, ℕ, ◌&&◌, Bool, List, [], ◌∷◌, map, String, Global, refl, ap}
use Rattle.std.proofs.lemmas.Bool.{and_parts, and_from}
use Rattle.std.proofs.lemmas.Bool.Decides.{Decides-eqb}
use Rattle.std.proofs.lemmas.Slice.Eq.{bytes_eq-Decides}
use Rattle.std.specs.Bool.{Decides}
use Rattle.std.specs.Prelude.{nat_eq, string_bytes}
use Rattle.std.specs.String.{string_eq}
use lib.Pointwise.{pointwise}
use Rattle.mmdb_reader.specs.declared.metadata.Metadata.{Metadata}
use Rattle.mmdb_reader.specs.Metadata.{MetadataDatum, metadata_datum}

both : (a b : Bool) (P Q : Type 0) → Decides a P → Decides b Q → Decides (a && b) (P × Q)
both a b P Q p q = (λ h. let parts = and_parts a b h in (p.0 parts.0, q.0 parts.1), λ h. and_from a b (p.1 h.0) (q.1 h.1))

-- lists whose elements are compared by what a function says of them
lists : {X A : Type 0} (test : X → X → Bool) (f : X → A) → ((x y : X) → Decides (test x y) (f x ≡ f y)) → (xs ys : List X) → Decides (pointwise test xs ys) (map f xs ≡ map f ys)
lists test f tests [] [] = (λ h. refl, λ e. refl)
lists test f tests [] (y ∷ ys) = (λ h. absurd (cc), λ e. absurd (cc))
lists test f tests (x ∷ xs) [] = (λ h. absurd (cc), λ e. absurd (cc))
lists test f tests (x ∷ xs) (y ∷ ys) =
    let rest = lists test f tests xs ys in
    (λ h. let parts = and_parts _ _ h in let head : f x ≡ f y = (tests x y).0 parts.0 in let tail : map f xs ≡ map f ys = rest.0 parts.1 in cc, λ e. and_from _ _ ((tests x y).1 (cc)) (rest.1 (cc)))

texts : (x y : String Global) → Decides (string_eq x y) (string_bytes x ≡ string_bytes y)
texts x y = bytes_eq-Decides (string_bytes x) (string_bytes y)

-- the bytes of a pair of texts
abbrev texts_of : String Global × String Global → List ℕ × List ℕ
texts_of e = (string_bytes e.0, string_bytes e.1)

pairs : (x y : String Global × String Global) → Decides (string_eq x.0 y.0 && string_eq x.1 y.1) (texts_of x ≡ texts_of y)
pairs x y =
    let h = both (string_eq x.0 y.0) (string_eq x.1 y.1) _ _ (texts x.0 y.0) (texts x.1 y.1) in
    (λ e. let p = h.0 e in let first = p.0 in let second = p.1 in cc, λ e. h.1 (ap (λ (t : List ℕ × List ℕ). t.0) e, ap (λ (t : List ℕ × List ℕ). t.1) e))

pub metadata_decides : (a b : Metadata) → Decides
    (nat_eq a.binary_format_major_version b.binary_format_major_version && (nat_eq a.binary_format_minor_version b.binary_format_minor_version
    && (nat_eq a.build_epoch b.build_epoch && (string_eq a.database_type b.database_type
    && (pointwise (λ p q. string_eq p.0 q.0 && string_eq p.1 q.1) a.description.entries b.description.entries && (nat_eq a.ip_version b.ip_version
    && (pointwise string_eq a.languages.items b.languages.items && (nat_eq a.node_count b.node_count && nat_eq a.record_size b.record_size))))))))
    (metadata_datum a ≡ metadata_datum b)
metadata_decides a b =
    let descriptions = lists (λ p q. string_eq p.0 q.0 && string_eq p.1 q.1) texts_of pairs a.description.entries b.description.entries in
    let languages = lists string_eq string_bytes texts a.languages.items b.languages.items in
    let types = texts a.database_type b.database_type in
    let all =
    both _ _ _ _ (Decides-eqb a.binary_format_major_version b.binary_format_major_version)
    (both _ _ _ _ (Decides-eqb a.binary_format_minor_version b.binary_format_minor_version)
    (both _ _ _ _ (Decides-eqb a.build_epoch b.build_epoch)
    (both _ _ _ _ types
    (both _ _ _ _ descriptions
    (both _ _ _ _ (Decides-eqb a.ip_version b.ip_version)
    (both _ _ _ _ languages
    (both _ _ _ _ (Decides-eqb a.node_count b.node_count) (Decides-eqb a.record_size b.record_size)))))))) in (
      λ h. let p = all.0 h in cc (p.0, p.1.0, p.1.1.0, p.1.1.1.0, p.1.1.1.1.0, p.1.1.1.1.1.0, p.1.1.1.1.1.1.0, p.1.1.1.1.1.1.1.0, p.1.1.1.1.1.1.1.1),
      λ e. all.1 (
        ap (λ (m : MetadataDatum). m.binary_format_major_version) e,
        (
          ap (λ (m : MetadataDatum). m.binary_format_minor_version) e,
          (
            ap (λ (m : MetadataDatum). m.build_epoch) e,
            (
              ap (λ (m : MetadataDatum). m.database_type) e,
              (
                ap (λ (m : MetadataDatum). m.description) e,
                (
                  ap (λ (m : MetadataDatum). m.ip_version) e,
                  (
                    ap (λ (m : MetadataDatum). m.languages) e,
                    (ap (λ (m : MetadataDatum). m.node_count) e, ap (λ (m : MetadataDatum). m.record_size) e),
                  ),
                ),
              ),
            ),
          ),
        ),
      ),
    )
