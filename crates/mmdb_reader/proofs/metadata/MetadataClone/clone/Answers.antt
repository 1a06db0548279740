use Rattle.std.proofs.Common.{◌≡◌, ℕ, List, string_bytes, ap, ◌∙◌}
use Rattle.mmdb_reader.specs.Metadata.{MetadataDatum, metadata_datum}
use Rattle.mmdb_reader.proofs.Clones.{map-clones, map-pair_clones}
use Rattle.mmdb_reader.proofs.metadata.MetadataClone.clone.Goals as goal

same_parts : (m : MetadataDatum) (text : List ℕ) (description : List (List ℕ × List ℕ)) (languages : List (List ℕ)) → text ≡ m.database_type → description ≡ m.description → languages ≡ m.languages
    → record m { database_type = text; description = description; languages = languages } ≡ m
same_parts m text description languages p q r =
    ap (λ t. record m { database_type = t; description = description; languages = languages }) p
    ∙ ap (λ d. record m { description = d; languages = languages }) q
    ∙ ap (λ l. record m { languages = l }) r

pub returns : goal.returns
returns c = record {
  cases = same_parts (metadata_datum c.args.self.now) _ _ _
      c.in_ok-clone.ensures.cases
      (map-pair_clones string_bytes _ _ c.in_ok-clone-2.ensures.cases)
      (map-clones string_bytes _ _ c.in_ok-clone-3.ensures.cases.0);
}
