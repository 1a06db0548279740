use Rattle.std.proofs.Common.{rules, ◌≡◌, ◌∷◌, [], ◌++◌, ap, ◌∙◌, subst}
use Rattle.mmdb_format.specs.Contents.{text}
use Rattle.mmdb_format.specs.Unfolding.{scalar}
use Rattle.mmdb_json.specs.Texts.{IsCompact}
use Rattle.mmdb_value.specs.Values.{value_tree}
use Rattle.mmdb_value.specs.declared.any_value.Value.{String, the_lemmas}
use Rattle.mmdb_query_forms.proofs.LabelLaws.{compact_text}
use Rattle.mmdb_query_forms.proofs.column.label_of.Goals as goal

pub returns : goal.returns
returns c =
    let key = c.in_ok-key.key.items in
    let put : c.push-2.new.self.items ≡ 44 ∷ (key ++ 58 ∷ []) = search rules in
    let tree : value_tree (String c.args.name) ≡ scalar (text c.args.name.now) = search (rules, the_lemmas) in
    put ∙ ap (λ k. 44 ∷ (k ++ 58 ∷ [])) (compact_text c.args.name.now key (subst (λ t. IsCompact t key) tree c.in_ok-key.ensures))
