-- What conditions say of records.
use Rattle.std.proofs.Common.{◌≡◌, ℕ, List, Option, Some, Bool, option_map, sym, ap, ◌∙◌}
use Rattle.mmdb_format.specs.Unfolding.{Tree}
use Rattle.mmdb_value.specs.Values.{value_tree}
use Rattle.mmdb_value.specs.declared.any_value.Value.{Value}
use Rattle.mmdb_reader.specs.declared.path.PathElement.{PathElement}
use Rattle.mmdb_layout.specs.Conditions.{SaysFits, SaysFoundBy}
use Rattle.mmdb_layout.specs.declared.condition.Requirement.{Requirement}

-- a value that is read along a path is what is asked for, or not
pub found_by : (wanted : Requirement) (given path : List PathElement) (texts : List (List ℕ)) (reads : List PathElement → Option (Option Tree)) (read : Option Value) (value : Value) (b : Bool)
    → given ≡ path → reads given ≡ Some (option_map value_tree read) → read ≡ Some value → SaysFits wanted (value_tree value) texts b → SaysFoundBy wanted path texts reads b
found_by wanted given path texts reads read value b same at is fits = (Some (value_tree value), ap reads (sym same) ∙ (at ∙ ap (λ x. Some (option_map value_tree x)) is), fits)
