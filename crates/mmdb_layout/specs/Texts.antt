-- The texts that a condition compares values with.
use Rattle.std.specs.Prelude.{ℕ, List, map}
use Rattle.mmdb_layout.specs.declared.texts.Texts.{Texts}

-- all of them
abbrev pub texts_in : Texts → List (List ℕ)
texts_in texts = map (λ t. t.now) texts.all.items
