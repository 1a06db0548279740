-- Cells that show values.
use Rattle.std.proofs.Common.{◌≡◌, ◌≢◌, ℕ, List, ◌++◌, Bool, true, false, ◌==◌, Result, Ok, Err, is_ok, OnOk, if◌then◌else◌, refl, sym, ap, ◌∙◌, subst, eq-eqb, ne_eqb}
use Rattle.std.specs.Bool.{MatchBool}
use Rattle.std.specs.Borrow.{Bor}
use Rattle.mmdb_format.specs.Contents.{text}
use Rattle.mmdb_format.specs.Unfolding.{Tree, scalar}
use Rattle.mmdb_json.specs.Texts.{IsCompact}
use Rattle.mmdb_filter.specs.Cells.{csv_cell}
use Rattle.mmdb_filter.specs.declared.rows.Rows.TheVariants.{Lines, Csv}
use Rattle.mmdb_value.specs.Values.{value_tree, tree_step}
use Rattle.mmdb_value.specs.declared.any_value.Value.{Value, ind-Value}
use Rattle.mmdb_value.specs.declared.any_value.Value.TheFolds.{map-Value, fold-roll-Value}
use Rattle.mmdb_value.specs.declared.any_value.Value.TheOpen.{Value-F}
use Rattle.mmdb_value.specs.declared.any_value.Value.TheVariants.{String}
use Rattle.mmdb_value.specs.declared.any_value.Value.TheViews.{roll-Value}
use Rattle.mmdb_cmd_enrich.specs.Cells.{is_plain, is_plain_text, is_any_text, text_bytes, escaped, ShowsText}
use Rattle.mmdb_cmd_enrich.specs.Working.{PutsShown, PutsCompact, PutsJson}
use Rattle.mmdb_cmd_enrich.proofs.EscapeLaws.{plain_escaped}

-- either of two facts, by a test
pub yes_of : (b : Bool) (A B : Type 0) → b ≡ true → A → MatchBool b A B
yes_of b A B is a = subst (λ t. MatchBool t A B) (sym is) a

pub no_of : (b : Bool) (A B : Type 0) → b ≡ false → B → MatchBool b A B
no_of b A B is a = subst (λ t. MatchBool t A B) (sym is) a

-- bytes that grew, unless there was no memory
pub extended : {T E : Type 0} (r : Result T E) (old more new : List ℕ) → new ≡ (if is_ok r then old ++ more else old) → OnOk r (new ≡ old ++ more)
extended (Ok x) old more new e = e
extended (Err x) old more new e = tt

-- the cell of a text in CSV
pub csv_text_put : (d : ℕ) (x old new : List ℕ) → new ≡ old ++ csv_cell d (escaped 0 x) → PutsShown (Csv d) (scalar (text x)) old new
csv_text_put d x old new put = (csv_cell d (escaped 0 x), (x, refl, refl), put)

-- and of JSON
pub csv_json_put : (d : ℕ) (v : Tree) (x old new : List ℕ) → is_any_text v ≡ false → IsCompact v x → new ≡ old ++ csv_cell d (escaped 0 x) → PutsShown (Csv d) v old new
csv_json_put d v x old new other shows put = (csv_cell d (escaped 0 x), (x, no_of (is_any_text v) (x ≡ text_bytes v) (IsCompact v x) other shows, refl), put)

-- a text that is plain in a line
pub plain_put : (d : ℕ) (x old new : List ℕ) → is_plain d x ≡ true → new ≡ old ++ x → PutsShown (Lines d) (scalar (text x)) old new
plain_put d x old new plain put = (x, by (d == 9) refl, put)
  where
    by : (b : Bool) → (d == 9) ≡ b → MatchBool (d == 9) (MatchBool (is_plain d x) (x ≡ x) (IsCompact (scalar (text x)) x)) ((value : List ℕ) × ShowsText (scalar (text x)) value × (x ≡ escaped d value))
    by true is = yes_of (d == 9) _ _ is (yes_of (is_plain d x) (x ≡ x) (IsCompact (scalar (text x)) x) plain refl)
    by false is = no_of (d == 9) _ _ is (x, refl, sym (plain_escaped d x plain))

-- one that is not
pub rough_put : (d : ℕ) (x old new : List ℕ) → d ≡ 9 → is_plain d x ≡ false → PutsCompact (scalar (text x)) old new → PutsShown (Lines d) (scalar (text x)) old new
rough_put d x old new tab rough (json, shows, put) =
    (json, yes_of (d == 9) _ _ (eq-eqb d 9 tab) (no_of (is_plain d x) (json ≡ x) (IsCompact (scalar (text x)) json) rough shows), put)

pub escaped_put : (d : ℕ) (x old new : List ℕ) → d ≢ 9 → new ≡ old ++ escaped d x → PutsShown (Lines d) (scalar (text x)) old new
escaped_put d x old new other put = (escaped d x, no_of (d == 9) _ _ (ne_eqb d 9 other) (x, refl, refl), put)

-- JSON in a line
pub tab_json : (d : ℕ) (v : Tree) (old new : List ℕ) → d ≡ 9 → PutsCompact v old new → PutsJson d v old new
tab_json d v old new tab (json, shows, put) = (json, shows, yes_of (d == 9) (new ≡ old ++ json) (new ≡ old ++ escaped d json) (eq-eqb d 9 tab) put)

pub escaped_json : (d : ℕ) (v : Tree) (json old new : List ℕ) → d ≢ 9 → IsCompact v json → new ≡ old ++ escaped d json → PutsJson d v old new
escaped_json d v json old new other shows put = (json, shows, no_of (d == 9) (new ≡ old ++ json) (new ≡ old ++ escaped d json) (ne_eqb d 9 other) put)

-- no text is a plain one
no_plain : (d : ℕ) (v : Tree) → is_any_text v ≡ false → is_plain_text d v ≡ false
no_plain d (scalar (text x)) other = absurd (cc)
no_plain d _ other = refl

-- a value that is no text has no text's tree
no_layer : (x : Value-F Value) → ((b : Bor (List ℕ)) → roll-Value x ≡ String b → ⊥) → is_any_text (tree_step (map-Value Value Tree value_tree x)) ≡ false
unfolding roll-Value denote.Hole.Carrier.roll
no_layer (Value-F.String b) other = absurd (other b refl)
no_layer _ other = refl

pub no_text : (v : Value) → ((b : Bor (List ℕ)) → v ≡ String b → ⊥) → is_any_text (value_tree v) ≡ false
no_text = ind-Value (λ v. ((b : Bor (List ℕ)) → v ≡ String b → ⊥) → is_any_text (value_tree v) ≡ false)
    (λ x y e other. ap is_any_text (fold-roll-Value Tree tree_step x) ∙ no_layer x other)

pub json_put : (d : ℕ) (v : Value) (old new : List ℕ) → is_any_text (value_tree v) ≡ false → PutsJson d (value_tree v) old new → PutsShown (Lines d) (value_tree v) old new
json_put d v old new other (json, shows, put) = by (d == 9) refl put
  where
    by : (b : Bool) → (d == 9) ≡ b → MatchBool b (new ≡ old ++ json) (new ≡ old ++ escaped d json) → PutsShown (Lines d) (value_tree v) old new
    by true is put = (json, yes_of (d == 9) _ _ is (no_of (is_plain_text d (value_tree v)) (json ≡ text_bytes (value_tree v)) (IsCompact (value_tree v) json) (no_plain d (value_tree v) other) shows), put)
    by false is put = (escaped d json, no_of (d == 9) _ _ is (json, no_of (is_any_text (value_tree v)) (json ≡ text_bytes (value_tree v)) (IsCompact (value_tree v) json) other shows, refl), put)
