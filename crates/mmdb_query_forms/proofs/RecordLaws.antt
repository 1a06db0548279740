-- The text of a record is that of the value which is read there.
use Rattle.std.proofs.Common.{◌≡◌, ◌<◌, ℕ, List, [], length, get_or, set, Option, Some, None, Bool, true, false, option_map, refl, sym, ap, ◌∙◌, subst}
use Rattle.std.proofs.lemmas.List.{get_or_default, set-get_or}
use Rattle.std.specs.Option.{is_some}
use Rattle.json.specs.Json.{Json, Items, Members, member}
use Rattle.mmdb_format.specs.Unfolding.{Tree, scalar, array, table, pointer, Trees, no_trees, tree, Pairs, no_pairs, pair, without_pointers, trees_without, pairs_without}
use Rattle.mmdb_decode.specs.Errors.{answer}
use Rattle.mmdb_value.specs.AnyValue.{value_at}
use Rattle.mmdb_value.specs.Values.{value_tree}
use Rattle.mmdb_value.specs.declared.any_value.Value.{Value}
use Rattle.mmdb_value.proofs.StandingLaws.{answer_is_whole_value}
use Rattle.mmdb_json.specs.Shown.{Shows, AllShow, PairsShow, key_bytes}
use Rattle.mmdb_json.specs.Texts.{IsCompact}
use Rattle.mmdb_json.specs.RecordText.{AppendsRecord}
use Rattle.mmdb_query.specs.Reading.{unless_other, value_found, reads_in}
use Rattle.mmdb_query_forms.specs.Fitting.{TextsFit}
use Rattle.mmdb_query_forms.specs.Kept.{has_value}
use Rattle.mmdb_query_forms.specs.Puts.{PutsRead}
use Rattle.mmdb_query_forms.specs.declared.columns.RowForm.TheVariants.{Json as JsonForm}

-- ---- what shows a tree shows the tree without its pointers

key_without : (k : Tree) → key_bytes k ≡ key_bytes (without_pointers k)
key_without (scalar c) = refl
key_without (array ts) = refl
key_without (table ps) = refl
key_without (pointer a t) = key_without t

mutual
  shows_without : (u : Tree) (j : Json) → Shows u j → Shows (without_pointers u) j
  shows_without (scalar c) j h = h
  shows_without (array ts) j h = (h.0, h.1, all_show ts h.0 h.2)
  shows_without (table ps) j h = (h.0, h.1, pairs_show ps h.0 h.2)
  shows_without (pointer a t) j h = shows_without t j h

  all_show : (ts : Trees) (js : Items) → AllShow ts js → AllShow (trees_without ts) js
  all_show no_trees js h = h
  all_show (tree t ts) js h = (h.0, h.1, h.2, shows_without t h.0 h.3, all_show ts h.1 h.4)

  pairs_show : (ps : Pairs) (ms : Members) → PairsShow ps ms → PairsShow (pairs_without ps) ms
  pairs_show no_pairs ms h = h
  pairs_show (pair k v ps) ms h = (h.0, h.1, subst (λ b. ms ≡ member b h.0 h.1) (key_without k) h.2, shows_without v h.0 h.3, pairs_show ps h.1 h.4)

compact_without : (u : Tree) (text : List ℕ) → IsCompact u text → IsCompact (without_pointers u) text
compact_without u text is = record {
  shown = is.shown;
  shows = shows_without u is.shown is.shows;
  text_is = is.text_is;
  tokens_are = is.tokens_are;
  reads_back = is.reads_back;
  utf8 = is.utf8;
}

-- ---- what is read of a record that is laid out

record_read : (s : List ℕ) (offset : ℕ) (old new : List ℕ) (appends : AppendsRecord s offset old new) → reads_in value_found s (Some offset) [] ≡ Some (Some (without_pointers appends.tree))
record_read s offset old new appends =
    let v = without_pointers appends.tree in
    let read : answer true (value_at true) s offset ≡ Some v = (answer_is_whole_value true s offset v).1 (appends.tree, appends.end, appends.stands, refl, appends.few_values, appends.few_bytes) in
    ap (λ (o : Option Tree). unless_other false (option_map Some o)) read

pub record_put : (s : List ℕ) (offset : ℕ) (old new : List ℕ) → AppendsRecord s offset old new → PutsRead JsonForm (reads_in value_found s (Some offset) []) old new
record_put s offset old new appends =
    let u = appends.tree in
    (Some (without_pointers u), record_read s offset old new appends, (appends.text, compact_without u appends.text appends.compact, appends.grown))

-- there is a value
pub record_found : (s : List ℕ) (offset : ℕ) (old new : List ℕ) → AppendsRecord s offset old new → has_value (reads_in value_found s (Some offset) []) ≡ true
record_found s offset old new appends = ap has_value (record_read s offset old new appends)

some_as_read : (value : Option Value) → is_some value ≡ has_value (Some (option_map value_tree value))
some_as_read None = refl
some_as_read (Some v) = refl

-- whether there is a value, by what was read
pub found_as_read : (read : Option (Option Tree)) (value : Option Value) (found : Bool) → read ≡ Some (option_map value_tree value) → found ≡ is_some value → found ≡ has_value read
found_as_read read value found is some = some ∙ some_as_read value ∙ ap has_value (sym is)

-- ---- the texts of records at a place

pub of_section : (texts sections : List (List ℕ)) (place : ℕ) (text : List ℕ) → TextsFit texts sections → place < length texts → text ≡ get_or texts place text → text ≡ get_or sections place []
of_section texts sections place text fit within is = is ∙ get_or_default texts place text [] within ∙ fit place within

-- those that are of the same data section as before
pub written_back : (texts : List (List ℕ)) (place : ℕ) (old new : List ℕ) → old ≡ get_or texts place old → new ≡ old → set texts place new ≡ texts
written_back texts place old new is same = ap (set texts place) (same ∙ is) ∙ set-get_or texts place old

pub still_fit : (old new sections : List (List ℕ)) → new ≡ old → TextsFit old sections → TextsFit new sections
still_fit old new sections same fit = subst (λ texts. TextsFit texts sections) (sym same) fit
