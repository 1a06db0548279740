-- What is read along a path is the part that the path names.
use Rattle.std.proofs.Common.{◌≡◌, ℕ, List, [], ◌∷◌, Option, Some, None, Bool, true, false, option_map, refl, sym, ap, ◌∙◌, subst, arith}
use Rattle.json.specs.Json.{Json, Items, Members}
use Rattle.json.specs.Token.{Token}
use Rattle.mmdb_format.specs.Header.{◌>>=◌}
use Rattle.mmdb_format.specs.Unfolding.{Tree, scalar, array, table, pointer, Trees, no_trees, tree, Pairs, no_pairs, pair, without_pointers, trees_without, pairs_without}
use Rattle.mmdb_format.proofs.UnfoldingLaws.{one_tree_unfolds}
use Rattle.mmdb_decode.specs.Reading.{Reading, plus}
use Rattle.mmdb_decode.specs.Errors.{answer}
use Rattle.mmdb_decode.specs.State.{begin}
use Rattle.mmdb_record.proofs.LimitLaws.{answer_within}
use Rattle.mmdb_value.specs.AnyValue.{value_at}
use Rattle.mmdb_value.specs.Values.{value_tree}
use Rattle.mmdb_value.specs.declared.any_value.Value.{Value}
use Rattle.mmdb_value.proofs.StandingLaws.{value_is_what_stands}
use Rattle.mmdb_reader.specs.Selecting.{selected, read_there, read_along, answer_along, SelectsTo, meets_other_type}
use Rattle.mmdb_reader.specs.declared.path.PathElement.{PathElement}
use Rattle.mmdb_reader.proofs.PartLemmas.{path_selects}
use Rattle.mmdb_json.specs.Shown.{Shows, AllShow, PairsShow, key_bytes, WritesShown}
use Rattle.mmdb_json.specs.Texts.{IsCompact}
use Rattle.mmdb_found.specs.Found.{StandsAlong, IsJsonAlong, WritesAlong, unless_other, value_found}

-- what shows a tree without its pointers shows the tree
key_without : (k : Tree) → key_bytes (without_pointers k) ≡ key_bytes k
key_without (scalar c) = refl
key_without (array ts) = refl
key_without (table ps) = refl
key_without (pointer a t) = key_without t

mutual
  pub shows_without : (u : Tree) (j : Json) → Shows (without_pointers u) j → Shows u j
  shows_without (scalar c) j h = h
  shows_without (array ts) j h = (h.0, h.1, all_without ts h.0 h.2)
  shows_without (table ps) j h = (h.0, h.1, pairs_show ps h.0 h.2)
  shows_without (pointer a t) j h = shows_without t j h

  all_without : (ts : Trees) (js : Items) → AllShow (trees_without ts) js → AllShow ts js
  all_without no_trees js h = h
  all_without (tree t ts) js h = (h.0, h.1, h.2, shows_without t h.0 h.3, all_without ts h.1 h.4)

  pairs_show : (ps : Pairs) (ms : Members) → PairsShow (pairs_without ps) ms → PairsShow ps ms
  pairs_show no_pairs ms h = h
  pairs_show (pair k v ps) ms h = (h.0, h.1, subst (λ b. ms ≡ Rattle.json.specs.Json.member b h.0 h.1) (key_without k) h.2, shows_without v h.0 h.3, pairs_show ps h.1 h.4)

-- a reading after a reading
bind_some : {A B : Type 0} (o : Option A) (f : A → Option B) (y : B) → (o >>= f) ≡ Some y → (x : A) × (o ≡ Some x) × (f x ≡ Some y)
bind_some None f y h = absurd (cc)
bind_some (Some x) f y h = (x, refl, h)

same_some : {A : Type 0} (x y : A) → Some x ≡ Some y → x ≡ y
same_some x y h = cc

-- a value at the end of a path, read without pointers
record ReadAlong (path : List PathElement) (s : List ℕ) (offset : ℕ) (v : Tree) : Type 0 where
  pub way : Reading Bool
  pub leads : selected path s offset 0 ≡ Some way
  pub there : way.value ≡ true
  pub last : Reading Tree
  pub read : value_at true s way.next 0 ≡ Some last
  pub is : last.value ≡ v

there_read : (path : List PathElement) (s : List ℕ) (offset : ℕ) (v : Tree) (b : Bool) (way : Reading Bool) (y : Reading (Option Tree)) → selected path s offset 0 ≡ Some way → way.value ≡ b → read_there (value_at true) b s way.next 0 ≡ Some y → y.value ≡ Some v → ReadAlong path s offset v
there_read path s offset v false way y l w r e = let none : None ≡ Some v = ap (λ (z : Reading (Option Tree)). z.value) (same_some _ y r) ∙ e in absurd (cc)
there_read path s offset v true way y l w r e =
    let x = bind_some (value_at true s way.next 0) _ y r in
    record { way = way; leads = l; there = w; last = x.0; read = x.1; is = same_some x.0.value v (ap (λ (z : Reading (Option Tree)). z.value) (same_some _ y x.2) ∙ e) }

along : (path : List PathElement) (s : List ℕ) (offset : ℕ) (v : Tree) → answer true (read_along path (value_at true)) s offset ≡ Some (Some v) → ReadAlong path s offset v
along path s offset v h =
    let (r, is, limits, value) = answer_within (read_along path (value_at true)) s offset (Some v) h in
    let x = bind_some (selected path s offset 0) _ r is in
    let y = bind_some (read_there (value_at true) x.0.value s x.0.next 0) _ r x.2 in
    there_read path s offset v x.0.value x.0 y.0 x.1 refl y.1 (ap (λ (z : Reading (Option Tree)). z.value) (same_some (plus x.0 y.0) r y.2) ∙ value)

at_start : (o : Option Tree) (v : Tree) → option_map Some o ≡ Some (Some v) → o ≡ Some v
at_start None v h = absurd (cc)
at_start (Some x) v h = cc

read_whole : (path : List PathElement) (s : List ℕ) (offset : ℕ) (v : Tree) → answer_along path true (value_at true) s offset ≡ Some (Some v) → ReadAlong path s offset v
read_whole [] s offset v h =
    let (r, is, limits, value) = answer_within (value_at true) s offset v (at_start (answer true (value_at true) s offset) v h) in
    record { way = record { value = true; next = offset; values = 0; bytes = 0 }; leads = refl; there = refl; last = r; read = is; is = value }
read_whole (e ∷ path) s offset v h = along (e ∷ path) s offset v h

-- the tree that is there
pub stands : (path : List PathElement) (s : List ℕ) (offset : ℕ) (v : Tree) → answer_along path true (value_at true) s offset ≡ Some (Some v) → (part : Tree) × StandsAlong path s offset part × (v ≡ without_pointers part)
stands path s offset v h =
    let r = read_whole path s offset v h in
    let (u, st, same, count, size) = (value_is_what_stands true s r.way.next 0 r.last.value r.last.next r.last.values r.last.bytes (omega arith)).0 r.read in (
      u,
      record {
        way = r.way;
        leads = r.leads;
        there = r.there;
        end = r.last.next;
        unfolds = st.unfolds;
        is_part = λ w q whole.
            let (part, end, is, unfolds) = path_selects path s offset q w r.way whole r.leads r.there in
            is ∙ ap Some (one_tree_unfolds s r.way.next part u end r.last.next unfolds st.unfolds).0;
      },
      sym r.is ∙ same,
    )

-- a text that shows the value shows the tree
pub compact_without : (u v : Tree) (t : List ℕ) → v ≡ without_pointers u → IsCompact v t → IsCompact u t
compact_without u v t same h = record {
  shown = h.shown;
  shows = shows_without u h.shown (subst (λ w. Shows w h.shown) same h.shows);
  text_is = h.text_is;
  tokens_are = h.tokens_are;
  reads_back = h.reads_back;
  utf8 = h.utf8;
}

-- a value is found where it was read
read_found : {A : Type 0} (met : Bool) (read : Option (Option A)) (v : A) → unless_other met read ≡ Some (Some v) → read ≡ Some (Some v)
read_found met (Some r) v h = h
read_found true None v h = absurd (cc)
read_found false None v h = absurd (cc)

-- what was found, and written
found_value : (path : List PathElement) (s : List ℕ) (offset : ℕ) (value : Option Value) (v : Value) → SelectsTo value_tree (value_found path s) (Some offset) value → value ≡ Some v → answer_along path true (value_at true) s offset ≡ Some (Some (value_tree v))
found_value path s offset value v h e = read_found (meets_other_type path (begin s offset)) (answer_along path true (value_at true) s offset) (value_tree v) (h ∙ ap (λ x. Some (option_map value_tree x)) e)

pub json_along : (path : List PathElement) (s : List ℕ) (o : Option ℕ) (value : Option Value) (v : Value) (t : List ℕ) → SelectsTo value_tree (value_found path s) o value → value ≡ Some v → IsCompact (value_tree v) t → IsJsonAlong path s o t
json_along path s None value v t h e j = let none : None ≡ Some v = sym h ∙ e in absurd (cc)
json_along path s (Some offset) value v t h e j =
    let (part, along, same) = stands path s offset (value_tree v) (found_value path s offset value v h e) in
    (part, along, compact_without part (value_tree v) t same j)

pub writes_along : (path : List PathElement) (s : List ℕ) (o : Option ℕ) (value : Option Value) (v : Value) (old new : List Token) → SelectsTo value_tree (value_found path s) o value → value ≡ Some v → WritesShown (value_tree v) old new → WritesAlong path s o true old new
writes_along path s None value v old new h e w = let none : None ≡ Some v = sym h ∙ e in absurd (cc)
writes_along path s (Some offset) value v old new h e w =
    let (part, along, same) = stands path s offset (value_tree v) (found_value path s offset value v h e) in
    (part, along, (w.0, shows_without part w.0 (subst (λ t. Shows t w.0) same w.1), w.2))
