-- What grows into the text of a map or an array.
use Rattle.std.proofs.Common.{◌≡◌, ◌≤◌, ◌+◌, ◌*◌, ℕ, suc, Bool, true, false, List, [], ◌∷◌, ◌++◌, length, inl, inr, refl, sym, ap, ◌∙◌, subst, append_assoc, arith}
use Rattle.std.specs.Prelude.{Some}
use Rattle.std.specs.Str.{IsUtf8, is_utf8}
use Rattle.std.proofs.lemmas.Str.{IsUtf8-append, IsUtf8-from_is_utf8}
use Rattle.json.specs.Json.{array, object, Items, no_items, item, Members, no_members, member}
use Rattle.json.specs.Tree.{json_tokens, items_tokens, members_tokens, ItemsHaveNumbers, MembersHaveNumbers}
use Rattle.json.specs.Print.{print, print_from, quoted}
use Rattle.json.proofs.Printed.Utf8.{IsUtf8-are_ascii, IsUtf8-key}
use Rattle.mmdb_format.specs.declared.header.Header.{Header}
use Rattle.mmdb_format.specs.declared.header.Pointer.{Pointer}
use Rattle.mmdb_format.specs.Header.{header_at}
use Rattle.mmdb_format.specs.Pointer.{pointer_at}
use Rattle.mmdb_format.specs.Contents.{Scalar, text, content_at, content_end, bytes_of_content, scalar_payload}
use Rattle.mmdb_format.specs.Unfolding.{scalar, scalar_here, array as array_tree, table, pointer, Trees, no_trees, tree, Pairs, no_pairs, pair, Unfolds, table_here, array_here, pointer_here, AllUnfold, none_left, one_more, PairsUnfold, no_pairs_left, one_more_pair, pairs_keyed, pairs_texts, trees_keyed, trees_texts}
use Rattle.mmdb_json.specs.Shown.{AllShow, PairsShow, key_bytes}
use Rattle.json.specs.Lex.{tokens}
use Rattle.json.proofs.Printed.Tokens.{tokens-print}
use Rattle.json.proofs.Printed.Trees.{ArePrintable-json_tokens}
use Rattle.mmdb_json.proofs.ReadingBack.{reads_back}
use Rattle.mmdb_json.specs.declared.budget.Budget.{Budget}
use Rattle.mmdb_json.specs.RecordText.{AppendsRecord}
use Rattle.mmdb_json.specs.Drafts.{Drafted, shown, Grows}
use Rattle.mmdb_json.specs.Appended.{ChargesBytes, AppendsText, AppendsName, AppendsOwnName, AppendsItem, AppendsMember, AppendsScalar, comma_if}
use Rattle.mmdb_json.proofs.Drafting.{grows_more}
use Rattle.mmdb_json.proofs.Measuring.{both, is_key_of, texts_of_key, bytes_of_key, PairsCost, TreesCost, pair_costs, tree_costs, table_costs, array_costs, pointer_costs, scalar_costs}
use Rattle.mmdb_json.proofs.Printing.{item_behind, member_behind, members_end, items_end, object_text, array_text}

utf8_comma : (b : Bool) → IsUtf8 (comma_if b)
utf8_comma true = IsUtf8-are_ascii (44 ∷ []) refl
utf8_comma false = Rattle.std.proofs.lemmas.Str.IsUtf8-nil

-- whatever shows the pairs that are left, within what is left, completes the text of the map
abbrev pub TableGoesOn : List ℕ → ℕ → ℕ → ℕ → Budget → Drafted → Bool → ℕ → ℕ → Budget → Drafted → Type 0
TableGoesOn s offset levels below before old after_value at left mid now =
    (ps : Pairs) (ms : Members) (end : ℕ) (final : Budget) (done : Drafted) → PairsUnfold s at left ps end → PairsShow ps ms → MembersHaveNumbers ms
    → IsUtf8 (print_from after_value (members_tokens ms)) → pairs_keyed ps ≡ true → pairs_texts ps ≡ true → PairsCost below mid final left ps
    → Grows now done (print_from after_value (members_tokens ms)) → AppendsText s offset end levels before final old done

pub table_begins : (s : List ℕ) (offset : ℕ) (header : Header) (left levels below : ℕ) (before mid : Budget) (old now : Drafted) → header_at s offset ≡ Some header → header.kind ≡ 7 → left ≡ header.size → levels ≡ below + 1 → mid.values + 2 * left ≡ before.values → mid.bytes ≡ before.bytes → mid.levels ≤ before.levels → Grows old now (123 ∷ []) → TableGoesOn s offset levels below before old false header.body left mid now
table_begins s offset header left levels below before mid old now here kind all down v b l begun = λ ps ms end final done unfolds shows numbers utf8 keyed texts cost grows. record {
  bytes = 123 ∷ print_from false (members_tokens ms);
  at = record {
    tree = table ps;
    json = object ms;
    unfolds = table_here here kind (subst (λ n. PairsUnfold s header.body n ps end) all unfolds);
    keyed = keyed;
    texts = texts;
    shows = (ms, refl, shows);
    text = record {
      is = sym (object_text ms);
      numbers = numbers;
      utf8 = IsUtf8-append (123 ∷ []) (print_from false (members_tokens ms)) (IsUtf8-are_ascii (123 ∷ []) refl) utf8;
    };
  };
  costs = table_costs levels below left before mid final ps down v b l cost;
  grown = grows_more old now done (123 ∷ []) (print_from false (members_tokens ms)) begun grows;
}

pub table_more : (s : List ℕ) (offset levels below : ℕ) (before : Budget) (old : Drafted) (b : Bool) (at left end m : ℕ) (mid after : Budget) (now new : Drafted) → TableGoesOn s offset levels below before old b at left mid now → left ≡ suc m → AppendsMember s at end below b mid after now new → TableGoesOn s offset levels below before old true end m after new
table_more s offset levels below before old b at left end m mid after now new on some member_is = λ ps ms last final done rest rest_show numbers utf8 keyed texts cost grows.
    let name = member_is.name in
    let bytes = member_is.bytes in
    let x = member_is.name_at.key in
    let k = member_is.name_at.tree in
    let t = member_is.at.tree in
    let j = member_is.at.json in
    let text = member_is.at.text in
    let key = member_is.name_at.is_key in
    let behind = print_from true (members_tokens ms) in
    let named : name ≡ quoted (key_bytes k) ++ 58 ∷ [] = member_is.name_at.is ∙ ap (λ l. quoted l ++ 58 ∷ []) (sym (bytes_of_key x k key)) in
    let whole : print_from b (members_tokens (member (key_bytes k) j ms)) ≡ comma_if b ++ (name ++ (bytes ++ behind)) =
    member_behind b (key_bytes k) j ms ∙ ap (λ l. comma_if b ++ ((quoted (key_bytes k) ++ 58 ∷ []) ++ (l ++ behind))) (sym text.is)
    ∙ ap (λ l. comma_if b ++ (l ++ (bytes ++ behind))) (sym named) in
    let name_utf8 : IsUtf8 name = subst IsUtf8 (sym member_is.name_at.is) (IsUtf8-key x (IsUtf8-from_is_utf8 x member_is.name_at.utf8)) in
    let all_utf8 : IsUtf8 (comma_if b ++ (name ++ (bytes ++ behind))) =
    IsUtf8-append (comma_if b) _ (utf8_comma b) (IsUtf8-append name _ name_utf8 (IsUtf8-append bytes _ text.utf8 utf8)) in
    let unfold_all : PairsUnfold s at left (pair k t ps) last = subst (λ n. PairsUnfold s at n (pair k t ps) last) (sym some) (one_more_pair member_is.name_at.unfolds member_is.at.unfolds rest) in
    let all_keyed = both _ _ (is_key_of x k key) (both _ _ member_is.at.keyed keyed) in
    let all_texts = both _ _ (texts_of_key x k key member_is.name_at.utf8) (both _ _ member_is.at.texts texts) in
    let cost_all = pair_costs below left m mid member_is.between after final x k t ps some key member_is.charges member_is.costs cost in
    let apart : (comma_if b ++ (name ++ bytes)) ++ behind ≡ comma_if b ++ (name ++ (bytes ++ behind)) =
    append_assoc (comma_if b) (name ++ bytes) behind ∙ ap (λ l. comma_if b ++ l) (append_assoc name bytes behind) in
    let grows_all = subst (Grows now done) (apart ∙ sym whole) (grows_more now new done (comma_if b ++ (name ++ bytes)) behind member_is.grown grows) in
    on (pair k t ps) (member (key_bytes k) j ms) last final done unfold_all (j, ms, refl, member_is.at.shows, rest_show) (text.numbers, numbers) (subst IsUtf8 (sym whole) all_utf8) all_keyed all_texts cost_all grows_all

pub table_ends : (s : List ℕ) (offset levels below : ℕ) (before : Budget) (old : Drafted) (b : Bool) (at left : ℕ) (mid : Budget) (now new : Drafted) → TableGoesOn s offset levels below before old b at left mid now → left ≡ 0 → mid.levels ≤ below → Grows now new (125 ∷ []) → AppendsText s offset at levels before mid old new
table_ends s offset levels below before old b at left mid now new on none enough grown =
    let end_utf8 : IsUtf8 (print_from b (members_tokens no_members)) = subst IsUtf8 (sym (members_end b)) (IsUtf8-are_ascii (125 ∷ []) refl) in
    on no_pairs no_members at mid new (subst (λ n. PairsUnfold s at n no_pairs at) (sym none) no_pairs_left) refl tt end_utf8 refl refl
    (record { values = omega (arith, none); bytes = omega arith; deep = omega (arith, enough); fewer = omega arith })
    (subst (Grows now new) (sym (members_end b)) grown)

-- whatever shows the values that are left, within what is left, completes the text of the array
abbrev pub ArrayGoesOn : List ℕ → ℕ → ℕ → ℕ → Budget → Drafted → Bool → ℕ → ℕ → Budget → Drafted → Type 0
ArrayGoesOn s offset levels below before old after_value at left mid now =
    (ts : Trees) (js : Items) (end : ℕ) (final : Budget) (done : Drafted) → AllUnfold s at left ts end → AllShow ts js → ItemsHaveNumbers js
    → IsUtf8 (print_from after_value (items_tokens js)) → trees_keyed ts ≡ true → trees_texts ts ≡ true → TreesCost below mid final left ts
    → Grows now done (print_from after_value (items_tokens js)) → AppendsText s offset end levels before final old done

pub array_begins : (s : List ℕ) (offset : ℕ) (header : Header) (left levels below : ℕ) (before mid : Budget) (old now : Drafted) → header_at s offset ≡ Some header → header.kind ≡ 11 → left ≡ header.size → levels ≡ below + 1 → mid.values + left ≡ before.values → mid.bytes ≡ before.bytes → mid.levels ≤ before.levels → Grows old now (91 ∷ []) → ArrayGoesOn s offset levels below before old false header.body left mid now
array_begins s offset header left levels below before mid old now here kind all down v b l begun = λ ts js end final done unfolds shows numbers utf8 keyed texts cost grows. record {
  bytes = 91 ∷ print_from false (items_tokens js);
  at = record {
    tree = array_tree ts;
    json = array js;
    unfolds = array_here here kind (subst (λ n. AllUnfold s header.body n ts end) all unfolds);
    keyed = keyed;
    texts = texts;
    shows = (js, refl, shows);
    text = record {
      is = sym (array_text js);
      numbers = numbers;
      utf8 = IsUtf8-append (91 ∷ []) (print_from false (items_tokens js)) (IsUtf8-are_ascii (91 ∷ []) refl) utf8;
    };
  };
  costs = array_costs levels below left before mid final ts down v b l cost;
  grown = grows_more old now done (91 ∷ []) (print_from false (items_tokens js)) begun grows;
}

pub array_more : (s : List ℕ) (offset levels below : ℕ) (before : Budget) (old : Drafted) (b : Bool) (at left end m : ℕ) (mid after : Budget) (now new : Drafted) → ArrayGoesOn s offset levels below before old b at left mid now → left ≡ suc m → AppendsItem s at end below b mid after now new → ArrayGoesOn s offset levels below before old true end m after new
array_more s offset levels below before old b at left end m mid after now new on some item_is = λ ts js last final done rest rest_show numbers utf8 keyed texts cost grows.
    let bytes = item_is.bytes in
    let t = item_is.at.tree in
    let j = item_is.at.json in
    let text = item_is.at.text in
    let behind = print_from true (items_tokens js) in
    let whole : print_from b (items_tokens (item j js)) ≡ comma_if b ++ (bytes ++ behind) =
    item_behind b j js ∙ ap (λ l. comma_if b ++ (l ++ behind)) (sym text.is) in
    let all_utf8 : IsUtf8 (comma_if b ++ (bytes ++ behind)) =
    IsUtf8-append (comma_if b) _ (utf8_comma b) (IsUtf8-append bytes _ text.utf8 utf8) in
    let unfold_all : AllUnfold s at left (tree t ts) last = subst (λ n. AllUnfold s at n (tree t ts) last) (sym some) (one_more item_is.at.unfolds rest) in
    let cost_all = tree_costs below left m mid after final t ts some item_is.costs cost in
    let grows_all = subst (Grows now done) (append_assoc (comma_if b) bytes behind ∙ sym whole) (grows_more now new done (comma_if b ++ bytes) behind item_is.grown grows) in
    on (tree t ts) (item j js) last final done unfold_all (j, js, refl, item_is.at.shows, rest_show) (text.numbers, numbers) (subst IsUtf8 (sym whole) all_utf8) (both _ _ item_is.at.keyed keyed) (both _ _ item_is.at.texts texts) cost_all grows_all

pub array_ends : (s : List ℕ) (offset levels below : ℕ) (before : Budget) (old : Drafted) (b : Bool) (at left : ℕ) (mid : Budget) (now new : Drafted) → ArrayGoesOn s offset levels below before old b at left mid now → left ≡ 0 → mid.levels ≤ below → Grows now new (93 ∷ []) → AppendsText s offset at levels before mid old new
array_ends s offset levels below before old b at left mid now new on none enough grown =
    let end_utf8 : IsUtf8 (print_from b (items_tokens no_items)) = subst IsUtf8 (sym (items_end b)) (IsUtf8-are_ascii (93 ∷ []) refl) in
    on no_trees no_items at mid new (subst (λ n. AllUnfold s at n no_trees at) (sym none) none_left) refl tt end_utf8 refl refl
    (record { values = omega (arith, none); bytes = omega arith; deep = omega (arith, enough); fewer = omega arith })
    (subst (Grows now new) (sym (items_end b)) grown)

-- what a pointer leads to shows the pointer
pub value_behind_pointer : (s : List ℕ) (offset end levels below : ℕ) (header : Header) (to : Pointer) (before after : Budget) (old new : Drafted) → header_at s offset ≡ Some header → header.kind ≡ 1 → pointer_at s header.body header.size ≡ Some to → levels ≡ below + 1 → AppendsText s to.target end below before after old new → AppendsText s offset to.next levels before after old new
value_behind_pointer s offset end levels below header to before after old new here kind leads down a = record {
  bytes = a.bytes;
  at = record {
    tree = pointer to.target a.at.tree;
    json = a.at.json;
    unfolds = pointer_here here kind leads a.at.unfolds;
    keyed = a.at.keyed;
    texts = a.at.texts;
    shows = a.at.shows;
    text = a.at.text;
  };
  costs = pointer_costs levels below to.target before after a.at.tree down a.costs;
  grown = a.grown;
}

pub name_behind_pointer : (s : List ℕ) (offset end : ℕ) (header : Header) (to : Pointer) (before after : Budget) (old new : Drafted) → header_at s offset ≡ Some header → header.kind ≡ 1 → pointer_at s header.body header.size ≡ Some to → AppendsOwnName s to.target end before after old new → AppendsName s offset to.next before after old new
name_behind_pointer s offset end header to before after old new here kind leads a = record {
  bytes = a.bytes;
  at = record {
    key = a.at.key;
    tree = pointer to.target (scalar (text a.at.key));
    unfolds = pointer_here here kind leads a.at.unfolds;
    is_key = inr (to.target, refl);
    utf8 = a.at.utf8;
    is = a.at.is;
  };
  charges = a.charges;
  grown = a.grown;
}

pub own_name : (s : List ℕ) (offset end : ℕ) (before after : Budget) (old new : Drafted) → AppendsOwnName s offset end before after old new → AppendsName s offset end before after old new
own_name s offset end before after old new a = record {
  bytes = a.bytes;
  at = record {
    key = a.at.key;
    tree = scalar (text a.at.key);
    unfolds = a.at.unfolds;
    is_key = inl refl;
    utf8 = a.at.utf8;
    is = a.at.is;
  };
  charges = a.charges;
  grown = a.grown;
}

-- a scalar after its header
pub scalar_stands : (s : List ℕ) (offset levels : ℕ) (header : Header) (c : Scalar) (before after : Budget) (old new : Drafted) → header_at s offset ≡ Some header → content_at s header ≡ Some c → before.levels ≤ levels → AppendsScalar c old new → ChargesBytes before after (scalar_payload c) → AppendsText s offset (content_end header) levels before after old new
scalar_stands s offset levels header c before after old new here is enough w charged = record {
  bytes = w.bytes;
  at = record { tree = scalar c; json = w.json; unfolds = scalar_here here is; keyed = refl; texts = w.is_text; shows = w.shows; text = w.text };
  costs = scalar_costs levels before after c enough charged;
  grown = w.grown;
}

text_content : (s : List ℕ) (header : Header) (x : List ℕ) → header.kind ≡ 2 → bytes_of_content s header ≡ Some x → content_at s header ≡ Some (text x)
unfolding content_at
text_content s header x kind is = rw (kind, is) refl

text_end : (header : Header) → header.kind ≡ 2 → content_end header ≡ header.body + header.size
text_end header kind = rw kind refl

-- the text after a header, as a name
pub name_stands : (s : List ℕ) (offset : ℕ) (header : Header) (x : List ℕ) (before after : Budget) (old mid new : Drafted) → header_at s offset ≡ Some header → header.kind ≡ 2 → bytes_of_content s header ≡ Some x → is_utf8 x ≡ true → ChargesBytes before after (length x) → Grows old mid (quoted x) → Grows mid new (58 ∷ []) → AppendsOwnName s offset (header.body + header.size) before after old new
name_stands s offset header x before after old mid new here kind is utf8 charged grown more = record {
  bytes = quoted x ++ 58 ∷ [];
  at = record {
    key = x;
    unfolds = subst (λ end. Unfolds s offset (scalar (text x)) end) (text_end header kind) (scalar_here here (text_content s header x kind is));
    utf8 = utf8;
    is = refl;
  };
  charges = charged;
  grown = grows_more old mid new (quoted x) (58 ∷ []) grown more;
}

-- a comma perhaps, and then an item or a member
pub item_appended : (s : List ℕ) (offset end levels : ℕ) (b : Bool) (before after : Budget) (old mid new : Drafted) → Grows old mid (comma_if b) → AppendsText s offset end levels before after mid new → AppendsItem s offset end levels b before after old new
item_appended s offset end levels b before after old mid new comma a = record {
  bytes = a.bytes;
  at = a.at;
  costs = a.costs;
  grown = grows_more old mid new (comma_if b) a.bytes comma a.grown;
}

pub member_appended : (s : List ℕ) (offset value end levels : ℕ) (b : Bool) (before between after : Budget) (old mid named new : Drafted) → Grows old mid (comma_if b) → AppendsName s offset value before between mid named → AppendsText s value end levels between after named new → AppendsMember s offset end levels b before after old new
member_appended s offset value end levels b before between after old mid named new comma n a = record {
  name = n.bytes;
  bytes = a.bytes;
  value = value;
  between = between;
  name_at = n.at;
  charges = n.charges;
  at = a.at;
  costs = a.costs;
  grown = grows_more old mid new (comma_if b) (n.bytes ++ a.bytes) comma (grows_more mid named new n.bytes a.bytes n.grown a.grown);
}

-- the whole record
pub record_appended : (s : List ℕ) (offset end levels : ℕ) (before after : Budget) (first last : Drafted) (old new : List ℕ) → AppendsText s offset end levels before after first last → levels ≤ 512 → shown first ≡ [] → before.values ≡ 65535 → before.bytes ≡ 2097152 → new ≡ old ++ shown last → AppendsRecord s offset old new
record_appended s offset end levels before after first last old new a few empty values bytes grown =
    let is : a.bytes ≡ print (json_tokens a.at.json) = a.at.text.is in
    let read : tokens a.bytes ≡ json_tokens a.at.json = ap tokens is ∙ tokens-print (json_tokens a.at.json) (ArePrintable-json_tokens a.at.json a.at.text.numbers) in
    let cv = a.costs.values in
    let cb = a.costs.bytes in
    let cd = a.costs.deep in
    record {
      tree = a.at.tree;
      end = end;
      text = a.bytes;
      stands = record {
        unfolds = a.at.unfolds;
        keyed = a.at.keyed;
        texts = λ _. a.at.texts;
        levels = omega (arith, cd, few);
      };
      few_values = omega (arith, cv, values);
      few_bytes = omega (arith, cb, bytes);
      compact = record {
        shown = a.at.json;
        shows = a.at.shows;
        text_is = is;
        tokens_are = read;
        reads_back = reads_back a.at.json a.bytes read;
        utf8 = a.at.text.utf8;
      };
      grown = grown ∙ ap (λ l. old ++ l) (a.grown.shows ∙ ap (λ l. l ++ a.bytes) empty);
    }
