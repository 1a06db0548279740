-- What conditions say is one thing, unless they compare a double or a float.
use Rattle.std.proofs.Common.{◌≡◌, ℕ, List, [], ◌∷◌, Option, Some, None, Bool, true, false, inl, inr, refl, sym, ap, ◌∙◌, subst}
use Rattle.std.proofs.lemmas.Bool.{true≢false}
use Rattle.std.proofs.lemmas.List.Elements.{All-head, All-tail}
use Rattle.std.proofs.lemmas.Option.{same_Some, none-some}
use Rattle.std.specs.List.{All}
use Rattle.std.specs.Prelude.{decimal}
use Rattle.std.specs.Fmt.{signed_decimal}
use Rattle.base64.specs.GeneralPurpose.{encode_of}
use Rattle.base64.specs.Engines.{standard}
use Rattle.json.specs.Json.{Json, boolean as truth, number, string}
use Rattle.json.specs.Print.{print}
use Rattle.json.specs.Tree.{json_tokens}
use Rattle.mmdb_format.specs.Contents.{text, bytes, boolean, signed32, number16, number32, number64, number128, double_bits, float_bits}
use Rattle.mmdb_format.specs.Unfolding.{Tree, scalar, array, table, pointer}
use Rattle.mmdb_json.specs.Shown.{Shows}
use Rattle.mmdb_json.specs.Texts.{IsCompact}
use Rattle.mmdb_reader.specs.File.{data_section}
use Rattle.mmdb_reader.specs.declared.path.PathElement.{PathElement}
use Rattle.mmdb_layout.specs.Conditions.{IsWrittenBy, SaysAmong, SaysPartOf, text_of, SaysBeyond, SaysFits, SaysRead, SaysMetBy, SaysAllMetBy, HasUnreadBy, texts_of, wants}
use Rattle.mmdb_layout.specs.Numbers.{IsBeyond}
use Rattle.mmdb_layout.specs.declared.condition.Condition.{Condition}
use Rattle.mmdb_layout.specs.declared.condition.Requirement.{Requirement}
use Rattle.mmdb_layout.specs.declared.condition.Requirement.TheVariants.{OneOf, NoneOf, Part, Present, Above, Below}
use Rattle.mmdb_query.specs.Reading.{outlines_of}
use Rattle.mmdb_query_forms.specs.Decided.{IsNoFloat, Decides, IsDecided, SetsOfDecidedAreExact}

-- ---- a value

-- of the JSON of a value that is shown in one way a fact doesn't hold, if it does of another one
apart : (v : Tree) (j : Json) → ((k : Json) → Shows v k → k ≡ j) → (P : List ℕ → Type 0) → (x : List ℕ) × IsCompact v x × P x → (y : List ℕ) × IsCompact v y × (¬ P y) → ⊥
apart v j one P (x, x_shows, holds) (y, y_shows, not_so) =
    let same : x ≡ y = x_shows.text_is ∙ (ap (λ k. print (json_tokens k)) (one x_shows.shown x_shows.shows ∙ sym (one y_shows.shown y_shows.shows)) ∙ sym y_shows.text_is) in
    not_so (subst P same holds)

among_apart : (v : Tree) (texts : List (List ℕ)) → IsNoFloat v → SaysAmong v texts true → SaysAmong v texts false → ⊥
among_apart (scalar (text own)) texts is holds fails = fails holds
among_apart (array ts) texts is holds fails = true≢false holds
among_apart (table ps) texts is holds fails = true≢false holds
among_apart (scalar (bytes x)) texts is holds fails = apart (scalar (bytes x)) (string (encode_of standard x)) (λ k shows. shows) (λ json. IsWrittenBy (scalar (bytes x)) json texts) holds fails
among_apart (scalar (boolean b)) texts is holds fails = apart (scalar (boolean b)) (truth b) (λ k shows. shows) (λ json. IsWrittenBy (scalar (boolean b)) json texts) holds fails
among_apart (scalar (signed32 z)) texts is holds fails = apart (scalar (signed32 z)) (number (signed_decimal z)) (λ k shows. shows) (λ json. IsWrittenBy (scalar (signed32 z)) json texts) holds fails
among_apart (scalar (number16 n)) texts is holds fails = apart (scalar (number16 n)) (number (decimal n)) (λ k shows. shows) (λ json. IsWrittenBy (scalar (number16 n)) json texts) holds fails
among_apart (scalar (number32 n)) texts is holds fails = apart (scalar (number32 n)) (number (decimal n)) (λ k shows. shows) (λ json. IsWrittenBy (scalar (number32 n)) json texts) holds fails
among_apart (scalar (number64 n)) texts is holds fails = apart (scalar (number64 n)) (number (decimal n)) (λ k shows. shows) (λ json. IsWrittenBy (scalar (number64 n)) json texts) holds fails
among_apart (scalar (number128 n)) texts is holds fails = apart (scalar (number128 n)) (number (decimal n)) (λ k shows. shows) (λ json. IsWrittenBy (scalar (number128 n)) json texts) holds fails
among_apart (scalar (double_bits n)) texts is holds fails = absurd is
among_apart (scalar (float_bits n)) texts is holds fails = absurd is
among_apart (pointer a t) texts is holds fails = absurd is

beyond_apart : (side : _) (v : Tree) (bounds : List (List ℕ)) → IsNoFloat v → SaysBeyond side v bounds true → SaysBeyond side v bounds false → ⊥
beyond_apart side (scalar (text own)) bounds is holds fails = true≢false holds
beyond_apart side (array ts) bounds is holds fails = true≢false holds
beyond_apart side (table ps) bounds is holds fails = true≢false holds
beyond_apart side (scalar (bytes x)) bounds is holds fails = apart (scalar (bytes x)) (string (encode_of standard x)) (λ k shows. shows) (λ json. All (IsBeyond side json) bounds) holds fails
beyond_apart side (scalar (boolean b)) bounds is holds fails = apart (scalar (boolean b)) (truth b) (λ k shows. shows) (λ json. All (IsBeyond side json) bounds) holds fails
beyond_apart side (scalar (signed32 z)) bounds is holds fails = apart (scalar (signed32 z)) (number (signed_decimal z)) (λ k shows. shows) (λ json. All (IsBeyond side json) bounds) holds fails
beyond_apart side (scalar (number16 n)) bounds is holds fails = apart (scalar (number16 n)) (number (decimal n)) (λ k shows. shows) (λ json. All (IsBeyond side json) bounds) holds fails
beyond_apart side (scalar (number32 n)) bounds is holds fails = apart (scalar (number32 n)) (number (decimal n)) (λ k shows. shows) (λ json. All (IsBeyond side json) bounds) holds fails
beyond_apart side (scalar (number64 n)) bounds is holds fails = apart (scalar (number64 n)) (number (decimal n)) (λ k shows. shows) (λ json. All (IsBeyond side json) bounds) holds fails
beyond_apart side (scalar (number128 n)) bounds is holds fails = apart (scalar (number128 n)) (number (decimal n)) (λ k shows. shows) (λ json. All (IsBeyond side json) bounds) holds fails
beyond_apart side (scalar (double_bits n)) bounds is holds fails = absurd is
beyond_apart side (scalar (float_bits n)) bounds is holds fails = absurd is
beyond_apart side (pointer a t) bounds is holds fails = absurd is

part_apart : (own : Option (List ℕ)) (texts : List (List ℕ)) → SaysPartOf own texts true → SaysPartOf own texts false → ⊥
part_apart None texts holds fails = true≢false holds
part_apart (Some own) texts holds fails = fails holds

fits_apart : (wanted : Requirement) (v : Tree) (texts : List (List ℕ)) → Decides wanted v → SaysFits wanted v texts true → SaysFits wanted v texts false → ⊥
fits_apart OneOf v texts is holds fails = among_apart v texts is holds fails
fits_apart NoneOf v texts is holds fails = among_apart v texts is holds fails
fits_apart Part v texts is holds fails = part_apart (text_of v) texts holds fails
fits_apart Present v texts is holds fails = true≢false (sym fails)
fits_apart Above v texts is holds fails = beyond_apart _ v texts is holds fails
fits_apart Below v texts is holds fails = beyond_apart _ v texts is holds fails

-- ---- a condition

read_apart : (wanted : Requirement) (read : Option Tree) (texts : List (List ℕ)) → ((v : Tree) → read ≡ Some v → Decides wanted v) → SaysRead wanted read texts true → SaysRead wanted read texts false → ⊥
read_apart wanted None texts is holds fails = true≢false holds
read_apart wanted (Some v) texts is holds fails = fits_apart wanted v texts (is v refl) holds fails

one_read : (wanted : Requirement) (read : Option Tree) (texts : List (List ℕ)) (a b : Bool) → ((v : Tree) → read ≡ Some v → Decides wanted v) → SaysRead wanted read texts a → SaysRead wanted read texts b → a ≡ b
one_read wanted read texts true true is holds fails = refl
one_read wanted read texts true false is holds fails = absurd (read_apart wanted read texts is holds fails)
one_read wanted read texts false true is holds fails = absurd (read_apart wanted read texts is fails holds)
one_read wanted read texts false false is holds fails = refl

met_apart : (condition : Condition) (reads : List PathElement → Option (Option Tree)) → IsDecided reads condition → SaysMetBy condition reads true → SaysMetBy condition reads false → ⊥
met_apart condition reads is (yes_found, (yes_value, yes_read, holds), yes_is) (no_found, (no_value, no_read, fails), no_is) =
    let same : no_value ≡ yes_value = same_Some no_value yes_value (sym no_read ∙ yes_read) in
    let found : yes_found ≡ no_found = one_read condition.wanted yes_value (texts_of condition) yes_found no_found (λ v at. is v (yes_read ∙ ap Some at)) holds (subst (λ (read : Option Tree). SaysRead condition.wanted read (texts_of condition) no_found) same fails) in
    true≢false (yes_is ∙ (ap (wants condition.wanted) found ∙ sym no_is))

met_read : (condition : Condition) (reads : List PathElement → Option (Option Tree)) → SaysMetBy condition reads true → reads condition.path.items ≡ None → ⊥
met_read condition reads (found, (value, read, says), is) none = none-some value (sym none ∙ read)

-- ---- all of them

all_apart : (conditions : List Condition) (reads : List PathElement → Option (Option Tree)) → All (IsDecided reads) conditions → SaysAllMetBy conditions reads true → SaysAllMetBy conditions reads false → ⊥
all_apart [] reads are holds fails = true≢false (sym fails)
all_apart (condition ∷ conditions) reads are (inl holds) fails = true≢false holds.1
all_apart (condition ∷ conditions) reads are (inr holds) (inl fails) = met_apart condition reads (All-head (IsDecided reads) condition conditions are) holds.0 fails.0
all_apart (condition ∷ conditions) reads are (inr holds) (inr fails) = all_apart conditions reads (All-tail (IsDecided reads) condition conditions are) holds.1 fails.1

all_read : (conditions : List Condition) (reads : List PathElement → Option (Option Tree)) → SaysAllMetBy conditions reads true → HasUnreadBy conditions reads → ⊥
all_read [] reads holds unread = absurd unread
all_read (condition ∷ conditions) reads (inl holds) unread = true≢false holds.1
all_read (condition ∷ conditions) reads (inr holds) (inl unread) = met_read condition reads holds.0 unread
all_read (condition ∷ conditions) reads (inr holds) (inr unread) = all_read conditions reads holds.1 unread.1

pub sets_of_decided_are_exact : SetsOfDecidedAreExact
sets_of_decided_are_exact all db set unread only all_met address small decided = (
  (λ has. only address small has),
  (λ (offset, record_of, meets). elim (all_met address offset small record_of) [
    | inl has ↦ has
    | inr (inl unmet) ↦ absurd (all_apart all.conditions.now (outlines_of (data_section db ∷ []) (Some offset ∷ [])) (decided offset record_of) meets unmet)
    | inr (inr cant) ↦ absurd (all_read all.conditions.now (outlines_of (data_section db ∷ []) (Some offset ∷ [])) meets cant.0)
  ]),
)
