-- What is printed of what databases have for an address.
use Rattle.std.proofs.Common.{◌≡◌, ◌⊎◌, inl, inr, ℕ, ◌+◌, ◌&&◌, ◌||◌, drop, Bor, List, [], ◌∷◌, ◌++◌, Option, Some, None, option_map, Bool, true, false, Result, Ok, Err, OnOk, refl, sym, ap, ◌∙◌, subst, append_assoc}
use Rattle.std.specs.Prelude.{codes}
use Rattle.std.specs.Global.{Vec}
use Rattle.std.specs.declared.net.ip_addr.IpAddr.{IpAddr}
use Rattle.json.specs.Token as token
use Rattle.json.specs.Token.{Token}
use Rattle.json.specs.Json.{Json, null, string, object, Members, no_members, member}
use Rattle.json.specs.Tree.{json_tokens, members_tokens}
use Rattle.mmdb_net.specs.Network.{short_text_of}
use Rattle.mmdb_value.specs.Values.{value_tree}
use Rattle.mmdb_reader.specs.declared.path.PathElement.{PathElement}
use Rattle.mmdb_cmd_show.specs.Asked.{FindsFirst}
use Rattle.mmdb_cmd_show.specs.Printed.{ShowsOrNull, HasValue, HasValues, IsFirstUnread, has_record, HasDatabases, HasAnswer, ShowsAnswer, HasDatabase, Writes, WritesMembers, Begins, object_of}
use Rattle.mmdb_cmd_show.specs.declared.answer.DatabaseAnswer.{DatabaseAnswer}
use Rattle.mmdb_cmd_show.specs.declared.databases.ShownDatabase.{ShownDatabase}

-- what follows from success
pub on_ok : {T E : Type 0} {A B : Type 0} (r : Result T E) → (A → B) → OnOk r A → OnOk r B
on_ok (Ok x) f a = f a
on_ok (Err e) f a = a

-- tokens after one more
pub opened : (old new : List Token) (t : Token) (rest : List Token) → new ≡ old ++ t ∷ [] → new ++ rest ≡ old ++ t ∷ rest
opened old new t rest e = ap (λ ts. ts ++ rest) e ∙ append_assoc old (t ∷ []) rest

-- tokens after a value
pub went_on : (old new mine rest : List Token) → new ≡ old ++ mine → new ++ rest ≡ old ++ (mine ++ rest)
went_on old new mine rest e = ap (λ ts. ts ++ rest) e ∙ append_assoc old mine rest

-- the members of an object with a text begin
pub begun : (old mid new : List Token) (name text said : List ℕ) → mid ≡ old ++ token.begin_object ∷ [] → text ≡ said → Begins (λ others members. members ≡ member name (string text) others) mid new → (members : Members) → new ++ members_tokens members ≡ old ++ token.begin_object ∷ (token.key name ∷ (token.string said ∷ members_tokens members))
begun old mid new name text said e same begins members =
    let (whole, is, eq) = begins members in
    eq ∙ ap (λ m. mid ++ members_tokens m) is ∙ opened old mid token.begin_object (members_tokens (member name (string text) members)) e
    ∙ ap (λ x. old ++ token.begin_object ∷ (token.key name ∷ (token.string x ∷ members_tokens members))) same

-- a member begins
pub member_begun : (old mid new : List Token) (name : List ℕ) (j : Json) (others : Members) → mid ≡ old ++ token.key name ∷ [] → new ≡ mid ++ json_tokens j → new ++ members_tokens others ≡ old ++ members_tokens (member name j others)
member_begun old mid new name j others e value = went_on mid new (json_tokens j) (members_tokens others) value ∙ opened old mid (token.key name) (json_tokens j ++ members_tokens others) e

-- those of an answer begin
pub answer_begun : (answer : DatabaseAnswer) (old first mid new : List Token) (text : List ℕ) → text ≡ short_text_of answer.network → Begins (λ others members. members ≡ member (codes "network") (string text) others) old first → mid ≡ first ++ token.key (codes "record") ∷ [] → Writes (ShowsOrNull (option_map value_tree answer.record)) mid new → Begins (HasAnswer answer) old new
answer_begun answer old first mid new text same begins key value others =
    let (j, shows, wrote) = value in
    let inner = member (codes "record") j others in
    let (whole, is, eq) = begins inner in
    (whole, (j, shows, is ∙ ap (λ x. member (codes "network") (string x) inner) same), member_begun first mid new (codes "record") j others key wrote ∙ eq)

-- the object of an answer is written
pub answer_shown : (answer : Option DatabaseAnswer) (some : DatabaseAnswer) (old first mid new : List Token) → answer ≡ Some some → first ≡ old ++ token.begin_object ∷ [] → Begins (HasAnswer some) first mid → new ≡ mid ++ token.end_object ∷ [] → Writes (ShowsAnswer answer) old new
answer_shown answer some old first mid new is begin begins end =
    let (members, have, eq) = begins no_members in
    let shown : Writes (ShowsAnswer (Some some)) old new = (object members, (members, have, refl), end ∙ eq ∙ opened old first token.begin_object (members_tokens members) begin) in
    subst (λ a. Writes (ShowsAnswer a) old new) (sym is) shown

pub none_shown : (answer : Option DatabaseAnswer) (old new : List Token) → answer ≡ None → new ≡ old ++ token.null ∷ [] → Writes (ShowsAnswer answer) old new
none_shown answer old new is wrote = subst (λ a. Writes (ShowsAnswer a) old new) (sym is) (null, refl, wrote)

-- what one of the databases has begins
pub named_begun : (are_named : Bool) (shown : ShownDatabase) (answer : Option DatabaseAnswer) (old mid new : List Token) → are_named ≡ true → mid ≡ old ++ token.key shown.key.now ∷ [] → Writes (ShowsAnswer answer) mid new → Begins (HasDatabase are_named shown answer) old new
named_begun true shown answer old mid new is key (j, shows, wrote) = λ others. (member shown.key.now j others, (j, shows, refl), member_begun old mid new shown.key.now j others key wrote)
named_begun false shown answer old mid new is key value = absurd (cc)

pub alone_begun : (are_named : Bool) (shown : ShownDatabase) (answer : Option DatabaseAnswer) (some : DatabaseAnswer) (old new : List Token) → are_named ≡ false → answer ≡ Some some → Begins (HasAnswer some) old new → Begins (HasDatabase are_named shown answer) old new
alone_begun true shown answer some old new is there begins = absurd (cc)
alone_begun false shown answer some old new is there begins = subst (λ a. Begins (HasDatabase false shown a) old new) (sym there) begins

pub none_begun : (are_named : Bool) (shown : ShownDatabase) (answer : Option DatabaseAnswer) (old : List Token) → are_named ≡ false → answer ≡ None → Begins (HasDatabase are_named shown answer) old old
none_begun true shown answer old is there = absurd (cc)
none_begun false shown answer old is there = subst (λ a. Begins (HasDatabase false shown a) old old) (sym there) (λ others. (others, refl, refl))

-- an object is closed
pub object_shown : (old mid new : List Token) (address : _) (members : Members) → ((ms : Members) → mid ++ members_tokens ms ≡ old ++ json_tokens (object_of address ms)) → (last : List Token) → last ++ members_tokens no_members ≡ mid ++ members_tokens members → new ≡ last ++ token.end_object ∷ [] → new ≡ old ++ json_tokens (object_of address members)
object_shown old mid new address members begun last eq end = end ∙ eq ∙ begun members

-- ---- one after another

or_regrouped : (x y z : Bool) → x || (y || z) ≡ (x || y) || z
or_regrouped true y z = refl
or_regrouped false y z = refl

or_false : (x : Bool) → x || false ≡ x
or_false true = refl
or_false false = refl

and_regrouped : (x y z : Bool) → x && (y && z) ≡ (x && y) && z
and_regrouped true y z = refl
and_regrouped false y z = refl

and_true : (x : Bool) → x && true ≡ x
and_true true = refl
and_true false = refl

-- what is left at a place completes all that is
abbrev pub Complete : Bool → List ShownDatabase → List (Option DatabaseAnswer) → ℕ → Bool → List Token → List Token → Type 0
Complete are_named databases answers n so_far old now =
    (members : Members) (b : Bool) → HasDatabases are_named (drop n databases) (drop n answers) members b
    → (whole : Members) × HasDatabases are_named databases answers whole (so_far || b) × (now ++ members_tokens members ≡ old ++ members_tokens whole)

pub one_more : (are_named : Bool) (databases : List ShownDatabase) (answers : List (Option DatabaseAnswer)) (n m : ℕ) (shown : ShownDatabase) (answer : Option DatabaseAnswer) (old now new : List Token) (so_far has : Bool) → m ≡ n + 1 → drop n databases ≡ shown ∷ drop (n + 1) databases → drop n answers ≡ answer ∷ drop (n + 1) answers → has ≡ has_record answer → Begins (HasDatabase are_named shown answer) now new → Complete are_named databases answers n so_far old now → Complete are_named databases answers m (so_far || has) old new
one_more are_named databases answers n m shown answer old now new so_far has next here there is begins complete members b rest =
    let left = subst (λ k. HasDatabases are_named (drop k databases) (drop k answers) members b) next rest in
    let (more, have, eq) = begins members in
    let all : HasDatabases are_named (shown ∷ drop (n + 1) databases) (answer ∷ drop (n + 1) answers) more (has_record answer || b) = (members, b, have, left, refl) in
    let back = subst (λ xs. HasDatabases are_named xs (drop n answers) more (has_record answer || b)) (sym here) (subst (λ ys. HasDatabases are_named (shown ∷ drop (n + 1) databases) ys more (has_record answer || b)) (sym there) all) in
    let (whole, have_all, same) = complete more (has_record answer || b) back in
    (whole, subst (HasDatabases are_named databases answers whole) (or_regrouped so_far (has_record answer) b ∙ ap (λ h. (so_far || h) || b) (sym is)) have_all, eq ∙ same)

none_left : (are_named : Bool) (databases : List ShownDatabase) (answers : List (Option DatabaseAnswer)) → (databases ≡ []) ⊎ (answers ≡ []) → HasDatabases are_named databases answers no_members false
none_left are_named [] answers e = (refl, refl)
none_left are_named (x ∷ databases) [] e = (refl, refl)
none_left are_named (x ∷ databases) (y ∷ answers) (inl e) = absurd (cc)
none_left are_named (x ∷ databases) (y ∷ answers) (inr e) = absurd (cc)

either : {A B : Type 0} {a x : List A} {b y : List B} → a ≡ x → b ≡ y → (a ≡ []) ⊎ (b ≡ []) → (x ≡ []) ⊎ (y ≡ [])
either e f (inl h) = inl (sym e ∙ h)
either e f (inr h) = inr (sym f ∙ h)

pub all_complete : (are_named : Bool) (databases : List ShownDatabase) (answers : List (Option DatabaseAnswer)) (n : ℕ) (so_far : Bool) (old now : List Token) (a : List ShownDatabase) (b : List (Option DatabaseAnswer)) → a ≡ drop n databases → b ≡ drop n answers → (a ≡ []) ⊎ (b ≡ []) → Complete are_named databases answers n so_far old now → WritesMembers (λ members. HasDatabases are_named databases answers members so_far) old now
all_complete are_named databases answers n so_far old now a b e f ends complete =
    let (whole, have, same) = complete no_members false (none_left are_named (drop n databases) (drop n answers) (either e f ends)) in
    (whole, subst (HasDatabases are_named databases answers whole) (or_false so_far) have, same)

-- the same of values
abbrev pub CompleteValues : List ShownDatabase → IpAddr → List (Bor (List ℕ)) → List (Vec PathElement) → ℕ → Bool → List Token → List Token → Type 0
CompleteValues databases address names paths n so_far old now =
    (members : Members) (b : Bool) → HasValues databases address (drop n names) (drop n paths) members b
    → (whole : Members) × HasValues databases address names paths whole (so_far && b) × (now ++ members_tokens members ≡ old ++ members_tokens whole)

pub value_more : (databases : List ShownDatabase) (address : IpAddr) (names : List (Bor (List ℕ))) (paths : List (Vec PathElement)) (n m : ℕ) (name : Bor (List ℕ)) (path : Vec PathElement) (steps : List PathElement) (old now new : List Token) (so_far has : Bool) → m ≡ n + 1 → drop n names ≡ name ∷ drop (n + 1) names → drop n paths ≡ path ∷ drop (n + 1) paths → steps ≡ path.items → Begins (HasValue databases address name.now steps has) now new → CompleteValues databases address names paths n so_far old now → CompleteValues databases address names paths m (so_far && has) old new
value_more databases address names paths n m name path steps old now new so_far has next here there is begins complete members b rest =
    let left = subst (λ k. HasValues databases address (drop k names) (drop k paths) members b) next rest in
    let (more, have, eq) = begins members in
    let own = subst (λ s. HasValue databases address name.now s has members more) is have in
    let all : HasValues databases address (name ∷ drop (n + 1) names) (path ∷ drop (n + 1) paths) more (has && b) = (members, has, b, own, left, refl) in
    let back = subst (λ xs. HasValues databases address xs (drop n paths) more (has && b)) (sym here) (subst (λ ys. HasValues databases address (name ∷ drop (n + 1) names) ys more (has && b)) (sym there) all) in
    let (whole, have_all, same) = complete more (has && b) back in
    (whole, subst (HasValues databases address names paths whole) (and_regrouped so_far has b) have_all, eq ∙ same)

pub unread_more : (databases : List ShownDatabase) (address : IpAddr) (paths : List (Vec PathElement)) (n m : ℕ) (name : List ℕ) (path : Vec PathElement) (steps : List PathElement) (now new : List Token) (has : Bool) (unread : List ℕ) → m ≡ n + 1 → drop n paths ≡ path ∷ drop (n + 1) paths → steps ≡ path.items → Begins (HasValue databases address name steps has) now new → IsFirstUnread databases address (drop m paths) unread → IsFirstUnread databases address (drop n paths) unread
unread_more databases address paths n m name path steps now new has unread next there is begins rest =
    let (more, (j, (value, found, shows, there_is), named), eq) = begins no_members in
    subst (λ ys. IsFirstUnread databases address ys unread) (sym there) (inr (value, subst (λ s. FindsFirst databases address s (Ok value)) is found, subst (λ k. IsFirstUnread databases address (drop k paths) unread) next rest))

no_value_left : (databases : List ShownDatabase) (address : IpAddr) (names : List (Bor (List ℕ))) (paths : List (Vec PathElement)) → (names ≡ []) ⊎ (paths ≡ []) → HasValues databases address names paths no_members true
no_value_left databases address [] paths e = (refl, refl)
no_value_left databases address (x ∷ names) [] e = (refl, refl)
no_value_left databases address (x ∷ names) (y ∷ paths) (inl e) = absurd (cc)
no_value_left databases address (x ∷ names) (y ∷ paths) (inr e) = absurd (cc)

pub all_values_complete : (databases : List ShownDatabase) (address : IpAddr) (names : List (Bor (List ℕ))) (paths : List (Vec PathElement)) (n : ℕ) (so_far : Bool) (old now : List Token) (a : List (Bor (List ℕ))) (b : List (Vec PathElement)) → a ≡ drop n names → b ≡ drop n paths → (a ≡ []) ⊎ (b ≡ []) → CompleteValues databases address names paths n so_far old now → WritesMembers (λ members. HasValues databases address names paths members so_far) old now
all_values_complete databases address names paths n so_far old now a b e f ends complete =
    let (whole, have, same) = complete no_members true (no_value_left databases address (drop n names) (drop n paths) (either e f ends)) in
    (whole, subst (HasValues databases address names paths whole) (and_true so_far) have, same)
