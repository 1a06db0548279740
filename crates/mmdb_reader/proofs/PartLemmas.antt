-- A path leads to the part of a tree that it names.
use Rattle.std.proofs.Common.{◌≡◌, ℕ, suc, zero, ◌+◌, ◌-◌, ◌*◌, ◌<◌, max, List, [], ◌∷◌, Option, Some, None, Bool, true, false, cond, nat_eq, nat_lt, refl, sym, ap, ◌∙◌, arith, subst, if◌then◌else◌}
use Rattle.std.proofs.lemmas.Bool.Decides.{nat_tests}
use Rattle.mmdb_format.specs.declared.header.Header.{Header}
use Rattle.mmdb_format.specs.declared.header.Direct.{Direct}
use Rattle.mmdb_format.specs.declared.header.Pointer.{Pointer}
use Rattle.mmdb_format.specs.Contents.{Scalar, text, content_at, content_end, end_of}
use Rattle.mmdb_format.specs.Header.{◌>>=◌, header_at, bytes_at}
use Rattle.mmdb_format.specs.Pointer.{pointer_at, direct_at, behind, most_levels}
use Rattle.mmdb_format.specs.Unfolding.{Tree, scalar, array, table, pointer, Trees, tree, Pairs, pair, Unfolds, scalar_here, array_here, table_here, pointer_here, AllUnfold, none_left, one_more, PairsUnfold, no_pairs_left, one_more_pair}
use Rattle.mmdb_decode.specs.declared.direct.Entered.{Entered}
use Rattle.mmdb_decode.specs.Arrays.{container_at, array_at}
use Rattle.mmdb_decode.specs.Maps.{map_at, raw_key_at}
use Rattle.mmdb_decode.specs.Reading.{Reading, Meaning, plus, given, followed}
use Rattle.mmdb_decode.specs.Names.{named}
use Rattle.mmdb_decode.specs.Scalars.{direct_of}
use Rattle.mmdb_decode.specs.Selecting.{inside_map, inside_array, into_map, into_array, to_key, to_element, from_front, from_end}
use Rattle.mmdb_decode.specs.Skipping.{parts_of, passes, skip_within, skip_at, Skips, passed_scalar, passed_pointer, passed_container, AllSkip, none_passed, one_more_passed}
use Rattle.mmdb_decode.proofs.PassingLaws.{no_content_1, no_content_7, no_content_11, is_skipped, skipping-is_passing}
use Rattle.mmdb_decode.proofs.KeyLaws.{key_reading, raw_key-at}
use Rattle.mmdb_reader.specs.Parts.{past_pointer, is_spelled, value_of, element_of, count_of, inside, down, part_of, PathSelects, PathLeadsNowhere}
use Rattle.mmdb_reader.specs.Selecting.{at_step, selected}
use Rattle.mmdb_reader.specs.declared.path.PathElement.{PathElement}
use Rattle.mmdb_reader.specs.declared.path.PathElement.TheVariants.{Key, Index, IndexFromEnd}

-- what options hold
pub bind_some : {A B : Type 0} (o : Option A) (f : A → Option B) (y : B) → (o >>= f) ≡ Some y → (x : A) × (o ≡ Some x) × (f x ≡ Some y)
bind_some None f y h = absurd (cc)
bind_some (Some x) f y h = (x, refl, h)

cond_some : {A : Type 0} (b : Bool) (o : Option A) (x : A) → cond b o None ≡ Some x → (b ≡ true) × (o ≡ Some x)
cond_some true o x h = (refl, h)
cond_some false o x h = absurd (cc)

pub same_some : {A : Type 0} (x y : A) → Some x ≡ Some y → x ≡ y
same_some x y h = cc

same_held : {A : Type 0} (o : Option A) (x y : A) → o ≡ Some x → o ≡ Some y → x ≡ y
same_held o x y h k = same_some x y (sym h ∙ k)

nothing_held : {A : Type 0} {P : Type 0} (o : Option A) (x : A) → o ≡ None → o ≡ Some x → P
nothing_held {A = A} o x h k = let e : ◌≡◌ {A = Option A} None (Some x) = sym h ∙ k in absurd (cc)

false_true : {P : Type 0} (b : Bool) → b ≡ false → b ≡ true → P
false_true b h k = let e : false ≡ true = sym h ∙ k in absurd (cc)

-- a reading after a reading
pub record Follows {A B : Type 0} (f : Meaning A) (g : A → Meaning B) (s : List ℕ) (p d : ℕ) (r : Reading B) : Type 0 where
  pub first : Reading A
  pub second : Reading B
  pub one : f s p d ≡ Some first
  pub two : g first.value s first.next d ≡ Some second
  pub same : plus first second ≡ r

pub follows : {A B : Type 0} (f : Meaning A) (g : A → Meaning B) (s : List ℕ) (p d : ℕ) (r : Reading B) → followed f g s p d ≡ Some r → Follows f g s p d r
follows f g s p d r h =
    let x = bind_some (f s p d) _ r h in
    let y = bind_some (g x.0.value s x.0.next d) _ r x.2 in
    record { first = x.0; second = y.0; one = x.1; two = y.1; same = same_some (plus x.0 y.0) r y.2 }

-- what unfolds is passed too
record IsPassed (s : List ℕ) (p q : ℕ) : Type 0 where
  pub nested : ℕ
  pub parts : ℕ
  pub skips : Skips s p nested parts q

record ArePassed (s : List ℕ) (p n q : ℕ) : Type 0 where
  pub nested : ℕ
  pub parts : ℕ
  pub skip : AllSkip s p n nested parts q

container_passed : (s : List ℕ) (p n q : ℕ) (header : Header) → header_at s p ≡ Some header → parts_of header ≡ Some n → ArePassed s header.body n q → IsPassed s p q
container_passed s p n q header h k a = record { nested = suc a.nested; parts = n + a.parts; skips = passed_container h k a.skip }

array_parts : (header : Header) → header.kind ≡ 11 → parts_of header ≡ Some header.size
unfolding parts_of
array_parts header k = rw k refl

table_parts : (header : Header) → header.kind ≡ 7 → parts_of header ≡ Some (2 * header.size)
unfolding parts_of
table_parts header k = rw k refl

one_passed : (s : List ℕ) (p n q r : ℕ) → IsPassed s p q → ArePassed s q n r → ArePassed s p (suc n) r
one_passed s p n q r a b = record { nested = max a.nested b.nested; parts = a.parts + b.parts; skip = one_more_passed a.skips b.skip }

two_passed : (s : List ℕ) (p n q r e : ℕ) → IsPassed s p q → IsPassed s q r → ArePassed s r (2 * n) e → ArePassed s p (2 * suc n) e
two_passed s p n q r e a b c = let more : suc (suc (2 * n)) ≡ 2 * suc n = omega arith in subst (λ m. ArePassed s p m e) more (one_passed s p (suc (2 * n)) q e a (one_passed s q (2 * n) r e b c))

mutual
  is_passed : {s : List ℕ} {p q : ℕ} {u : Tree} → Unfolds s p u q → IsPassed s p q
  is_passed (scalar_here h k) = record { nested = 0; parts = 0; skips = passed_scalar h k }
  is_passed (array_here h k a) = container_passed _ _ _ _ _ h (array_parts _ k) (are_passed a)
  is_passed (table_here h k a) = container_passed _ _ _ _ _ h (table_parts _ k) (pairs_passed a)
  is_passed (pointer_here h k a u) = record { nested = 0; parts = 0; skips = passed_pointer h k a }

  are_passed : {s : List ℕ} {p n q : ℕ} {us : Trees} → AllUnfold s p n us q → ArePassed s p n q
  are_passed none_left = record { nested = 0; parts = 0; skip = none_passed }
  are_passed (one_more a b) = one_passed _ _ _ _ _ (is_passed a) (are_passed b)

  pairs_passed : {s : List ℕ} {p n q : ℕ} {ps : Pairs} → PairsUnfold s p n ps q → ArePassed s p (2 * n) q
  pairs_passed no_pairs_left = record { nested = 0; parts = 0; skip = none_passed }
  pairs_passed (one_more_pair a b c) = two_passed _ _ _ _ _ _ (is_passed a) (is_passed b) (pairs_passed c)

passed_at : ℕ → ℕ → Reading (Unit {0})
passed_at q n = record { value = tt; next = q; values = n; bytes = 0 }

-- skipping ends where the tree does
skip_ends : (s : List ℕ) (p d q : ℕ) (u : Tree) (r : Reading (Unit {0})) → Unfolds s p u q → skip_at s p d ≡ Some r → r.next ≡ q
skip_ends s p d q u r a h =
    let x = is_passed a in
    let y = (skipping-is_passing s p d r.next r.values r.bytes).0 h in
    let n : ℕ = x.nested + y.0 in
    let one = is_skipped x.skips n d (omega arith) in
    let other = is_skipped y.1 n d (omega arith) in
    ap (λ (z : Reading (Unit {0})). z.next) (same_held (skip_within n s p d) (record { value = tt; next = r.next; values = r.values; bytes = 0 }) (record { value = tt; next = q; values = x.parts; bytes = 0 }) other one)

-- an offset to which a step or a path led
pub record Leads (s : List ℕ) (o : Option Tree) (offset : ℕ) : Type 0 where
  pub part : Tree
  pub end : ℕ
  pub is : o ≡ Some part
  pub unfolds : Unfolds s offset part end

leads_from : (s : List ℕ) (o : Option Tree) (p q : ℕ) → p ≡ q → Leads s o p → Leads s o q
leads_from s o p q e h = subst (λ x. Leads s o x) e h

-- elements
count_is : {s : List ℕ} {p n q : ℕ} {us : Trees} → AllUnfold s p n us q → count_of us ≡ n
count_is none_left = refl
count_is (one_more a b) = ap suc (count_is b)

element_next : (s : List ℕ) (p d q n : ℕ) (t : Tree) (us : Trees) (r : Reading (Unit {0})) → Unfolds s p t q → ((y : Reading (Unit {0})) → passes skip_at n s q d ≡ Some y → Leads s (element_of n us) y.next) → passes skip_at (suc n) s p d ≡ Some r → Leads s (element_of (suc n) (tree t us)) r.next
element_next s p d q n t us r a rest h =
    let f = follows skip_at (λ _. passes skip_at n) s p d r h in
    let ends : f.first.next ≡ q = skip_ends s p d q t f.first a f.one in
    let there : passes skip_at n s q d ≡ Some f.second = subst (λ x. passes skip_at n s x d ≡ Some f.second) ends f.two in
    leads_from s (element_of n us) f.second.next r.next (ap (λ (x : Reading (Unit {0})). x.next) f.same) (rest f.second there)

element_first : (s : List ℕ) (p d q : ℕ) (t : Tree) (r : Reading (Unit {0})) → Unfolds s p t q → passes skip_at 0 s p d ≡ Some r → Leads s (Some t) r.next
element_first s p d q t r a h = leads_from s (Some t) p r.next (ap (λ (x : Reading (Unit {0})). x.next) (same_some (record { value = tt; next = p; values = 0; bytes = 0 }) r h)) (record { part = t; end = q; is = refl; unfolds = a })

elements_lead : {s : List ℕ} {p m q : ℕ} {us : Trees} → AllUnfold s p m us q → (n d : ℕ) (r : Reading (Unit {0})) → n < m → passes skip_at n s p d ≡ Some r → Leads s (element_of n us) r.next
elements_lead none_left n d r l h = absurd (omega arith)
elements_lead (one_more a b) zero d r l h = element_first _ _ d _ _ r a h
elements_lead (one_more a b) (suc n) d r l h = element_next _ _ d _ n _ _ r a (λ y k. elements_lead b n d y (omega arith) k) h

-- what is at an offset, directly or through one pointer
record Behind (s : List ℕ) (at : Direct) (u : Tree) (q : ℕ) : Type 0 where
  pub offset : ℕ
  pub end : ℕ
  pub header : header_at s offset ≡ Some at.header
  pub unfolds : Unfolds s offset (past_pointer u) end
  pub next : end_of at end ≡ q

same_header : (s : List ℕ) (p : ℕ) (x y : Header) → header_at s p ≡ Some x → header_at s p ≡ Some y → x ≡ y
same_header s p x y h k = same_held (header_at s p) x y h k

kinds_differ : {P : Type 0} (s : List ℕ) (p m n : ℕ) (x y : Header) → header_at s p ≡ Some x → header_at s p ≡ Some y → x.kind ≡ m → y.kind ≡ n → nat_eq m n ≡ false → P
kinds_differ s p m n x y h k a b e =
    let same : m ≡ n = sym a ∙ ap (λ (z : Header). z.kind) (same_header s p x y h k) ∙ b in
    absurd (grind (arith, nat_tests))

no_content : {P : Type 0} (s : List ℕ) (p : ℕ) (x y : Header) (c : Scalar) → header_at s p ≡ Some x → header_at s p ≡ Some y → content_at s x ≡ Some c → content_at s y ≡ None → P
no_content s p x y c h k a b = nothing_held (content_at s y) c b (subst (λ (z : Header). content_at s z ≡ Some c) (same_header s p x y h k) a)

-- a text
text_content : (s : List ℕ) (header : Header) (x : List ℕ) → header.kind ≡ 2 → bytes_at s header.body header.size ≡ Some x → content_at s header ≡ Some (text x)
unfolding content_at
text_content s header x k h = rw (k, h) refl

text_end : (header : Header) → header.kind ≡ 2 → content_end header ≡ header.body + header.size
text_end header k = rw k refl

text_scalar : (s : List ℕ) (p : ℕ) (key y : List ℕ) (c : Scalar) (x header : Header) → header_at s p ≡ Some x → content_at s x ≡ Some c → header_at s p ≡ Some header → header.kind ≡ 2 → bytes_at s header.body header.size ≡ Some y → (is_spelled key (scalar c) ≡ named y key) × (content_end x ≡ header.body + header.size)
text_scalar s p key y c x header h a k two b =
    let same : x ≡ header = same_header s p x header h k in
    let here : content_at s header ≡ Some c = subst (λ (z : Header). content_at s z ≡ Some c) same a in
    let is : c ≡ text y = same_held (content_at s header) c (text y) here (text_content s header y two b) in
    (ap (λ z. is_spelled key (scalar z)) is, ap content_end same ∙ text_end header two)

spelled_behind : {s : List ℕ} {p q : ℕ} {t : Tree} → Unfolds s p t q → (key y : List ℕ) (header : Header) → header_at s p ≡ Some header → header.kind ≡ 2 → bytes_at s header.body header.size ≡ Some y → (is_spelled key t ≡ named y key) × (q ≡ header.body + header.size)
spelled_behind (scalar_here h a) key y header k two b = text_scalar _ _ key y _ _ header h a k two b
spelled_behind (array_here h e a) key y header k two b = kinds_differ _ _ 11 2 _ header h k e two refl
spelled_behind (table_here h e a) key y header k two b = kinds_differ _ _ 7 2 _ header h k e two refl
spelled_behind (pointer_here h e a u) key y header k two b = kinds_differ _ _ 1 2 _ header h k e two refl

-- a map, and an array
record IsTable (s : List ℕ) (header : Header) (t : Tree) : Type 0 where
  pub pairs : Pairs
  pub end : ℕ
  pub is : t ≡ table pairs
  pub within : PairsUnfold s header.body header.size pairs end

table_there : (s : List ℕ) (p q : ℕ) (ps : Pairs) (x header : Header) → header_at s p ≡ Some x → PairsUnfold s x.body x.size ps q → header_at s p ≡ Some header → IsTable s header (table ps)
table_there s p q ps x header h a k = record { pairs = ps; end = q; is = refl; within = subst (λ (z : Header). PairsUnfold s z.body z.size ps q) (same_header s p x header h k) a }

table_behind : {s : List ℕ} {p q : ℕ} {t : Tree} → Unfolds s p t q → (header : Header) → header_at s p ≡ Some header → header.kind ≡ 7 → IsTable s header t
table_behind (scalar_here h a) header k e = no_content _ _ _ header _ h k a (no_content_7 _ header e)
table_behind (array_here h i a) header k e = kinds_differ _ _ 11 7 _ header h k i e refl
table_behind (table_here h i a) header k e = table_there _ _ _ _ _ header h a k
table_behind (pointer_here h i a u) header k e = kinds_differ _ _ 1 7 _ header h k i e refl

record IsArray (s : List ℕ) (header : Header) (t : Tree) : Type 0 where
  pub parts : Trees
  pub end : ℕ
  pub is : t ≡ array parts
  pub within : AllUnfold s header.body header.size parts end

array_there : (s : List ℕ) (p q : ℕ) (ts : Trees) (x header : Header) → header_at s p ≡ Some x → AllUnfold s x.body x.size ts q → header_at s p ≡ Some header → IsArray s header (array ts)
array_there s p q ts x header h a k = record { parts = ts; end = q; is = refl; within = subst (λ (z : Header). AllUnfold s z.body z.size ts q) (same_header s p x header h k) a }

array_behind : {s : List ℕ} {p q : ℕ} {t : Tree} → Unfolds s p t q → (header : Header) → header_at s p ≡ Some header → header.kind ≡ 11 → IsArray s header t
array_behind (scalar_here h a) header k e = no_content _ _ _ header _ h k a (no_content_11 _ header e)
array_behind (array_here h i a) header k e = array_there _ _ _ _ _ header h a k
array_behind (table_here h i a) header k e = kinds_differ _ _ 7 11 _ header h k i e refl
array_behind (pointer_here h i a u) header k e = kinds_differ _ _ 1 11 _ header h k i e refl

-- the header, directly or through one pointer
data HasDirect (s : List ℕ) (p : ℕ) (at : Direct) : Type 0 where
  direct_here : header_at s p ≡ Some at.header → nat_eq at.header.kind 1 ≡ false → at.after ≡ None → HasDirect s p at
  direct_behind : (header : Header) (to : Pointer) → header_at s p ≡ Some header → header.kind ≡ 1 → pointer_at s header.body header.size ≡ Some to → header_at s to.target ≡ Some at.header → nat_eq at.header.kind 1 ≡ false → at.after ≡ Some to.next → HasDirect s p at

behind_kind : (s : List ℕ) (p d : ℕ) (at : Direct) (header target : Header) (to : Pointer) (b : Bool) → header_at s p ≡ Some header → header.kind ≡ 1 → pointer_at s header.body header.size ≡ Some to → header_at s to.target ≡ Some target → nat_eq target.kind 1 ≡ b → cond b None (Some (record { header = target; after = Some to.next; levels = d })) ≡ Some at → HasDirect s p at
behind_kind s p d at header target to true h k a b e g = absurd (cc)
behind_kind s p d at header target to false h k a b e g =
    let same : ◌≡◌ {A = Direct} (record { header = target; after = Some to.next; levels = d }) at = same_some _ at g in
    subst (λ (z : Direct). HasDirect s p z) same (direct_behind header to h k a b e refl)

direct_kind : (s : List ℕ) (p d : ℕ) (at : Direct) (header : Header) (b : Bool) → header_at s p ≡ Some header → nat_eq header.kind 1 ≡ b → cond b (pointer_at s header.body header.size >>= behind s d) (Some (record { header = header; after = None; levels = d })) ≡ Some at → HasDirect s p at
unfolding behind
direct_kind s p d at header true h e g =
    let one : header.kind ≡ 1 = grind (arith, nat_tests) in
    let to = bind_some (pointer_at s header.body header.size) (behind s d) at g in
    let few = cond_some (nat_lt d most_levels) _ at to.2 in
    let target = bind_some (header_at s to.0.target) _ at few.1 in
    behind_kind s p (d + 1) at header target.0 to.0 (nat_eq target.0.kind 1) h one to.1 target.1 refl target.2
direct_kind s p d at header false h e g =
    let same : ◌≡◌ {A = Direct} (record { header = header; after = None; levels = d }) at = same_some _ at g in
    subst (λ (z : Direct). HasDirect s p z) same (direct_here h e refl)

has_direct : (s : List ℕ) (p d : ℕ) (at : Direct) → direct_at s p d ≡ Some at → HasDirect s p at
unfolding direct_at
has_direct s p d at h = let x = bind_some (header_at s p) _ at h in direct_kind s p d at x.0 (nat_eq x.0.kind 1) x.1 refl x.2

-- a header that is a pointer has one tree, and one that is none another
pointed : {P : Type 0} (s : List ℕ) (p n : ℕ) (x header : Header) → header_at s p ≡ Some x → x.kind ≡ n → nat_eq n 1 ≡ false → header_at s p ≡ Some header → header.kind ≡ 1 → P
pointed s p n x header h e f k one = kinds_differ s p n 1 x header h k e one f

ends_behind : (at : Direct) (to q e : ℕ) → at.after ≡ Some to → to ≡ q → end_of at e ≡ q
ends_behind at to q e h k = rw h k

ends_here : (at : Direct) (q : ℕ) → at.after ≡ None → end_of at q ≡ q
ends_here at q h = rw h refl

same_pointer : (s : List ℕ) (p : ℕ) (x header : Header) (a to : Pointer) → header_at s p ≡ Some x → header_at s p ≡ Some header → pointer_at s x.body x.size ≡ Some a → pointer_at s header.body header.size ≡ Some to → a ≡ to
same_pointer s p x header a to h k i j = same_held (pointer_at s header.body header.size) a to (subst (λ (z : Header). pointer_at s z.body z.size ≡ Some a) (same_header s p x header h k) i) j

behind_pointer : (s : List ℕ) (p e : ℕ) (t : Tree) (at : Direct) (x header : Header) (a to : Pointer) → header_at s p ≡ Some x → pointer_at s x.body x.size ≡ Some a → Unfolds s a.target t e → header_at s p ≡ Some header → pointer_at s header.body header.size ≡ Some to → header_at s to.target ≡ Some at.header → at.after ≡ Some to.next → Behind s at (pointer a.target t) a.next
behind_pointer s p e t at x header a to h i u k j g f =
    let same : a ≡ to = same_pointer s p x header a to h k i j in
    record {
      offset = to.target;
      end = e;
      header = g;
      unfolds = subst (λ (z : Pointer). Unfolds s z.target t e) same u;
      next = ends_behind at to.next a.next e f (ap (λ (z : Pointer). z.next) (sym same));
    }

is_behind : {s : List ℕ} {p q : ℕ} {u : Tree} → Unfolds s p u q → (at : Direct) → HasDirect s p at → Behind s at u q
is_behind (scalar_here h a) at (direct_here k n f) = record { offset = _; end = _; header = k; unfolds = scalar_here h a; next = ends_here at _ f }
is_behind (array_here h e a) at (direct_here k n f) = record { offset = _; end = _; header = k; unfolds = array_here h e a; next = ends_here at _ f }
is_behind (table_here h e a) at (direct_here k n f) = record { offset = _; end = _; header = k; unfolds = table_here h e a; next = ends_here at _ f }
is_behind (pointer_here h e a u) at (direct_here k n f) = let one : at.header.kind ≡ 1 = ap (λ (z : Header). z.kind) (same_header _ _ at.header _ k h) ∙ e in let yes : nat_eq at.header.kind 1 ≡ true = rw one refl in false_true (nat_eq at.header.kind 1) n yes
is_behind (scalar_here h a) at (direct_behind header to k one b g n f) = no_content _ _ _ header _ h k a (no_content_1 _ header one)
is_behind (array_here h e a) at (direct_behind header to k one b g n f) = pointed _ _ 11 _ header h e refl k one
is_behind (table_here h e a) at (direct_behind header to k one b g n f) = pointed _ _ 7 _ header h e refl k one
is_behind (pointer_here h e a u) at (direct_behind header to k one b g n f) = behind_pointer _ _ _ _ at _ header _ to h a u k b g f

what_is_behind : (s : List ℕ) (p d q : ℕ) (u : Tree) (at : Direct) → Unfolds s p u q → direct_at s p d ≡ Some at → Behind s at u q
what_is_behind s p d q u at a h = is_behind a at (has_direct s p d at h)

-- the keys of a map
key_of : (s : List ℕ) (p d q : ℕ) (k : Tree) (key : List ℕ) (x : Reading (List ℕ)) → Unfolds s p k q → raw_key_at s p d ≡ Some x → (is_spelled key (past_pointer k) ≡ named x.value key) × (x.next ≡ q)
key_of s p d q k key x a h =
    let at = bind_some (direct_at s p 0) _ x (sym (raw_key-at s p d) ∙ h) in
    let two = cond_some (nat_eq at.0.header.kind 2) _ x at.2 in
    let kind : at.0.header.kind ≡ 2 = let e = two.0 in grind (arith, nat_tests) in
    let y = bind_some (bytes_at s at.0.header.body at.0.header.size) _ x two.1 in
    let b = what_is_behind s p 0 q k at.0 a at.1 in
    let c = spelled_behind b.unfolds key y.0 at.0.header b.header kind y.1 in
    let r : key_reading y.0 (end_of at.0 (at.0.header.body + at.0.header.size)) ≡ x = same_some _ x y.2 in
    (c.0 ∙ ap (λ (z : Reading (List ℕ)). named z.value key) r, ap (λ (z : Reading (List ℕ)). z.next) (sym r) ∙ (ap (end_of at.0) (sym c.1) ∙ b.next))

abbrev pub with_key : List ℕ → ℕ → List ℕ → Meaning Bool
with_key key n k = if named k key then given true else followed skip_at (λ _. to_key key n)

module _ (s : List ℕ) (d : ℕ) (key : List ℕ) where
  key_here : (p q e n : ℕ) (k v : Tree) (ps : Pairs) (y r : Reading Bool) → is_spelled key (past_pointer k) ≡ true → Unfolds s q v e → given true s q d ≡ Some y → y.next ≡ r.next → Leads s (value_of key (pair k v ps)) r.next
  key_here p q e n k v ps y r t b h f =
      let start : q ≡ y.next = ap (λ (z : Reading Bool). z.next) (same_some (record { value = true; next = q; values = 0; bytes = 0 }) y h) in
      leads_from s (value_of key (pair k v ps)) q r.next (start ∙ f) (record { part = v; end = e; is = rw t refl; unfolds = b })

  key_later : (q o n : ℕ) (k v : Tree) (ps : Pairs) (y r : Reading Bool) → is_spelled key (past_pointer k) ≡ false → Unfolds s q v o → ((w : Reading Bool) → to_key key n s o d ≡ Some w → w.value ≡ true → Leads s (value_of key ps) w.next) → followed skip_at (λ _. to_key key n) s q d ≡ Some y → y.value ≡ true → y.next ≡ r.next → Leads s (value_of key (pair k v ps)) r.next
  key_later q o n k v ps y r t b rest h value f =
      let g = follows skip_at (λ _. to_key key n) s q d y h in
      let ends : g.first.next ≡ o = skip_ends s q d o v g.first b g.one in
      let there : to_key key n s o d ≡ Some g.second = subst (λ x. to_key key n s x d ≡ Some g.second) ends g.two in
      let found : g.second.value ≡ true = ap (λ (z : Reading Bool). z.value) g.same ∙ value in
      let leads = rest g.second there found in
      let next : g.second.next ≡ r.next = ap (λ (z : Reading Bool). z.next) g.same ∙ f in
      leads_from s (value_of key (pair k v ps)) g.second.next r.next next (record { part = leads.part; end = leads.end; is = rw t leads.is; unfolds = leads.unfolds })

  key_by : (b : Bool) (p q o n : ℕ) (k v : Tree) (ps : Pairs) (x : Reading (List ℕ)) (y r : Reading Bool) → named x.value key ≡ b → is_spelled key (past_pointer k) ≡ named x.value key → Unfolds s q v o → ((w : Reading Bool) → to_key key n s o d ≡ Some w → w.value ≡ true → Leads s (value_of key ps) w.next) → with_key key n x.value s q d ≡ Some y → y.value ≡ true → y.next ≡ r.next → Leads s (value_of key (pair k v ps)) r.next
  key_by true p q o n k v ps x y r e t b rest h value f = key_here p q o n k v ps y r (t ∙ e) b (subst (λ z. (if z then given true else followed skip_at (λ _. to_key key n)) s q d ≡ Some y) e h) f
  key_by false p q o n k v ps x y r e t b rest h value f = key_later q o n k v ps y r (t ∙ e) b rest (subst (λ z. (if z then given true else followed skip_at (λ _. to_key key n)) s q d ≡ Some y) e h) value f

  pair_leads : (p q o n e : ℕ) (k v : Tree) (ps : Pairs) (r : Reading Bool) → Unfolds s p k q → Unfolds s q v o → PairsUnfold s o n ps e → ((w : Reading Bool) → to_key key n s o d ≡ Some w → w.value ≡ true → Leads s (value_of key ps) w.next) → to_key key (suc n) s p d ≡ Some r → r.value ≡ true → Leads s (value_of key (pair k v ps)) r.next
  pair_leads p q o n e k v ps r a b c rest h value =
      let f = follows raw_key_at (with_key key n) s p d r h in
      let name = key_of s p d q k key f.first a f.one in
      let there : with_key key n f.first.value s q d ≡ Some f.second = subst (λ x. with_key key n f.first.value s x d ≡ Some f.second) name.1 f.two in
      key_by (named f.first.value key) p q o n k v ps f.first f.second r refl name.0 b rest there (ap (λ (z : Reading Bool). z.value) f.same ∙ value) (ap (λ (z : Reading Bool). z.next) f.same)

no_key_left : {P : Type 0} (s : List ℕ) (p d : ℕ) (r : Reading Bool) → given false s p d ≡ Some r → r.value ≡ true → P
no_key_left s p d r h value = false_true r.value (ap (λ (z : Reading Bool). z.value) (sym (same_some (record { value = false; next = p; values = 0; bytes = 0 }) r h))) value

keys_lead : {s : List ℕ} {p n q : ℕ} {ps : Pairs} → PairsUnfold s p n ps q → (d : ℕ) (key : List ℕ) (r : Reading Bool) → to_key key n s p d ≡ Some r → r.value ≡ true → Leads s (value_of key ps) r.next
keys_lead no_pairs_left d key r h value = no_key_left [] _ d r h value
keys_lead (one_more_pair a b c) d key r h value = pair_leads _ d key _ _ _ _ _ _ _ _ r a b c (λ w k t. keys_lead c d key w k t) h value

-- a container that is entered
entered : (kind : ℕ) (s : List ℕ) (p d : ℕ) (at : Entered) → container_at kind s p d ≡ Some at → (x : Direct) × (direct_at s p d ≡ Some x) × (x.header.kind ≡ kind) × (x.header.size ≡ at.count) × (x.header.body ≡ at.body)
unfolding container_at direct_of
entered kind s p d at h =
    let x = bind_some (direct_of kind s p d) _ at h in
    let y = bind_some (direct_at s p d) _ x.0 x.1 in
    let z = cond_some (nat_eq y.0.header.kind kind) _ x.0 y.2 in
    let same : y.0 ≡ x.0 = same_some y.0 x.0 z.1 in
    let is : y.0.header.kind ≡ kind = let e = z.0 in grind (arith, nat_tests) in
    let few = cond_some (nat_lt x.0.levels most_levels) _ at x.2 in
    let made : ◌≡◌ {A = Entered} (record { count = x.0.header.size; body = x.0.header.body; after = x.0.after; levels = x.0.levels + 1 }) at = same_some _ at few.1 in
    (y.0, y.1, is, ap (λ (w : Direct). w.header.size) same ∙ ap (λ (w : Entered). w.count) made, ap (λ (w : Direct). w.header.body) same ∙ ap (λ (w : Entered). w.body) made)

-- one step
map_leads : (key : List ℕ) (s : List ℕ) (p d q : ℕ) (u : Tree) (r : Reading Bool) → Unfolds s p u q → into_map (to_key key) s p d ≡ Some r → r.value ≡ true → (ps : Pairs) × (past_pointer u ≡ table ps) × Leads s (value_of key ps) r.next
unfolding into_map
map_leads key s p d q u r a h value =
    let at = bind_some (map_at s p d) _ r h in
    let x = bind_some (to_key key at.0.count s at.0.body at.0.levels) _ r at.2 in
    let same : inside_map at.0 x.0 ≡ r = same_some _ r x.2 in
    let e = entered 7 s p d at.0 at.1 in
    let b = what_is_behind s p d q u e.0 a e.1 in
    let t = table_behind b.unfolds e.0.header b.header e.2 in
    let counted : PairsUnfold s e.0.header.body at.0.count t.pairs t.end = subst (λ n. PairsUnfold s e.0.header.body n t.pairs t.end) e.3 t.within in
    let placed : PairsUnfold s at.0.body at.0.count t.pairs t.end = subst (λ n. PairsUnfold s n at.0.count t.pairs t.end) e.4 counted in
    let leads = keys_lead placed at.0.levels key x.0 x.1 (ap (λ (z : Reading Bool). z.value) same ∙ value) in
    (t.pairs, t.is, leads_from s (value_of key t.pairs) x.0.next r.next (ap (λ (z : Reading Bool). z.next) same) leads)

element_leads : (s : List ℕ) (p d m q : ℕ) (us : Trees) (o : Option ℕ) (r : Reading Bool) → AllUnfold s p m us q → ((n : ℕ) → o ≡ Some n → n < m) → to_element o s p d ≡ Some r → r.value ≡ true → Leads s (o >>= λ n. element_of n us) r.next
element_leads s p d m q us None r a few h value = no_key_left s p d r h value
element_leads s p d m q us (Some n) r a few h value =
    let x = bind_some (passes skip_at n s p d) _ r h in
    let same : ◌≡◌ {A = Reading Bool} (record { value = true; next = x.0.next; values = x.0.values; bytes = x.0.bytes }) r = same_some _ r x.2 in
    leads_from s (element_of n us) x.0.next r.next (ap (λ (z : Reading Bool). z.next) same) (elements_lead a n d x.0 (few n refl) x.1)

array_leads : (before : ℕ → Option ℕ) (s : List ℕ) (p d q : ℕ) (u : Tree) (r : Reading Bool) → ((m n : ℕ) → before m ≡ Some n → n < m) → Unfolds s p u q → into_array (λ count. to_element (before count)) s p d ≡ Some r → r.value ≡ true → (ts : Trees) × (past_pointer u ≡ array ts) × Leads s (before (count_of ts) >>= λ n. element_of n ts) r.next
unfolding into_array
array_leads before s p d q u r few a h value =
    let at = bind_some (array_at s p d) _ r h in
    let x = bind_some (to_element (before at.0.count) s at.0.body at.0.levels) _ r at.2 in
    let same : inside_array at.0 x.0 ≡ r = same_some _ r x.2 in
    let e = entered 11 s p d at.0 at.1 in
    let b = what_is_behind s p d q u e.0 a e.1 in
    let t = array_behind b.unfolds e.0.header b.header e.2 in
    let counted : AllUnfold s e.0.header.body at.0.count t.parts t.end = subst (λ n. AllUnfold s e.0.header.body n t.parts t.end) e.3 t.within in
    let placed : AllUnfold s at.0.body at.0.count t.parts t.end = subst (λ n. AllUnfold s n at.0.count t.parts t.end) e.4 counted in
    let leads = element_leads s at.0.body at.0.levels at.0.count t.end t.parts (before at.0.count) x.0 placed (few at.0.count) x.1 (ap (λ (z : Reading Bool). z.value) same ∙ value) in
    let there : Leads s (before (count_of t.parts) >>= λ n. element_of n t.parts) x.0.next = subst (λ m. Leads s (before m >>= λ n. element_of n t.parts) x.0.next) (sym (count_is placed)) leads in
    (t.parts, t.is, leads_from s (before (count_of t.parts) >>= λ n. element_of n t.parts) x.0.next r.next (ap (λ (z : Reading Bool). z.next) same) there)

front_few : (i m n : ℕ) → from_front i m ≡ Some n → n < m
front_few i m n h = let x = cond_some (nat_lt i m) (Some i) n h in let less = x.0 in let same : i ≡ n = same_some i n x.1 in grind (arith, nat_tests)

end_few : (i m n : ℕ) → from_end i m ≡ Some n → n < m
end_few i m n h = let x = cond_some (nat_lt i m) (Some (m - suc i)) n h in let less = x.0 in let same : m - suc i ≡ n = same_some (m - suc i) n x.1 in grind (arith, nat_tests)

is_inside : (e : PathElement) (t u : Tree) (s : List ℕ) (q : ℕ) → t ≡ u → Leads s (inside e u) q → Leads s (inside e t) q
is_inside e t u s q h k = subst (λ x. Leads s (inside e x) q) (sym h) k

step_leads : (e : PathElement) (s : List ℕ) (p d q : ℕ) (u : Tree) (r : Reading Bool) → Unfolds s p u q → at_step e s p d ≡ Some r → r.value ≡ true → Leads s (down e u) r.next
step_leads (Key key) s p d q u r a h value = let x = map_leads key.now s p d q u r a h value in is_inside (Key key) (past_pointer u) (table x.0) s r.next x.1 x.2
step_leads (Index i) s p d q u r a h value = let x = array_leads (from_front i) s p d q u r (front_few i) a h value in is_inside (Index i) (past_pointer u) (array x.0) s r.next x.1 x.2
step_leads (IndexFromEnd i) s p d q u r a h value = let x = array_leads (from_end i) s p d q u r (end_few i) a h value in is_inside (IndexFromEnd i) (past_pointer u) (array x.0) s r.next x.1 x.2

-- the whole path
rest_selected : (b : Bool) (path : List PathElement) (s : List ℕ) (p d : ℕ) (y : Reading Bool) → (if b then selected path else given false) s p d ≡ Some y → y.value ≡ true → (b ≡ true) × (selected path s p d ≡ Some y)
rest_selected true path s p d y h value = (refl, h)
rest_selected false path s p d y h value = no_key_left s p d y h value

pub path_leads : (path : List PathElement) (s : List ℕ) (p d q : ℕ) (u : Tree) (r : Reading Bool) → Unfolds s p u q → selected path s p d ≡ Some r → r.value ≡ true → Leads s (part_of path u) r.next
path_leads [] s p d q u r a h value = leads_from s (Some u) p r.next (ap (λ (z : Reading Bool). z.next) (same_some (record { value = true; next = p; values = 0; bytes = 0 }) r h)) (record { part = u; end = q; is = refl; unfolds = a })
path_leads (e ∷ path) s p d q u r a h value =
    let f = follows (at_step e) (λ there. if there then selected path else given false) s p d r h in
    let rest = rest_selected f.first.value path s f.first.next d f.second f.two (ap (λ (z : Reading Bool). z.value) f.same ∙ value) in
    let one = step_leads e s p d q u f.first a f.one rest.0 in
    let more = path_leads path s f.first.next d one.end one.part f.second one.unfolds rest.1 (ap (λ (z : Reading Bool). z.value) f.same ∙ value) in
    leads_from s (part_of (e ∷ path) u) f.second.next r.next (ap (λ (z : Reading Bool). z.next) f.same) (record { part = more.part; end = more.end; is = rw one.is more.is; unfolds = more.unfolds })

pub path_selects : PathSelects
path_selects path s p q u r a h value = let x = path_leads path s p 0 q u r a h value in (x.part, x.end, x.is, x.unfolds)

-- a step that leads nowhere
module _ (s : List ℕ) (d : ℕ) (key : List ℕ) where
  absent_by : (b : Bool) (q o n : ℕ) (k v : Tree) (ps : Pairs) (x : Reading (List ℕ)) (y : Reading Bool) → named x.value key ≡ b → is_spelled key (past_pointer k) ≡ named x.value key → Unfolds s q v o → ((w : Reading Bool) → to_key key n s o d ≡ Some w → w.value ≡ false → value_of key ps ≡ None) → with_key key n x.value s q d ≡ Some y → y.value ≡ false → value_of key (pair k v ps) ≡ None
  absent_by true q o n k v ps x y e t b rest h value =
      let there : given true s q d ≡ Some y = subst (λ z. (if z then given true else followed skip_at (λ _. to_key key n)) s q d ≡ Some y) e h in
      false_true y.value value (ap (λ (z : Reading Bool). z.value) (sym (same_some (record { value = true; next = q; values = 0; bytes = 0 }) y there)))
  absent_by false q o n k v ps x y e t b rest h value =
      let later : followed skip_at (λ _. to_key key n) s q d ≡ Some y = subst (λ z. (if z then given true else followed skip_at (λ _. to_key key n)) s q d ≡ Some y) e h in
      let g = follows skip_at (λ _. to_key key n) s q d y later in
      let ends : g.first.next ≡ o = skip_ends s q d o v g.first b g.one in
      let there : to_key key n s o d ≡ Some g.second = subst (λ x. to_key key n s x d ≡ Some g.second) ends g.two in
      rw (t ∙ e) (rest g.second there (ap (λ (z : Reading Bool). z.value) g.same ∙ value))

  pair_absent : (p q o n e : ℕ) (k v : Tree) (ps : Pairs) (r : Reading Bool) → Unfolds s p k q → Unfolds s q v o → PairsUnfold s o n ps e → ((w : Reading Bool) → to_key key n s o d ≡ Some w → w.value ≡ false → value_of key ps ≡ None) → to_key key (suc n) s p d ≡ Some r → r.value ≡ false → value_of key (pair k v ps) ≡ None
  pair_absent p q o n e k v ps r a b c rest h value =
      let f = follows raw_key_at (with_key key n) s p d r h in
      let name = key_of s p d q k key f.first a f.one in
      let there : with_key key n f.first.value s q d ≡ Some f.second = subst (λ x. with_key key n f.first.value s x d ≡ Some f.second) name.1 f.two in
      absent_by (named f.first.value key) q o n k v ps f.first f.second refl name.0 b rest there (ap (λ (z : Reading Bool). z.value) f.same ∙ value)

keys_absent : {s : List ℕ} {p n q : ℕ} {ps : Pairs} → PairsUnfold s p n ps q → (d : ℕ) (key : List ℕ) (r : Reading Bool) → to_key key n s p d ≡ Some r → r.value ≡ false → value_of key ps ≡ None
keys_absent no_pairs_left d key r h value = refl
keys_absent (one_more_pair a b c) d key r h value = pair_absent _ d key _ _ _ _ _ _ _ _ r a b c (λ w k t. keys_absent c d key w k t) h value

map_absent : (key : List ℕ) (s : List ℕ) (p d q : ℕ) (u : Tree) (r : Reading Bool) → Unfolds s p u q → into_map (to_key key) s p d ≡ Some r → r.value ≡ false → (ps : Pairs) × (past_pointer u ≡ table ps) × (value_of key ps ≡ None)
unfolding into_map
map_absent key s p d q u r a h value =
    let at = bind_some (map_at s p d) _ r h in
    let x = bind_some (to_key key at.0.count s at.0.body at.0.levels) _ r at.2 in
    let same : inside_map at.0 x.0 ≡ r = same_some _ r x.2 in
    let e = entered 7 s p d at.0 at.1 in
    let b = what_is_behind s p d q u e.0 a e.1 in
    let t = table_behind b.unfolds e.0.header b.header e.2 in
    let counted : PairsUnfold s e.0.header.body at.0.count t.pairs t.end = subst (λ n. PairsUnfold s e.0.header.body n t.pairs t.end) e.3 t.within in
    let placed : PairsUnfold s at.0.body at.0.count t.pairs t.end = subst (λ n. PairsUnfold s n at.0.count t.pairs t.end) e.4 counted in
    (t.pairs, t.is, keys_absent placed at.0.levels key x.0 x.1 (ap (λ (z : Reading Bool). z.value) same ∙ value))

element_absent : (s : List ℕ) (p d : ℕ) (us : Trees) (o : Option ℕ) (r : Reading Bool) → to_element o s p d ≡ Some r → r.value ≡ false → (o >>= λ n. element_of n us) ≡ None
element_absent s p d us None r h value = refl
element_absent s p d us (Some n) r h value =
    let x = bind_some (passes skip_at n s p d) _ r h in
    let same : ◌≡◌ {A = Reading Bool} (record { value = true; next = x.0.next; values = x.0.values; bytes = x.0.bytes }) r = same_some _ r x.2 in
    false_true r.value value (ap (λ (z : Reading Bool). z.value) (sym same))

array_absent : (before : ℕ → Option ℕ) (s : List ℕ) (p d q : ℕ) (u : Tree) (r : Reading Bool) → Unfolds s p u q → into_array (λ count. to_element (before count)) s p d ≡ Some r → r.value ≡ false → (ts : Trees) × (past_pointer u ≡ array ts) × ((before (count_of ts) >>= λ n. element_of n ts) ≡ None)
unfolding into_array
array_absent before s p d q u r a h value =
    let at = bind_some (array_at s p d) _ r h in
    let x = bind_some (to_element (before at.0.count) s at.0.body at.0.levels) _ r at.2 in
    let same : inside_array at.0 x.0 ≡ r = same_some _ r x.2 in
    let e = entered 11 s p d at.0 at.1 in
    let b = what_is_behind s p d q u e.0 a e.1 in
    let t = array_behind b.unfolds e.0.header b.header e.2 in
    let counted : AllUnfold s e.0.header.body at.0.count t.parts t.end = subst (λ n. AllUnfold s e.0.header.body n t.parts t.end) e.3 t.within in
    let none = element_absent s at.0.body at.0.levels t.parts (before at.0.count) x.0 x.1 (ap (λ (z : Reading Bool). z.value) same ∙ value) in
    (t.parts, t.is, subst (λ m. (before m >>= λ n. element_of n t.parts) ≡ None) (sym (count_is counted)) none)

none_inside : (e : PathElement) (t u : Tree) → t ≡ u → inside e u ≡ None → inside e t ≡ None
none_inside e t u h k = subst (λ x. inside e x ≡ None) (sym h) k

step_absent : (e : PathElement) (s : List ℕ) (p d q : ℕ) (u : Tree) (r : Reading Bool) → Unfolds s p u q → at_step e s p d ≡ Some r → r.value ≡ false → down e u ≡ None
step_absent (Key key) s p d q u r a h value = let x = map_absent key.now s p d q u r a h value in none_inside (Key key) (past_pointer u) (table x.0) x.1 x.2
step_absent (Index i) s p d q u r a h value = let x = array_absent (from_front i) s p d q u r a h value in none_inside (Index i) (past_pointer u) (array x.0) x.1 x.2
step_absent (IndexFromEnd i) s p d q u r a h value = let x = array_absent (from_end i) s p d q u r a h value in none_inside (IndexFromEnd i) (past_pointer u) (array x.0) x.1 x.2

rest_absent : (b : Bool) (e : PathElement) (path : List PathElement) (s : List ℕ) (p d q : ℕ) (u : Tree) (x y : Reading Bool) → ((p q : ℕ) (u : Tree) → Unfolds s p u q → selected path s p d ≡ Some y → part_of path u ≡ None) → Unfolds s p u q → at_step e s p d ≡ Some x → x.value ≡ b → (if b then selected path else given false) s x.next d ≡ Some y → part_of (e ∷ path) u ≡ None
rest_absent true e path s p d q u x y rest a h t k =
    let one = step_leads e s p d q u x a h t in
    rw one.is (rest x.next one.end one.part one.unfolds k)
rest_absent false e path s p d q u x y rest a h t k = rw (step_absent e s p d q u x a h t) refl

path_absent : (path : List PathElement) (s : List ℕ) (p d q : ℕ) (u : Tree) (r : Reading Bool) → Unfolds s p u q → selected path s p d ≡ Some r → r.value ≡ false → part_of path u ≡ None
path_absent [] s p d q u r a h value = false_true r.value value (ap (λ (z : Reading Bool). z.value) (sym (same_some (record { value = true; next = p; values = 0; bytes = 0 }) r h)))
path_absent (e ∷ path) s p d q u r a h value =
    let f = follows (at_step e) (λ there. if there then selected path else given false) s p d r h in
    let absent : f.second.value ≡ false = ap (λ (z : Reading Bool). z.value) f.same ∙ value in
    rest_absent f.first.value e path s p d q u f.first f.second (λ o n t b k. path_absent path s o d n t f.second b k absent) a f.one refl f.two

pub path_leads_nowhere : PathLeadsNowhere
path_leads_nowhere path s p q u r a h value = path_absent path s p 0 q u r a h value
