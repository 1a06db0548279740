-- The relation of where a path leads, and the function that says it.
use Rattle.std.proofs.Common.{◌≡◌, Bor, ℕ, suc, zero, ◌+◌, ◌-◌, ◌*◌, ◌<◌, ◌≤◌, max, List, [], ◌∷◌, length, Option, Some, None, Bool, true, false, cond, nat_eq, nat_lt, refl, sym, ap, ◌∙◌, arith, subst, if◌then◌else◌}
use Rattle.std.proofs.lemmas.Bool.Decides.{nat_tests}
use Rattle.std.proofs.lemmas.Slice.Eq.{bytes_eq-Decides}
use Rattle.mmdb_format.specs.declared.header.Direct.{Direct}
use Rattle.mmdb_format.specs.Contents.{text, end_of}
use Rattle.mmdb_format.specs.Header.{◌>>=◌, bytes_at}
use Rattle.mmdb_format.specs.Pointer.{direct_at}
use Rattle.mmdb_decode.specs.declared.direct.Entered.{Entered}
use Rattle.mmdb_decode.specs.Arrays.{array_at}
use Rattle.mmdb_decode.specs.Errors.{answer}
use Rattle.mmdb_decode.specs.Maps.{map_at, raw_key_at}
use Rattle.mmdb_decode.specs.Names.{named}
use Rattle.mmdb_decode.specs.Reading.{Reading, Meaning, plus, given, followed}
use Rattle.mmdb_decode.specs.ScalarReads.{ScalarStands}
use Rattle.mmdb_decode.specs.Scalars.{direct_of}
use Rattle.mmdb_decode.specs.Selecting.{inside_map, inside_array, into_map, into_array, to_key, to_element, from_front, from_end}
use Rattle.mmdb_decode.specs.Skipping.{most_nested, passes, skip_at, none_passed, one_more_passed}
use Rattle.mmdb_decode.specs.State.{most_values, most_bytes}
use Rattle.mmdb_decode.proofs.ContentLaws.{content_is, text_content}
use Rattle.mmdb_decode.proofs.DirectLaws.{typed, typed_sound, typed_complete}
use Rattle.mmdb_decode.proofs.KeyLaws.{key_reading, raw_key-at}
use Rattle.mmdb_decode.proofs.Options.{if_is}
use Rattle.mmdb_decode.proofs.PassingLaws.{is_skipped, are_skipped, skipping-is_passing}
use Rattle.mmdb_decode.proofs.ScalarLaws.{after_bytes, end_not_bool}
use Rattle.mmdb_record.specs.Limits.{IsWithinLimits}
use Rattle.mmdb_record.specs.TypedReads.{ContainerStands}
use Rattle.mmdb_record.proofs.ContainerLaws.{container_sound, container_complete}
use Rattle.mmdb_record.proofs.LimitLaws.{answer_within, within_answer}
use Rattle.mmdb_reader.proofs.PartLemmas.{bind_some, same_some, follows, with_key}
use Rattle.mmdb_reader.specs.Selecting.{at_step, selected, read_there, read_along}
use Rattle.mmdb_reader.specs.Ways.{KeyStands, IsPassed, ArePassed, FirstPair, no_pair_has_it, this_pair_has_it, a_later_pair, StepLeads, to_value, to_element as to_its_element, past_elements, to_element_from_end, before_elements, PathLeads, is_there, goes_on, leads_nowhere, led_to, SelectingIsLeading, OneWayLeads, ReadsAlong, reads_nothing, reads_there, AnswersAreReadAlong}
use Rattle.mmdb_reader.specs.declared.path.PathElement.{PathElement}
use Rattle.mmdb_reader.specs.declared.path.PathElement.TheVariants.{Key, Index, IndexFromEnd}

-- a reading of a way, and where it led at which cost
abbrev Led : Option (Reading Bool) → Option ℕ → ℕ → ℕ → Type 0
Led o to c b = (r : Reading Bool) × (o ≡ Some r) × (led_to r ≡ to) × (r.values ≡ c) × (r.bytes ≡ b)

abbrev way : Bool → ℕ → ℕ → ℕ → Reading Bool
way v q c b = record { value = v; next = q; values = c; bytes = b }

led_by : (b : Bool) (x q : ℕ) → (if b then Some x else None) ≡ Some q → (b ≡ true) × (x ≡ q)
led_by true x q h = (refl, same_some x q h)
led_by false x q h = absurd (cc)

led_nowhere : (b : Bool) (x : ℕ) → ◌≡◌ {A = Option ℕ} (if b then Some x else None) None → b ≡ false
led_nowhere true x h = absurd (cc)
led_nowhere false x h = refl

-- keys
key_kind : (s : List ℕ) (x : Direct) (b : Bool) → cond b (bytes_at s x.header.body x.header.size >>= λ y. Some (key_reading y (end_of x (x.header.body + x.header.size)))) None ≡ (cond b (Some x) None >>= λ at. bytes_at s at.header.body at.header.size >>= λ y. Some (key_reading y (end_of at (after_bytes at.header))))
key_kind s x true = refl
key_kind s x false = refl

key_direct : (s : List ℕ) (o : Option Direct) → (o >>= λ x. cond (nat_eq x.header.kind 2) (bytes_at s x.header.body x.header.size >>= λ y. Some (key_reading y (end_of x (x.header.body + x.header.size)))) None) ≡ ((o >>= λ x. cond (nat_eq x.header.kind 2) (Some x) None) >>= λ at. bytes_at s at.header.body at.header.size >>= λ y. Some (key_reading y (end_of at (after_bytes at.header))))
key_direct s None = refl
key_direct s (Some x) = key_kind s x (nat_eq x.header.kind 2)

key_typed : (s : List ℕ) (p d : ℕ) → raw_key_at s p d ≡ typed 2 (λ header. bytes_at s header.body header.size) after_bytes length s p 0
unfolding direct_of
key_typed s p d = raw_key-at s p d ∙ key_direct s (direct_at s p 0)

key_sound : (s : List ℕ) (p d : ℕ) (x : Reading (List ℕ)) → raw_key_at s p d ≡ Some x → KeyStands s p x.value x.next × (x.values ≡ 0) × (x.bytes ≡ length x.value)
key_sound s p d x h =
    if_is (typed 2 (λ header. bytes_at s header.body header.size) after_bytes length s p 0) (λ r. ScalarStands s p 0 (text r.value) r.next × (r.values ≡ 0) × (r.bytes ≡ length r.value)) x
    (typed_sound 2 (λ header. bytes_at s header.body header.size) after_bytes length text s (text_content s) (λ header. end_not_bool header 2 refl) p 0)
    (sym (key_typed s p d) ∙ h)

key_complete : (s : List ℕ) (p d : ℕ) (key : List ℕ) (q : ℕ) → KeyStands s p key q → raw_key_at s p d ≡ Some (key_reading key q)
key_complete s p d key q h =
    let w = typed_complete 2 (λ header. bytes_at s header.body header.size) after_bytes length s (text key) (λ v. v ≡ key) refl (λ header k. let g = content_is s header (text key) k in (key, g.0, g.1, refl)) (λ header. end_not_bool header 2 refl) p 0 q h in
    key_typed s p d ∙ (w.2 ∙ ap (λ v. Some (key_reading v q)) w.1)

named_is : (name key : List ℕ) → named name key ≡ true → name ≡ key
unfolding named
named_is name key h = (bytes_eq-Decides name key).0 h

named_itself : (key : List ℕ) → named key key ≡ true
unfolding named
named_itself key = (bytes_eq-Decides key key).1 refl

not_both : (b : Bool) → b ≡ false → b ≡ true → ⊥
not_both true h k = let e : true ≡ false = h in absurd (cc)
not_both false h k = let e : false ≡ true = k in absurd (cc)

other_name : (name key : List ℕ) → named name key ≡ false → name ≡ key → ⊥
other_name name key h e = not_both (named name key) h (subst (λ x. named name x ≡ true) e (named_itself name))

named_other : (b : Bool) (name key : List ℕ) → named name key ≡ b → (name ≡ key → ⊥) → b ≡ false
named_other true name key e n = absurd (n (named_is name key e))
named_other false name key e n = refl

-- values that are passed
abbrev behind : ℕ → ℕ → Reading (Unit {0})
behind q c = record { value = tt; next = q; values = c; bytes = 0 }

value_passed : (s : List ℕ) (p d : ℕ) (r : Reading (Unit {0})) → skip_at s p d ≡ Some r → IsPassed s p r.values r.next × (r.bytes ≡ 0)
value_passed s p d r h = let x = (skipping-is_passing s p d r.next r.values r.bytes).0 h in ((x.0, x.1, x.2), x.3)

passed_value : (s : List ℕ) (p d c q : ℕ) → IsPassed s p c q → skip_at s p d ≡ Some (behind q c)
passed_value s p d c q h = is_skipped h.1 most_nested d h.2

one_more : (s : List ℕ) (p n q r c m : ℕ) → IsPassed s p c q → ArePassed s q n m r → ArePassed s p (suc n) (c + m) r
one_more s p n q r c m a b = (max a.0 b.0, one_more_passed a.1 b.1, omega (arith, a.2, b.2))

values_passed : (s : List ℕ) (n p d : ℕ) (r : Reading (Unit {0})) → passes skip_at n s p d ≡ Some r → ArePassed s p n r.values r.next × (r.bytes ≡ 0)
values_passed s zero p d r h =
    let same = same_some (behind p 0) r h in
    subst (λ (z : Reading (Unit {0})). ArePassed s p zero z.values z.next × (z.bytes ≡ 0)) same ((0, none_passed, omega arith), refl)
values_passed s (suc n) p d r h =
    let f = follows skip_at (λ _. passes skip_at n) s p d r h in
    let one = value_passed s p d f.first f.one in
    let rest = values_passed s n f.first.next d f.second f.two in
    subst (λ (z : Reading (Unit {0})). ArePassed s p (suc n) z.values z.next × (z.bytes ≡ 0)) f.same (one_more s p n f.first.next f.second.next f.first.values f.second.values one.0 rest.0, omega (arith, one.1, rest.1))

passed_values : (s : List ℕ) (n p d c q : ℕ) → ArePassed s p n c q → passes skip_at n s p d ≡ Some (behind q c)
passed_values s n p d c q h = are_skipped h.1 most_nested d h.2

-- the first pair with a key
module _ (s : List ℕ) (key : List ℕ) where
  first_is : (p n c m b e : ℕ) (to too : Option ℕ) → to ≡ too → c ≡ m → b ≡ e → FirstPair s key p n to c b → FirstPair s key p n too m e
  first_is p n c m b e to too f g h k = rw (← f, ← g, ← h) k

  first_later : (p d n : ℕ) (x : Reading (List ℕ)) (y : Reading Bool) → named x.value key ≡ false → KeyStands s p x.value x.next → x.values ≡ 0 → x.bytes ≡ length x.value → ((q : ℕ) (w : Reading Bool) → to_key key n s q d ≡ Some w → FirstPair s key q n (led_to w) w.values w.bytes) → followed skip_at (λ _. to_key key n) s x.next d ≡ Some y → FirstPair s key p (suc n) (led_to y) (x.values + y.values) (x.bytes + y.bytes)
  first_later p d n x y other stands none bytes rest h =
      let g = follows skip_at (λ _. to_key key n) s x.next d y h in
      let one = value_passed s x.next d g.first g.one in
      let there = a_later_pair stands (other_name x.value key other) one.0 (rest g.first.next g.second g.two) in
      subst (λ (z : Reading Bool). FirstPair s key p (suc n) (led_to z) (x.values + z.values) (x.bytes + z.bytes)) g.same
      (first_is p (suc n) (g.first.values + g.second.values) (x.values + (g.first.values + g.second.values)) (length x.value + g.second.bytes) (x.bytes + (g.first.bytes + g.second.bytes)) (led_to g.second) (led_to g.second) refl (omega (arith, none)) (omega (arith, bytes, one.1)) there)

  first_here : (p d n : ℕ) (x : Reading (List ℕ)) (y : Reading Bool) → named x.value key ≡ true → KeyStands s p x.value x.next → x.values ≡ 0 → x.bytes ≡ length x.value → given true s x.next d ≡ Some y → FirstPair s key p (suc n) (led_to y) (x.values + y.values) (x.bytes + y.bytes)
  first_here p d n x y same stands none bytes h =
      let is = named_is x.value key same in
      let there : FirstPair s key p (suc n) (Some x.next) 0 (length key) = this_pair_has_it (subst (λ z. KeyStands s p z x.next) is stands) in
      let long : length x.value ≡ length key = ap (λ z. length z) is in
      subst (λ (z : Reading Bool). FirstPair s key p (suc n) (led_to z) (x.values + z.values) (x.bytes + z.bytes)) (same_some (way true x.next 0 0) y h)
      (first_is p (suc n) 0 (x.values + 0) (length key) (x.bytes + 0) (Some x.next) (Some x.next) refl (omega (arith, none)) (omega (arith, bytes, long)) there)

  first_by : (b : Bool) (p d n : ℕ) (x : Reading (List ℕ)) (y : Reading Bool) → named x.value key ≡ b → KeyStands s p x.value x.next → x.values ≡ 0 → x.bytes ≡ length x.value → ((q : ℕ) (w : Reading Bool) → to_key key n s q d ≡ Some w → FirstPair s key q n (led_to w) w.values w.bytes) → with_key key n x.value s x.next d ≡ Some y → FirstPair s key p (suc n) (led_to y) (x.values + y.values) (x.bytes + y.bytes)
  first_by true p d n x y e stands none bytes rest h = first_here p d n x y e stands none bytes (subst (λ z. (if z then given true else followed skip_at (λ _. to_key key n)) s x.next d ≡ Some y) e h)
  first_by false p d n x y e stands none bytes rest h = first_later p d n x y e stands none bytes rest (subst (λ z. (if z then given true else followed skip_at (λ _. to_key key n)) s x.next d ≡ Some y) e h)

  first_sound : (n p d : ℕ) (r : Reading Bool) → to_key key n s p d ≡ Some r → FirstPair s key p n (led_to r) r.values r.bytes
  first_sound zero p d r h = subst (λ (z : Reading Bool). FirstPair s key p zero (led_to z) z.values z.bytes) (same_some (way false p 0 0) r h) no_pair_has_it
  first_sound (suc n) p d r h =
      let f = follows raw_key_at (with_key key n) s p d r h in
      let k = key_sound s p d f.first f.one in
      subst (λ (z : Reading Bool). FirstPair s key p (suc n) (led_to z) z.values z.bytes) f.same
      (first_by (named f.first.value key) p d n f.first f.second refl k.0 k.1 k.2 (λ q w i. first_sound n q d w i) f.two)

  this_complete : (p q n d : ℕ) → KeyStands s p key q → Led (to_key key (suc n) s p d) (Some q) 0 (length key)
  this_complete p q n d k = (way true q 0 (length key + 0), rw (key_complete s p d key q k, named_itself key) refl, refl, refl, omega arith)

  later_complete : (p q o n m c b d : ℕ) (other : List ℕ) (to : Option ℕ) → KeyStands s p other q → (other ≡ key → ⊥) → IsPassed s q m o → Led (to_key key n s o d) to c b → Led (to_key key (suc n) s p d) to (m + c) (length other + b)
  later_complete p q o n m c b d other to k different passed rest =
      let no : named other key ≡ false = named_other (named other key) other key refl different in
      (plus (key_reading other q) (plus (behind o m) rest.0), rw (key_complete s p d other q k, no, passed_value s q d m o passed, rest.1) refl, rest.2, omega (arith, rest.3), omega (arith, rest.4))

  first_complete : {p n c b : ℕ} {to : Option ℕ} → FirstPair s key p n to c b → (d : ℕ) → Led (to_key key n s p d) to c b
  first_complete {p = p} no_pair_has_it d = (way false p 0 0, refl, refl, refl, refl)
  first_complete (this_pair_has_it k) d = this_complete _ _ _ d k
  first_complete (a_later_pair k different passed rest) d = later_complete _ _ _ _ _ _ _ d _ _ k different passed (first_complete rest d)

-- one step
abbrev Steps : List ℕ → ℕ → ℕ → PathElement → Reading Bool → Type 0
Steps s p d e r = StepLeads s p d e (led_to r) r.values r.bytes

map_sound : (key : Bor (List ℕ)) (s : List ℕ) (p d : ℕ) (r : Reading Bool) → into_map (to_key key.now) s p d ≡ Some r → Steps s p d (Key key) r
unfolding into_map
map_sound key s p d r h =
    let at = bind_some (map_at s p d) _ r h in
    let x = bind_some (to_key key.now at.0.count s at.0.body at.0.levels) _ r at.2 in
    let stands = if_is (map_at s p d) (ContainerStands 7 s p d) at.0 (container_sound 7 s p d) at.1 in
    subst (λ (z : Reading Bool). Steps s p d (Key key) z) (same_some (inside_map at.0 x.0) r x.2)
    (to_value {map = at.0} stands (first_sound s key.now at.0.count at.0.body at.0.levels x.0 x.1))

map_complete : (key : List ℕ) (s : List ℕ) (p d c b : ℕ) (map : Entered) (to : Option ℕ) → ContainerStands 7 s p d map → FirstPair s key map.body map.count to c b → Led (into_map (to_key key) s p d) to (2 * map.count + c) b
unfolding into_map
map_complete key s p d c b map to stands first =
    let f = first_complete s key first map.levels in
    (inside_map map f.0, rw (container_complete 7 s p d map refl stands, f.1) refl, f.2, ap (λ z. 2 * map.count + z) f.3, f.4)

-- the element before which this many come, or none
abbrev Element : List ℕ → Entered → Reading Bool → Option ℕ → Type 0
Element s array r None = (led_to r ≡ None) × (r.values ≡ array.count) × (r.bytes ≡ 0)
Element s array r (Some n) = (c : ℕ) × (q : ℕ) × ArePassed s array.body n c q × (led_to r ≡ Some q) × (r.values ≡ array.count + c) × (r.bytes ≡ 0)

element_sound : (s : List ℕ) (array : Entered) (o : Option ℕ) (r : Reading Bool) → to_element o s array.body array.levels ≡ Some r → Element s array (inside_array array r) o
element_sound s array None r h =
    subst (λ (z : Reading Bool). Element s array (inside_array array z) None) (same_some (way false array.body 0 0) r h) (refl, omega arith, refl)
element_sound s array (Some n) r h =
    let x = bind_some (passes skip_at n s array.body array.levels) _ r h in
    let a = values_passed s n array.body array.levels x.0 x.1 in
    subst (λ (z : Reading Bool). Element s array (inside_array array z) (Some n)) (same_some (way true x.0.next x.0.values x.0.bytes) r x.2) (x.0.values, x.0.next, a.0, refl, refl, a.1)

array_sound : (before : ℕ → Option ℕ) (s : List ℕ) (p d : ℕ) (r : Reading Bool) → into_array (λ count. to_element (before count)) s p d ≡ Some r → (array : Entered) × ContainerStands 11 s p d array × Element s array r (before array.count)
unfolding into_array
array_sound before s p d r h =
    let at = bind_some (array_at s p d) _ r h in
    let x = bind_some (to_element (before at.0.count) s at.0.body at.0.levels) _ r at.2 in
    let stands = if_is (array_at s p d) (ContainerStands 11 s p d) at.0 (container_sound 11 s p d) at.1 in
    (at.0, stands, subst (λ (z : Reading Bool). Element s at.0 z (before at.0.count)) (same_some (inside_array at.0 x.0) r x.2) (element_sound s at.0 (before at.0.count) x.0 x.1))

steps_are : (s : List ℕ) (p d c b : ℕ) (e : PathElement) (to : Option ℕ) (r : Reading Bool) → led_to r ≡ to → r.values ≡ c → r.bytes ≡ b → StepLeads s p d e to c b → Steps s p d e r
steps_are s p d c b e to r f g h k = rw (f, g, h) k

front_sound : (b : Bool) (s : List ℕ) (p d i : ℕ) (array : Entered) (r : Reading Bool) → nat_lt i array.count ≡ b → ContainerStands 11 s p d array → Element s array r (if b then Some i else None) → Steps s p d (Index i) r
front_sound true s p d i array r e stands h = steps_are s p d (array.count + h.0) 0 (Index i) (Some h.1) r h.3 h.4 h.5 (to_its_element {array = array} stands (grind (arith, nat_tests)) h.2)
front_sound false s p d i array r e stands h = steps_are s p d array.count 0 (Index i) None r h.0 h.1 h.2 (past_elements {array = array} stands (grind (arith, nat_tests)))

end_sound : (b : Bool) (s : List ℕ) (p d i : ℕ) (array : Entered) (r : Reading Bool) → nat_lt i array.count ≡ b → ContainerStands 11 s p d array → Element s array r (if b then Some (array.count - suc i) else None) → Steps s p d (IndexFromEnd i) r
end_sound true s p d i array r e stands h =
    let less : i < array.count = grind (arith, nat_tests) in
    steps_are s p d (array.count + h.0) 0 (IndexFromEnd i) (Some h.1) r h.3 h.4 h.5 (to_element_from_end {n = array.count - suc i} {array = array} stands (omega (arith, less)) h.2)
end_sound false s p d i array r e stands h = steps_are s p d array.count 0 (IndexFromEnd i) None r h.0 h.1 h.2 (before_elements {array = array} stands (grind (arith, nat_tests)))

element_complete : (before : ℕ → Option ℕ) (s : List ℕ) (p d n c q : ℕ) (array : Entered) → before array.count ≡ Some n → ContainerStands 11 s p d array → ArePassed s array.body n c q → Led (into_array (λ count. to_element (before count)) s p d) (Some q) (array.count + c) 0
unfolding into_array
element_complete before s p d n c q array e stands passed = (inside_array array (way true q c 0), rw (container_complete 11 s p d array refl stands, e, passed_values s n array.body array.levels c q passed) refl, refl, refl, refl)

none_complete : (before : ℕ → Option ℕ) (s : List ℕ) (p d : ℕ) (array : Entered) → before array.count ≡ None → ContainerStands 11 s p d array → Led (into_array (λ count. to_element (before count)) s p d) None array.count 0
unfolding into_array
none_complete before s p d array e stands = (inside_array array (way false array.body 0 0), rw (container_complete 11 s p d array refl stands, e) refl, refl, omega arith, refl)

front_there : (i count : ℕ) → i < count → from_front i count ≡ Some i
front_there i count l = let t : nat_lt i count ≡ true = grind (arith, nat_tests) in rw t refl

front_past : (i count : ℕ) → count ≤ i → from_front i count ≡ None
front_past i count l = let t : nat_lt i count ≡ false = grind (arith, nat_tests) in rw t refl

end_there : (i n count : ℕ) → n + suc i ≡ count → from_end i count ≡ Some n
end_there i n count e =
    let t : nat_lt i count ≡ true = grind (arith, nat_tests) in
    let f : count - suc i ≡ n = omega (arith, e) in
    rw (t, f) refl

end_past : (i count : ℕ) → count ≤ i → from_end i count ≡ None
end_past i count l = let t : nat_lt i count ≡ false = grind (arith, nat_tests) in rw t refl

step_sound : (e : PathElement) (s : List ℕ) (p d : ℕ) (r : Reading Bool) → at_step e s p d ≡ Some r → Steps s p d e r
step_sound (Key key) s p d r h = map_sound key s p d r h
step_sound (Index i) s p d r h = let x = array_sound (from_front i) s p d r h in front_sound (nat_lt i x.0.count) s p d i x.0 r refl x.1 x.2
step_sound (IndexFromEnd i) s p d r h = let x = array_sound (from_end i) s p d r h in end_sound (nat_lt i x.0.count) s p d i x.0 r refl x.1 x.2

step_complete : {s : List ℕ} {p d c b : ℕ} {e : PathElement} {to : Option ℕ} → StepLeads s p d e to c b → Led (at_step e s p d) to c b
step_complete (to_value {key = key} {map = map} stands first) = map_complete key.now _ _ _ _ _ map _ stands first
step_complete (to_its_element {i = i} {array = array} stands less passed) = element_complete (from_front i) _ _ _ i _ _ array (front_there i array.count less) stands passed
step_complete (past_elements {i = i} {array = array} stands less) = none_complete (from_front i) _ _ _ array (front_past i array.count less) stands
step_complete (to_element_from_end {i = i} {n = n} {array = array} stands e passed) = element_complete (from_end i) _ _ _ n _ _ array (end_there i n array.count e) stands passed
step_complete (before_elements {i = i} {array = array} stands less) = none_complete (from_end i) _ _ _ array (end_past i array.count less) stands

-- the whole path
abbrev rest_of : List PathElement → Bool → Meaning Bool
rest_of path there = if there then selected path else given false

goes_nowhere : (s : List ℕ) (p d : ℕ) (e : PathElement) (path : List PathElement) (x y : Reading Bool) → led_to x ≡ None → Steps s p d e x → given false s x.next d ≡ Some y → PathLeads s d (e ∷ path) p (led_to y) (x.values + y.values) (x.bytes + y.bytes)
goes_nowhere s p d e path x y none one h =
    let there : StepLeads s p d e None x.values x.bytes = subst (λ z. StepLeads s p d e z x.values x.bytes) none one in
    let c : x.values ≡ x.values + 0 = omega arith in
    let b : x.bytes ≡ x.bytes + 0 = omega arith in
    let so : PathLeads s d (e ∷ path) p None (x.values + 0) (x.bytes + 0) = subst (λ z. PathLeads s d (e ∷ path) p None (x.values + 0) z) b (subst (λ z. PathLeads s d (e ∷ path) p None z x.bytes) c (leads_nowhere there)) in
    subst (λ (z : Reading Bool). PathLeads s d (e ∷ path) p (led_to z) (x.values + z.values) (x.bytes + z.bytes)) (same_some (way false x.next 0 0) y h) so

path_by : (v : Bool) (s : List ℕ) (p d : ℕ) (e : PathElement) (path : List PathElement) (x y : Reading Bool) → x.value ≡ v → Steps s p d e x → ((q : ℕ) (w : Reading Bool) → selected path s q d ≡ Some w → PathLeads s d path q (led_to w) w.values w.bytes) → rest_of path v s x.next d ≡ Some y → PathLeads s d (e ∷ path) p (led_to y) (x.values + y.values) (x.bytes + y.bytes)
path_by true s p d e path x y v one rest h =
    let led : led_to x ≡ Some x.next = ap (λ z. if z then Some x.next else None) v in
    goes_on (subst (λ z. StepLeads s p d e z x.values x.bytes) led one) (rest x.next y h)
path_by false s p d e path x y v one rest h =
    let led : led_to x ≡ None = ap (λ z. if z then Some x.next else None) v in
    goes_nowhere s p d e path x y led one h

path_sound : (path : List PathElement) (s : List ℕ) (p d : ℕ) (r : Reading Bool) → selected path s p d ≡ Some r → PathLeads s d path p (led_to r) r.values r.bytes
path_sound [] s p d r h = subst (λ (z : Reading Bool). PathLeads s d [] p (led_to z) z.values z.bytes) (same_some (way true p 0 0) r h) is_there
path_sound (e ∷ path) s p d r h =
    let f = follows (at_step e) (rest_of path) s p d r h in
    subst (λ (z : Reading Bool). PathLeads s d (e ∷ path) p (led_to z) z.values z.bytes) f.same
    (path_by f.first.value s p d e path f.first f.second refl (step_sound e s p d f.first f.one) (λ q w k. path_sound path s q d w k) f.two)

on_complete : (s : List ℕ) (p d q c b m n : ℕ) (e : PathElement) (path : List PathElement) (to : Option ℕ) → Led (at_step e s p d) (Some q) c b → Led (selected path s q d) to m n → Led (selected (e ∷ path) s p d) to (c + m) (b + n)
on_complete s p d q c b m n e path to one rest =
    let led = led_by one.0.value one.0.next q one.2 in
    (plus one.0 rest.0, rw (one.1, led.0, led.1, rest.1) refl, rest.2, omega (arith, one.3, rest.3), omega (arith, one.4, rest.4))

nowhere_complete : (s : List ℕ) (p d c b : ℕ) (e : PathElement) (path : List PathElement) → Led (at_step e s p d) None c b → Led (selected (e ∷ path) s p d) None c b
nowhere_complete s p d c b e path one =
    let led = led_nowhere one.0.value one.0.next one.2 in
    (way false one.0.next (one.0.values + 0) (one.0.bytes + 0), rw (one.1, led) refl, refl, omega (arith, one.3), omega (arith, one.4))

path_complete : {s : List ℕ} {d p c b : ℕ} {path : List PathElement} {to : Option ℕ} → PathLeads s d path p to c b → Led (selected path s p d) to c b
path_complete {p = p} is_there = (way true p 0 0, refl, refl, refl, refl)
path_complete (goes_on one rest) = on_complete _ _ _ _ _ _ _ _ _ _ _ (step_complete one) (path_complete rest)
path_complete (leads_nowhere one) = nowhere_complete _ _ _ _ _ _ _ (step_complete one)

path_is : (s : List ℕ) (p d c b : ℕ) (path : List PathElement) (to : Option ℕ) → Led (selected path s p d) to c b → PathLeads s d path p to c b
path_is s p d c b path to h = rw (← h.2, ← h.3, ← h.4) (path_sound path s p d h.0 h.1)

pub selecting-is_leading : SelectingIsLeading
selecting-is_leading path s p d to c b = (λ h. path_is s p d c b path to h, λ h. path_complete h)

pub one_way_leads : OneWayLeads
one_way_leads path s p d to too c b m n h k =
    let x = path_complete h in
    let y = path_complete k in
    let same : x.0 ≡ y.0 = same_some x.0 y.0 (sym x.1 ∙ y.1) in
    (sym x.2 ∙ (ap led_to same ∙ y.2), sym x.3 ∙ (ap (λ (z : Reading Bool). z.values) same ∙ y.3), sym x.4 ∙ (ap (λ (z : Reading Bool). z.bytes) same ∙ y.4))

-- what is read along a path
module _ {A : Type 0} (read : Meaning A) (path : List PathElement) (s : List ℕ) (p : ℕ) where
  abbrev Along : Reading (Option A) → Type 0
  Along r = ReadsAlong read path s p r.value

  along_there : (x : Reading Bool) (y : Reading (Option A)) → led_to x ≡ Some x.next → PathLeads s 0 path p (led_to x) x.values x.bytes → read_there read true s x.next 0 ≡ Some y → IsWithinLimits (plus x y) → Along y
  along_there x y led leads h within =
      let r = bind_some (read s x.next 0) _ y h in
      let same : ◌≡◌ {A = Reading (Option A)} (record { value = Some r.0.value; next = r.0.next; values = r.0.values; bytes = r.0.bytes }) y = same_some _ y r.2 in
      let few = subst (λ (z : Reading (Option A)). IsWithinLimits (plus x z)) (sym same) within in
      subst (λ (z : Reading (Option A)). Along z) same (reads_there (subst (λ z. PathLeads s 0 path p z x.values x.bytes) led leads) r.1 few.0 few.1)

  along_nowhere : (x : Reading Bool) (y : Reading (Option A)) → led_to x ≡ None → PathLeads s 0 path p (led_to x) x.values x.bytes → read_there read false s x.next 0 ≡ Some y → IsWithinLimits (plus x y) → Along y
  along_nowhere x y led leads h within =
      let same : ◌≡◌ {A = Reading (Option A)} (record { value = None; next = x.next; values = 0; bytes = 0 }) y = same_some _ y h in
      let few = subst (λ (z : Reading (Option A)). IsWithinLimits (plus x z)) (sym same) within in
      subst (λ (z : Reading (Option A)). Along z) same (reads_nothing (subst (λ z. PathLeads s 0 path p z x.values x.bytes) led leads) (omega (arith, few.0)) (omega (arith, few.1)))

  along_by : (v : Bool) (x : Reading Bool) (y : Reading (Option A)) → x.value ≡ v → PathLeads s 0 path p (led_to x) x.values x.bytes → read_there read v s x.next 0 ≡ Some y → IsWithinLimits (plus x y) → Along y
  along_by true x y v leads h within = along_there x y (ap (λ z. if z then Some x.next else None) v) leads h within
  along_by false x y v leads h within = along_nowhere x y (ap (λ z. if z then Some x.next else None) v) leads h within

  along_sound : (v : Option A) → answer true (read_along path read) s p ≡ Some v → ReadsAlong read path s p v
  along_sound v h =
      let w = answer_within (read_along path read) s p v h in
      let f = follows (selected path) (read_there read) s p 0 w.0 w.1 in
      let leads = path_sound path s p 0 f.first f.one in
      let few = subst (λ (z : Reading (Option A)). IsWithinLimits z) (sym f.same) w.2 in
      let is : f.second.value ≡ v = ap (λ (z : Reading (Option A)). z.value) f.same ∙ w.3 in
      subst (λ z. ReadsAlong read path s p z) is (along_by f.first.value f.first f.second refl leads f.two few)

  nothing_complete : (c b : ℕ) → PathLeads s 0 path p None c b → 1 + c ≤ most_values → b ≤ most_bytes → answer true (read_along path read) s p ≡ Some None
  nothing_complete c b leads few short =
      let x = path_complete leads in
      let led = led_nowhere x.0.value x.0.next x.2 in
      within_answer (read_along path read) s p None (record { value = None; next = x.0.next; values = x.0.values + 0; bytes = x.0.bytes + 0 }) (rw (x.1, led) refl) (omega (arith, few, x.3)) (omega (arith, short, x.4)) refl

  there_complete : (q c b : ℕ) (r : Reading A) → PathLeads s 0 path p (Some q) c b → read s q 0 ≡ Some r → 1 + (c + r.values) ≤ most_values → b + r.bytes ≤ most_bytes → answer true (read_along path read) s p ≡ Some (Some r.value)
  there_complete q c b r leads h few short =
      let x = path_complete leads in
      let led = led_by x.0.value x.0.next q x.2 in
      within_answer (read_along path read) s p (Some r.value) (record { value = Some r.value; next = r.next; values = x.0.values + r.values; bytes = x.0.bytes + r.bytes }) (rw (x.1, led.0, led.1, h) refl) (omega (arith, few, x.3)) (omega (arith, short, x.4)) refl

  along_complete : {v : Option A} → ReadsAlong read path s p v → answer true (read_along path read) s p ≡ Some v
  along_complete (reads_nothing leads few short) = nothing_complete _ _ leads few short
  along_complete (reads_there leads h few short) = there_complete _ _ _ _ leads h few short

pub answers-are_read_along : {A : Type 0} (read : Meaning A) → AnswersAreReadAlong read
answers-are_read_along read path s p v = (λ h. along_sound read path s p v h, λ h. along_complete read path s p h)
