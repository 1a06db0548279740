-- Which of the texts of a condition are a whole number in another way than its own.
use Rattle.std.proofs.Common.{◌≡◌, ℕ, zero, suc, ◌+◌, ◌<◌, List, [], ◌∷◌, ◌++◌, length, take, map, get_or, cond, not, nat_lt, Bool, true, false, IsTrue, ◌↔◌, inl, inr, refl, sym, ap, ◌∙◌, subst, arith, append-nil, ◌&&◌}
use Rattle.std.proofs.lemmas.Bool.{true≢false, lt-ltb, ltb-true}
use Rattle.std.proofs.lemmas.List.{map-append, length-map, take-map}
use Rattle.std.proofs.Math.Seq.{take-append_seam}
use Rattle.std.proofs.lemmas.List.Elements.{All-filter, All-contains_itself, filter-append}
use Rattle.std.specs.Char.{digit_value}
use Rattle.std.specs.List.{All, Contains, filter}
use Rattle.std.specs.Str.Parse.{AllDigits}
use Rattle.mmdb_format.specs.Contents.{text, bytes, boolean, signed32, number16, number32, number64, number128, double_bits, float_bits}
use Rattle.mmdb_format.specs.Unfolding.{Tree, scalar, array, table, pointer}
use Rattle.mmdb_layout.specs.Conditions.{IsOneOf, SaysOneOf, IsNumberOf, SaysNumberOf, SaysWrittenBy}
use Rattle.mmdb_layout.specs.Numbers.{IsSameNumber, is_digits, not_digits}
use Rattle.mmdb_layout.specs.Working.{is_whole}
use Rattle.mmdb_layout.proofs.PlainLaws.{same_alone}

-- ---- digits alone

all_digits : (ds : List ℕ) → AllDigits 10 ds → is_digits ds ≡ true
all_digits [] all = refl
all_digits (d ∷ ds) all = rw (lt-ltb (digit_value d) 10 all.0) (all_digits ds all.1)

digits_all : (ds : List ℕ) → is_digits ds ≡ true → AllDigits 10 ds
digits_all [] is = tt
digits_all (d ∷ ds) is = both (nat_lt (digit_value d) 10) refl is (digits_all ds)
  where
    both : (b : Bool) → nat_lt (digit_value d) 10 ≡ b → (b && is_digits ds) ≡ true → (is_digits ds ≡ true → AllDigits 10 ds) → (digit_value d < 10) × AllDigits 10 ds
    both true here all rest = (ltb-true (digit_value d) 10 here, rest all)
    both false here all rest = absurd (true≢false (sym all))

-- an answer that says whether a text is digits alone
pub digits_by : (ds : List ℕ) (b : Bool) → IsTrue b ↔ AllDigits 10 ds → is_digits ds ≡ b
digits_by ds true says = all_digits ds (says.0 refl)
digits_by ds false says = neither (is_digits ds) refl
  where
    neither : (b : Bool) → is_digits ds ≡ b → b ≡ false
    neither true is = absurd (true≢false (sym (says.1 (digits_all ds is))))
    neither false is = refl

-- ---- those that are not

alone : (word : List ℕ) (b : Bool) → is_digits word ≡ b → not_digits (word ∷ []) ≡ cond b [] (word ∷ [])
alone word true is = rw is refl
alone word false is = rw is refl

-- with one text more
pub left_out : (texts : List (List ℕ)) (word : List ℕ) (b : Bool) → b ≡ true → IsTrue b ↔ AllDigits 10 word → texts ≡ texts ++ not_digits (word ∷ [])
left_out texts word b is says = sym (ap (λ l. texts ++ l) (alone word true (digits_by word b says ∙ is)) ∙ append-nil texts)

pub taken : {X : Type 0} (f : X → List ℕ) (old new : List X) (x : X) (b : Bool) → new ≡ old ++ x ∷ [] → b ≡ false → IsTrue b ↔ AllDigits 10 (f x)
    → map f new ≡ map f old ++ not_digits (f x ∷ [])
taken f old new x b pushed is says = ap (map f) pushed ∙ (map-append f old (x ∷ []) ∙ ap (λ l. map f old ++ l) (sym (alone (f x) false (digits_by (f x) b says ∙ is))))

-- without the texts that came last
pub cut : {X : Type 0} (f : X → List ℕ) (old new : List X) (n : ℕ) (more : List (List ℕ)) → map f new ≡ map f old ++ more → n ≡ length old → map f (take n new) ≡ map f old
cut f old new n more is same =
    let long : n ≡ length (map f old) = same ∙ sym (length-map old f) in
    sym (take-map f n new) ∙ (ap (take n) is ∙ subst (λ k. take k (map f old ++ more) ≡ map f old) (sym long) (take-append_seam (map f old) more))

from_kept : (p : List ℕ → Bool) (texts : List (List ℕ)) (word : List ℕ) → Contains (filter p texts) word → Contains texts word
from_kept p texts word is = subst (Contains texts) is.2 (All-filter p (Contains texts) texts (All-contains_itself texts) is.0 word is.1)

behind : (b : Bool) (first : List ℕ) (texts : List (List ℕ)) (word : List ℕ) → Contains texts word → Contains (cond b (first ∷ texts) texts) word
behind true first texts word (place, within, same) = (suc place, omega (arith, within), same)
behind false first texts word is = is

kept : (p : List ℕ → Bool) (texts : List (List ℕ)) (word : List ℕ) → Contains texts word → p word ≡ true → Contains (filter p texts) word
kept p [] word (place, within, same) passes = absurd (omega (arith, within))
kept p (first ∷ texts) word (zero, within, same) passes =
    let here : p first ≡ true = ap p same ∙ passes in
    subst (λ b. Contains (cond b (first ∷ filter p texts) (filter p texts)) word) (sym here) (zero, omega arith, same)
kept p (first ∷ texts) word (suc place, within, same) passes =
    behind (p first) first (filter p texts) word (kept p texts word (place, omega (arith, within), same) passes)

-- ---- a whole number

same_of : (v : Tree) (json other : List ℕ) → is_whole v ≡ true → IsNumberOf v json other → IsSameNumber json other
same_of (scalar (signed32 _)) json other whole is = is
same_of (scalar (number16 _)) json other whole is = is
same_of (scalar (number32 _)) json other whole is = is
same_of (scalar (number64 _)) json other whole is = is
same_of (scalar (number128 _)) json other whole is = is
same_of (scalar (double_bits _)) json other whole is = absurd (true≢false (sym whole))
same_of (scalar (float_bits _)) json other whole is = absurd (true≢false (sym whole))
same_of (scalar (text _)) json other whole is = absurd is
same_of (scalar (bytes _)) json other whole is = absurd is
same_of (scalar (boolean _)) json other whole is = absurd is
same_of (array _) json other whole is = absurd is
same_of (table _) json other whole is = absurd is
same_of (pointer _ _) json other whole is = absurd is

-- A whole number of digits alone, that is none of some texts, is a number that one of them writes exactly where it is one of those
-- that are not digits alone.
pub whole_among : (v : Tree) (json : List ℕ) (all others : List (List ℕ)) (b : Bool) → is_whole v ≡ true → AllDigits 10 json → (IsOneOf json all → ⊥)
    → others ≡ not_digits all → SaysNumberOf v json others b → SaysWrittenBy v json all b
whole_among v json all others true whole digits none parted (other, among, is) =
    inr (other, from_kept (λ t. not (is_digits t)) all other (subst (λ l. Contains l other) parted among), is)
whole_among v json all others false whole digits none parted unwritten = λ written. elim written [ inl own ↦ none own | inr some ↦ by some.0 some.1 some.2 (is_digits some.0) refl ]
  where
    by : (other : List ℕ) → Contains all other → IsNumberOf v json other → (b : Bool) → is_digits other ≡ b → ⊥
    by other among is true alone = none (subst (Contains all) (sym (same_alone json other digits (digits_all other alone) (same_of v json other whole is))) among)
    by other among is false alone =
        let mixed : not (is_digits other) ≡ true = ap not alone in
        unwritten (other, subst (λ l. Contains l other) (sym parted) (kept (λ t. not (is_digits t)) all other among mixed), is)

-- what is said of numbers is said of all that write a value which is none of the texts
pub plain_among : (v : Tree) (json : List ℕ) (all : List (List ℕ)) (b : Bool) → (IsOneOf json all → ⊥) → SaysNumberOf v json all b → SaysWrittenBy v json all b
plain_among v json all true none some = inr some
plain_among v json all false none unwritten = λ written. elim written [ inl own ↦ none own | inr some ↦ unwritten some ]

-- a value whose JSON is compared as it is, with texts that are given
pub none_given : (given own : List ℕ) (listed all : List (List ℕ)) (b : Bool) → given ≡ own → listed ≡ all → b ≡ false → SaysOneOf given listed b → IsOneOf own all → ⊥
none_given given own listed all b same is unlike says = subst (λ j. SaysOneOf j all false) same (subst (λ l. SaysOneOf given l false) is (subst (SaysOneOf given listed) unlike says))
