-- Words that a text's end does not cut off.
use Rattle.std.proofs.Common.{◌≡◌, ℕ, ◌+◌, ◌-◌, ◌<◌, ◌≤◌, Bool, true, false, not, List, length, get_or, take, sym, ap, subst, ◌∙◌, arith}
use Rattle.std.proofs.Math.Logic.{⊎_elim}
use Rattle.std.proofs.lemmas.Bool.{cases_lt}
use Rattle.std.proofs.lemmas.List.Sums.{suffix_len_is}
use Rattle.std.specs.List.{suffix_len}
use Rattle.mmdb_addresses.specs.Bytes.{ends_word}
use Rattle.mmdb_addresses.specs.Cells.{whole_words}

pub words_are : (text : List ℕ) (at : ℕ) → at ≤ length text → ((k : ℕ) → at ≤ k → k < length text → ends_word (get_or text k 0) ≡ false)
    → (0 < at → ends_word (get_or text (at - 1) 0) ≡ true) → take at text ≡ whole_words text
words_are text at high none stops =
    let len : suffix_len (λ x. not (ends_word x)) text ≡ length text - at = suffix_len_is (λ x. not (ends_word x)) text at 0 high (λ k from l. ap not (none k from l)) (λ some. ap not (stops some)) in
    let back : at ≡ length text - suffix_len (λ x. not (ends_word x)) text = omega arith in
    ap (λ n. take n text) back

pub one_in_word : (text : List ℕ) (cut : ℕ) → cut < length text → ends_word (get_or text ((length text - cut) - 1) 0) ≡ false
    → ((k : ℕ) → length text - cut ≤ k → k < length text → ends_word (get_or text k 0) ≡ false) → (k : ℕ) → length text - (cut + 1) ≤ k → k < length text → ends_word (get_or text k 0) ≡ false
one_in_word text cut room here before k from l =
    ⊎_elim
    (λ (early : k < length text - cut).
    let same : (length text - cut) - 1 ≡ k = omega arith in
    subst (λ i. ends_word (get_or text i 0) ≡ false) same here)
    (λ (late : length text - cut ≤ k). before k late l)
    (cases_lt k (length text - cut))
