-- What several databases have for an address.
use Rattle.std.proofs.Common.{◌≡◌, ◌+◌, ◌*◌, ◌/◌, ◌%◌, ℕ, List, [], ◌∷◌, ◌++◌, map, Option, Some, None, IfSome, inr, refl, sym, ap, ◌∙◌, subst, arith, append_assoc, append-nil}
use Rattle.std.proofs.lemmas.Nat.{div-mul-add, mod-mul-add}
use Rattle.std.specs.declared.convert.AsSlice.{Ghosts}
use Rattle.std.specs.declared.net.ip_addr.IpAddr.{IpAddr}
use Rattle.mmdb_reader.specs.File.{Database}
use Rattle.mmdb_reader.specs.declared.lookup_result.LookupResult.{LookupResult}
use Rattle.mmdb_cmd_enrich.specs.Layers.{HaveAll, AnyRejects, digit_of, radix_of, IsKey, IsKeyFrom}
use Rattle.mmdb_cmd_enrich.specs.Working.{offset_in, IsAnswer, AreAnswersOf, AreAnswers, ShowNetworks, IsKeyAfter}
use Rattle.mmdb_cmd_enrich.proofs.NetworkLaws.{answer_of, answer_has, answers_show, none_shown}

-- What the databases left have completes what was found of those before: answers, where records are, and the key.
pub record LayersWay {S : Type 0} {G : Ghosts S ℕ} (dbs left : List Database) (address : IpAddr) (answers : List (Option (LookupResult S G))) (key : Option ℕ) : Type 0 where
  pub answered : (more : List (Option (LookupResult S G))) → AreAnswersOf left more → AreAnswersOf dbs (answers ++ more)
  pub have : (more : List (Option (LookupResult S G))) → HaveAll left address (map offset_in more) → HaveAll dbs address (map offset_in (answers ++ more))
  pub numbered : (more : List (Option (LookupResult S G))) (last : ℕ) → IfSome key (λ before. IsKeyFrom before left (map offset_in more) last → IsKey dbs (map offset_in (answers ++ more)) last)
  pub rejected : AnyRejects left address → AnyRejects dbs address
  pub shown : (more : List (Option (LookupResult S G))) → ShowNetworks left address more → ShowNetworks dbs address (answers ++ more)

-- the first digit may be any
key_whole : (dbs : List Database) (offsets : List (Option ℕ)) (key : ℕ) → IsKeyFrom 0 dbs offsets key → IsKey dbs offsets key
key_whole [] [] key is = is
key_whole [] (o ∷ os) key is = is
key_whole (db ∷ dbs) [] key is = is
key_whole (db ∷ dbs) (o ∷ os) key is = let first : 0 * radix_of db + digit_of o ≡ digit_of o = omega arith in subst (λ n. IsKeyFrom n dbs os key) first is.1

pub layers_started : {S : Type 0} {G : Ghosts S ℕ} (dbs : List Database) (address : IpAddr) (answers : List (Option (LookupResult S G))) → answers ≡ [] → LayersWay dbs dbs address answers (Some 0)
layers_started {S} {G} dbs address answers none =
    let P : List (Option (LookupResult S G)) → Type 0 = λ a. LayersWay dbs dbs address a (Some 0) in
    subst P (sym none) (record { answered = λ more are. are; have = λ more are. are; numbered = λ more last is. key_whole dbs (map offset_in more) last is; rejected = λ one. one; shown = λ more all. all })

-- a number with one digit more completes the keys that the number before completes
number_more : (dbs : List Database) (whole : List (Option ℕ)) (db : Database) (left : List Database) (offset : Option ℕ) (offsets : List (Option ℕ)) (last : ℕ) (before after : Option ℕ)
    → IfSome before (λ n. IsKeyFrom n (db ∷ left) (offset ∷ offsets) last → IsKey dbs whole last) → IfSome after (IsKeyAfter before db offset)
    → IfSome after (λ n. IsKeyFrom n left offsets last → IsKey dbs whole last)
number_more dbs whole db left offset offsets last before None was is = tt
number_more dbs whole db left offset offsets last None (Some key) was is =
    let (number, there, below, value) = is in
    absurd (cc)
number_more dbs whole db left offset offsets last (Some n) (Some key) was is = λ rest.
    let (number, there, below, value) = is in
    let same : n ≡ number = cc in
    was (below, subst (λ k. IsKeyFrom k left offsets last) (value ∙ ap (λ k. k * radix_of db + digit_of offset) (sym same)) rest)

-- what one more database has
pub one_answer : {S : Type 0} {G : Ghosts S ℕ} (dbs left : List Database) (db : Database) (address : IpAddr) (answers more : List (Option (LookupResult S G))) (answer : Option (LookupResult S G)) (before after : Option ℕ)
    → LayersWay dbs (db ∷ left) address answers before → more ≡ answers ++ (answer ∷ []) → IsAnswer db address answer → IfSome after (IsKeyAfter before db (offset_in answer))
    → LayersWay dbs left address more after
one_answer {S} {G} dbs left db address answers more answer before after way put is key =
    let both : (rest : List (Option (LookupResult S G))) → more ++ rest ≡ answers ++ (answer ∷ rest) = λ rest. ap (λ l. l ++ rest) put ∙ append_assoc answers (answer ∷ []) rest in
    record {
      answered = λ rest are. subst (AreAnswersOf dbs) (sym (both rest)) (way.answered (answer ∷ rest) (answer_of db address answer is, are));
      have = λ rest are.
          let P : List (Option (LookupResult S G)) → Type 0 = λ l. HaveAll dbs address (map offset_in l) in
          subst P (sym (both rest)) (way.have (answer ∷ rest) (answer_has db address answer is, are));
      numbered = λ rest last.
          let P : List (Option (LookupResult S G)) → Type 0 = λ l. IfSome after (λ n. IsKeyFrom n left (map offset_in rest) last → IsKey dbs (map offset_in l) last) in
          subst P (sym (both rest)) (number_more dbs (map offset_in (answers ++ (answer ∷ rest))) db left (offset_in answer) (map offset_in rest) last before after (way.numbered (answer ∷ rest) last) key);
      rejected = λ one. way.rejected (inr one);
      shown = λ rest all. subst (ShowNetworks dbs address) (sym (both rest)) (way.shown (answer ∷ rest) (answers_show db left address answer rest is all));
    }

-- the key of all of them
key_done : (dbs : List Database) (offsets : List (Option ℕ)) (key : Option ℕ) → ((last : ℕ) → IfSome key (λ n. IsKeyFrom n [] [] last → IsKey dbs offsets last)) → IfSome key (IsKey dbs offsets)
key_done dbs offsets None way = way 0
key_done dbs offsets (Some key) way = way key refl

pub answers_done : {S : Type 0} {G : Ghosts S ℕ} (dbs : List Database) (address : IpAddr) (answers : List (Option (LookupResult S G))) (key : Option ℕ)
    → LayersWay dbs [] address answers key → AreAnswers dbs address answers × IfSome key (IsKey dbs (map offset_in answers))
answers_done {S} {G} dbs address answers key way =
    let all : answers ++ [] ≡ answers = append-nil answers in
    let H : List (Option (LookupResult S G)) → Type 0 = λ l. HaveAll dbs address (map offset_in l) in
    let K : List (Option (LookupResult S G)) → Type 0 = λ l. IfSome key (IsKey dbs (map offset_in l)) in (
      (subst (AreAnswersOf dbs) all (way.answered [] tt), subst H all (way.have [] tt), subst (ShowNetworks dbs address) all (way.shown [] (none_shown S G address))),
      subst K all (key_done dbs (map offset_in (answers ++ [])) key (way.numbered [])),
    )

-- digits that are the same are of the same offset
digit_same : (a b : Option ℕ) → digit_of a ≡ digit_of b → a ≡ b
digit_same None None e = refl
digit_same None (Some b) e = absurd (omega (arith, e))
digit_same (Some a) None e = absurd (omega (arith, e))
digit_same (Some a) (Some b) e = ap Some (omega (arith, e))

-- no two lists of offsets have the same key
keys_same_from : (dbs : List Database) (m n : ℕ) (some others : List (Option ℕ)) (key : ℕ) → IsKeyFrom m dbs some key → IsKeyFrom n dbs others key → (m ≡ n) × (some ≡ others)
keys_same_from [] m n [] [] key a b = (sym a ∙ b, refl)
keys_same_from [] m n [] (o ∷ os) key a b = absurd b
keys_same_from [] m n (o ∷ os) others key a b = absurd a
keys_same_from (db ∷ dbs) m n [] others key a b = absurd a
keys_same_from (db ∷ dbs) m n (o ∷ os) [] key a b = absurd b
keys_same_from (db ∷ dbs) m n (o ∷ os) (p ∷ ps) key a b =
    let (number, rest) = keys_same_from dbs (m * radix_of db + digit_of o) (n * radix_of db + digit_of p) os ps key a.1 b.1 in
    let front : m ≡ n = sym (div-mul-add m (radix_of db) (digit_of o) a.0) ∙ (ap (λ k. k / radix_of db) number ∙ div-mul-add n (radix_of db) (digit_of p) b.0) in
    let digit : digit_of o ≡ digit_of p = sym (mod-mul-add m (radix_of db) (digit_of o) a.0) ∙ (ap (λ k. k % radix_of db) number ∙ mod-mul-add n (radix_of db) (digit_of p) b.0) in
    (front, ap (λ q. q ∷ os) (digit_same o p digit) ∙ ap (λ qs. p ∷ qs) rest)

pub keys_same : (dbs : List Database) (some others : List (Option ℕ)) (key : ℕ) → IsKey dbs some key → IsKey dbs others key → some ≡ others
keys_same [] [] [] key a b = refl
keys_same [] [] (o ∷ os) key a b = absurd b
keys_same [] (o ∷ os) others key a b = absurd a
keys_same (db ∷ dbs) [] others key a b = absurd a
keys_same (db ∷ dbs) (o ∷ os) [] key a b = absurd b
keys_same (db ∷ dbs) (o ∷ os) (p ∷ ps) key a b =
    let (digit, rest) = keys_same_from dbs (digit_of o) (digit_of p) os ps key a b in
    ap (λ q. q ∷ os) (digit_same o p digit) ∙ ap (λ qs. p ∷ qs) rest
