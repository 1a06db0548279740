-- Laws of what is found in databases side by side.
use Rattle.std.proofs.Common.{◌≡◌, ℕ, ◌+◌, ◌<◌, ◌≤◌, ◌⊎◌, ◌↔◌, inl, inr, List, [], ◌∷◌, ◌++◌, map, get_or, length, take, Option, None, Result, Ok, Err, IfOk, IfErr, refl, ap, arith, sym, subst, ◌∙◌}
use Rattle.std.proofs.lemmas.Bool.{cases_lt}
use Rattle.std.proofs.lemmas.List.{length-map, length-append, get_or_append_left, get_or_push, map_push, take_more, take_all}
use Rattle.std.specs.Result.{result_ok}
use Rattle.std.specs.declared.convert.AsSlice.{Ghosts}
use Rattle.std.specs.declared.net.ip_addr.IpAddr.{IpAddr}
use Rattle.mmdb_reader.specs.File.{Database}
use Rattle.mmdb_format.specs.Error.{OfInput, OfDatabase, FailsAs, kind_of}
use Rattle.mmdb_format.specs.declared.error.MaxMindDbError.{MaxMindDbError}
use Rattle.mmdb_reader.specs.Found.{database_asked, leaf_of, offset_found, shown_as_ipv4}
use Rattle.mmdb_reader.specs.Lookup.{Answers, CanAsk, IsInvalidAt, outcome_at}
use Rattle.mmdb_reader.specs.Shown.{is_shown_as_ipv4}
use Rattle.mmdb_reader.specs.declared.lookup_result.LookupResult.{LookupResult}
use Rattle.mmdb_compare.specs.Coming.{Answer}
use Rattle.mmdb_compare.specs.Coming.Answer.{Nothing}
use Rattle.mmdb_compare.specs.Together.{is_record}
use Rattle.mmdb_compare.specs.Walks.{Standing}
use Rattle.mmdb_compare.specs.WalkList.{held_at, databases_of}
use Rattle.mmdb_compare.specs.Found.{IsFoundAt, IsFoundIf, AreFoundAt}

module _ {S : Type 0} {G : Ghosts S ℕ} where
  -- what a lookup answers is what is found
  pub looked_up : (db : Database) (address : IpAddr) (asked : Result (LookupResult S G) MaxMindDbError) (found : Option (LookupResult S G)) → found ≡ result_ok asked → IfOk asked (λ r. Answers db address (leaf_of r) (outcome_at (offset_found r))) → IfOk asked (λ r. shown_as_ipv4 r ≡ is_shown_as_ipv4 db address) → IfOk asked (λ r. database_asked r ≡ db) → FailsAs OfInput asked ↔ ¬ CanAsk db address → FailsAs OfDatabase asked ↔ IsInvalidAt db address → IfErr asked (λ e. (kind_of e ≡ OfInput) ⊎ (kind_of e ≡ OfDatabase)) → IsFoundAt db address found
  looked_up db address (Ok r) found is answers shown database of_input of_database kinds =
      subst (IsFoundAt db address) (sym is) (record { database = database; answers = answers; shown = shown })
  looked_up db address (Err e) found is answers shown database of_input of_database (inl kind) = subst (IsFoundAt db address) (sym is) (inl (of_input.0 kind))
  looked_up db address (Err e) found is answers shown database of_input of_database (inr kind) = subst (IsFoundAt db address) (sym is) (inr (of_database.0 kind))

  one_at : (address : IpAddr) (db db_there : Database) (a a_there : Answer) (f f_there : Option (LookupResult S G)) → db_there ≡ db → a_there ≡ a → f_there ≡ f → IsFoundIf (is_record a) db address f → IsFoundIf (is_record a_there) db_there address f_there
  one_at address db db_there a a_there f f_there same_db same_a same_f one = rw (same_db, same_a, same_f) one

  -- what is found in one more
  found_push : (address : IpAddr) (dbs : List Database) (answers : List Answer) (fs : List (Option (LookupResult S G))) (db : Database) (a : Answer) (f : Option (LookupResult S G)) → length answers ≡ length dbs → AreFoundAt address dbs answers fs → IsFoundIf (is_record a) db address f → AreFoundAt address (dbs ++ db ∷ []) (answers ++ a ∷ []) (fs ++ f ∷ [])
  found_push address dbs answers fs db a f many found one =
      let count = found.count in
      record {
        count = length-append fs (f ∷ []) ∙ ap (λ (n : ℕ). n + 1) count ∙ sym (length-append dbs (db ∷ []));
        each = λ place d lt. elim (cases_lt place (length dbs)) [
          | inl below ↦ one_at address (get_or dbs place d) (get_or (dbs ++ db ∷ []) place d) (get_or answers place Nothing) (get_or (answers ++ a ∷ []) place Nothing) (get_or fs place None) (get_or (fs ++ f ∷ []) place None) (get_or_append_left dbs (db ∷ []) d place below) (get_or_append_left answers (a ∷ []) Nothing place (omega (arith, below, many))) (get_or_append_left fs (f ∷ []) None place (omega (arith, below, count))) (found.each place d below)
          | inr ge ↦ (
              let last : length dbs ≡ place = omega (arith, ge, lt, length-append dbs (db ∷ [])) in
              one_at address db (get_or (dbs ++ db ∷ []) place d) a (get_or (answers ++ a ∷ []) place Nothing) f (get_or (fs ++ f ∷ []) place None) (get_or_push dbs db d place last) (get_or_push answers a Nothing place (many ∙ last)) (get_or_push fs f None place (count ∙ last)) one)
        ];
      }

  -- nothing is found yet
  pub found_none : (address : IpAddr) (walks : List Standing) (at : ℕ) → AreFoundAt {S = S} {G = G} address (databases_of (take 0 walks)) (map (held_at at) (take 0 walks)) []
  found_none address walks at = record { count = refl; each = λ place d lt. absurd (omega (arith, lt)) }

  pub found_more : (address : IpAddr) (walks : List Standing) (s : Standing) (place at : ℕ) (fs after : List (Option (LookupResult S G))) (f : Option (LookupResult S G)) → AreFoundAt address (databases_of (take place walks)) (map (held_at at) (take place walks)) fs → place < length walks → s ≡ get_or walks place s → IsFoundIf (is_record (held_at at s)) s.database address f → after ≡ fs ++ f ∷ [] → AreFoundAt address (databases_of (take (place + 1) walks)) (map (held_at at) (take (place + 1) walks)) after
  found_more address walks s place at fs after f found lt is one put =
      let some = take place walks in
      let more : take (place + 1) walks ≡ some ++ s ∷ [] = take_more walks place s lt ∙ ap (λ (x : Standing). some ++ x ∷ []) (sym is) in
      let dbs : databases_of (take (place + 1) walks) ≡ databases_of some ++ s.database ∷ [] = ap databases_of more ∙ map_push (λ (x : Standing). x.database) some s in
      let held : map (held_at at) (take (place + 1) walks) ≡ map (held_at at) some ++ held_at at s ∷ [] = ap (map (held_at at)) more ∙ map_push (held_at at) some s in
      let many : length (map (held_at at) some) ≡ length (databases_of some) = length-map some (held_at at) ∙ sym (length-map some (λ (x : Standing). x.database)) in
      rw (dbs, held, put) (found_push address (databases_of some) (map (held_at at) some) fs s.database (held_at at s) f many found one)

  pub found_all : (address : IpAddr) (walks : List Standing) (place at : ℕ) (fs : List (Option (LookupResult S G))) → length walks ≤ place → AreFoundAt address (databases_of (take place walks)) (map (held_at at) (take place walks)) fs → AreFoundAt address (databases_of walks) (map (held_at at) walks) fs
  found_all address walks place at fs le found =
      subst (λ (xs : List Standing). AreFoundAt address (databases_of xs) (map (held_at at) xs) fs) (take_all place walks le) found
