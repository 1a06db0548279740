-- What one database has for an address.
use Rattle.std.proofs.Common.{◌≡◌, ◌⊎◌, ℕ, [], ◌∷◌, Option, Some, None, IfSome, inl, inr, sym, ap, ◌∙◌}
use Rattle.std.specs.declared.convert.AsSlice.{Ghosts}
use Rattle.std.specs.declared.net.ip_addr.IpAddr.{IpAddr}
use Rattle.mmdb_format.specs.Error.{kind_of, OfInput, OfDatabase}
use Rattle.mmdb_format.specs.declared.error.MaxMindDbError.{MaxMindDbError}
use Rattle.mmdb_reader.specs.File.{Database}
use Rattle.mmdb_reader.specs.Found.{database_asked, leaf_of, offset_found}
use Rattle.mmdb_reader.specs.Lookup.{Answers, CanAsk, IsInvalidAt, outcome_at}
use Rattle.mmdb_reader.specs.declared.lookup_result.LookupResult.{LookupResult}
use Rattle.mmdb_cmd_enrich.specs.Answered.{IsAnswered}
use Rattle.mmdb_layout.specs.Asked.{Asks}
use Rattle.mmdb_cmd_enrich.specs.Layers.{CanAskNone, AnyRejects, digit_of, IsKeyFor}
use Rattle.mmdb_cmd_enrich.specs.Working.{IsAnswer, IsShownOf}
use Rattle.mmdb_cmd_enrich.proofs.NetworkLaws.{answer_has, answers_show, none_shown, shown_is}

pub one_answered : {S : Type 0} {G : Ghosts S ℕ} (db : Database) (address : IpAddr) (found : LookupResult S G) → IsAnswer db address (Some found)
    → IsAnswered {A = LookupResult S G} (λ r dbs. dbs ≡ (database_asked r ∷ [])) (λ r. offset_found r ∷ []) (λ r. IsShownOf (Some r ∷ [])) (db ∷ []) address (Some found)
one_answered {S} {G} db address found is =
    let (asked, asks, same, answers, shown) = is in (
      inl (asked, asks, answers.can_ask),
      ap (λ d. d ∷ []) (sym same),
      (answer_has db address (Some found) is, tt),
      λ network there. shown_is (db ∷ []) address (Some found ∷ []) network (answers_show db [] address (Some found) [] is (none_shown S G address)) there,
    )

pub one_rejected : (db : Database) (address asked : IpAddr) (e : MaxMindDbError) → Asks db address asked → (kind_of e ≡ OfInput) ⊎ (kind_of e ≡ OfDatabase)
    → (kind_of e ≡ OfInput → CanAsk db asked → ⊥) → (kind_of e ≡ OfDatabase → IsInvalidAt db asked) → CanAskNone (db ∷ []) address ⊎ AnyRejects (db ∷ []) address
one_rejected db address asked e asks (inl is) input database = inl ((asked, asks, input is), tt)
one_rejected db address asked e asks (inr is) input database = inr (inl (asked, asks, database is))

-- the number of where one record is
pub one_key : {S : Type 0} {G : Ghosts S ℕ} (db : Database) (address asked : IpAddr) (found : LookupResult S G) (offset key : Option ℕ)
    → Asks db address asked → Answers db asked (leaf_of found) (outcome_at (offset_found found))
    → offset ≡ offset_found found → IfSome key (λ k. k ≡ digit_of offset) → IfSome key (IsKeyFor (db ∷ []) address)
one_key db address asked found offset None asks answers at is = tt
one_key db address asked found offset (Some k) asks answers at is =
    (inl (asked, asks, answers.can_ask), offset_found found ∷ [], ((asked, asks, inr (leaf_of found, answers)), tt), is ∙ ap digit_of at)
