-- The last address that is in a text.
use Rattle.std.proofs.Common.{◌≡◌, ℕ, ◌<◌, ◌≤◌, false, List, Option, Some, None, subst, arith}
use Rattle.std.proofs.Math.Logic.{⊎_elim}
use Rattle.std.proofs.lemmas.Bool.{cases_lt}
use Rattle.std.specs.declared.net.ip_addr.IpAddr.{IpAddr}
use Rattle.mmdb_addresses.specs.Addresses.{Finds}
use Rattle.mmdb_addresses.specs.Last.{later_of, IsLastBefore}
use Rattle.mmdb_addresses.specs.Rows.{StandsAt, FindsLast}

-- no address begins from an index on, before another one
abbrev NoneIn : List ℕ → ℕ → ℕ → Type 0
NoneIn text from to = (k : ℕ) (a : IpAddr) → from ≤ k → k < to → StandsAt text false k a → ⊥

-- none begins before a run, at it, or in it
none_around : (text : List ℕ) (end at next : ℕ) → NoneIn text end at → ((a : IpAddr) → StandsAt text false at a → ⊥) → ((k : ℕ) (a : IpAddr) → at < k → k < next → StandsAt text false k a → ⊥) → NoneIn text end next
none_around text end at next off here inside k a from l stands =
    ⊎_elim (λ (early : k < at). off k a from early stands)
    (λ (late : at ≤ k). ⊎_elim (λ (further : at < k). inside k a further l stands) (λ (same : k ≤ at). here a (subst (λ i. StandsAt text false i a) (omega arith) stands)) (cases_lt at k))
    (cases_lt k at)

-- the same last one where no other begins since
still_last : (text : List ℕ) (end next : ℕ) (last : Option IpAddr) → IsLastBefore text end last → NoneIn text end next → IsLastBefore text next last
still_last text end next None before none = λ k a l stands. ⊎_elim (λ (early : k < end). before k a early stands) (λ (late : end ≤ k). none k a late l stands) (cases_lt k end)
still_last text end next (Some address) (at, here, after) none =
    (at, here, λ k a further l stands. ⊎_elim (λ (early : k < end). after k a further early stands) (λ (late : end ≤ k). none k a late l stands) (cases_lt k end))

pub last_next : (text : List ℕ) (end at next : ℕ) (found last : Option IpAddr) → IsLastBefore text end last → NoneIn text end at → Finds (StandsAt text false at) found
    → ((k : ℕ) (a : IpAddr) → at < k → k < next → StandsAt text false k a → ⊥) → IsLastBefore text next (later_of found last)
last_next text end at next (Some address) last before off here inside = (at, here, inside)
last_next text end at next None last before off here inside = still_last text end next last before (none_around text end at next off here inside)

pub last_of_all : (text : List ℕ) (end : ℕ) (last : Option IpAddr) → IsLastBefore text end last → ((k : ℕ) (a : IpAddr) → end ≤ k → StandsAt text false k a → ⊥) → FindsLast text false last
last_of_all text end None before none = λ k a stands. ⊎_elim (λ (early : k < end). before k a early stands) (λ (late : end ≤ k). none k a late stands) (cases_lt k end)
last_of_all text end (Some address) (at, here, after) none = record {
  at = at;
  here = here;
  last = λ k a further stands. ⊎_elim (λ (early : k < end). after k a further early stands) (λ (late : end ≤ k). none k a late stands) (cases_lt k end);
}
