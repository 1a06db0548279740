-- An address in brackets.
use Rattle.std.proofs.Common.{◌≡◌, ◌⊎◌, ℕ, ◌+◌, ◌-◌, ◌<◌, ◌≤◌, true, not, eqb, List, length, get_or, take, drop, Option, sym, ap, subst, ◌∙◌, arith}
use Rattle.std.proofs.lemmas.Bool.{ne_eqb}
use Rattle.std.proofs.lemmas.List.{drop-take}
use Rattle.std.proofs.lemmas.List.Sums.{prefix_len-drop_yes}
use Rattle.std.specs.List.{prefix_len, position_or_len}
use Rattle.std.specs.Net.Grammar.{IsIpText}
use Rattle.std.specs.declared.net.ip_addr.IpAddr.{IpAddr}
use Rattle.mmdb_addresses.specs.Addresses.{Finds}
use Rattle.mmdb_addresses.specs.Kinds.{has}
use Rattle.mmdb_addresses.specs.Words.{HasBrackets, HasZone, IsEnd, before, after}
use Rattle.mmdb_addresses.specs.declared.bytes.AddressKind.TheVariants.{Not}
use Rattle.mmdb_addresses.proofs.FindLaws.{finds_like}

module _ (word : List ℕ) (bracket : ℕ) (some : 0 < length word) (opens : get_or word 0 0 ≡ 91) (is : bracket ≡ 1 + prefix_len (has (Not 93)) (drop 1 word)) where
  pub closes_at : position_or_len (λ x. eqb x 93) word ≡ bracket
  closes_at =
      let other : not (eqb (get_or word 0 0) 93) ≡ true = ap not (ne_eqb _ _ (λ (e : get_or word 0 0 ≡ 93). omega arith)) in
      prefix_len-drop_yes (λ x. not (eqb x 93)) word 0 0 some other ∙ sym is

  inside_is : drop 1 (before 93 word) ≡ take (bracket - 1) (drop 1 word)
  inside_is =
      let same : bracket ≡ 1 + (bracket - 1) = omega (arith, is) in
      ap (λ n. drop 1 (take n word)) (closes_at ∙ same) ∙ drop-take 1 (bracket - 1) word

  after_is : after 93 word ≡ drop (bracket + 1) word
  after_is = ap (λ n. drop (n + 1) word) closes_at

  pub no_end : (IsEnd (drop (bracket + 1) word) → ⊥) → (address : IpAddr) → HasBrackets word address → ⊥
  no_end none address has = none (subst IsEnd after_is has.end)

  pub not_closed : length word ≤ bracket → (address : IpAddr) → HasBrackets word address → ⊥
  not_closed over address has = omega (arith, closes_at, has.closes)

  pub finds_inside : bracket < length word → IsEnd (drop (bracket + 1) word) → (found : Option IpAddr)
      → Finds (λ address. IsIpText (take (bracket - 1) (drop 1 word)) address ⊎ HasZone (take (bracket - 1) (drop 1 word)) address) found → Finds (HasBrackets word) found
  finds_inside closed end found finds =
      finds_like (λ address. IsIpText (take (bracket - 1) (drop 1 word)) address ⊎ HasZone (take (bracket - 1) (drop 1 word)) address) (HasBrackets word) found
      (λ a inside. record {
        opens = opens;
        closes = omega (arith, closes_at);
        inside = subst (λ t. IsIpText t a ⊎ HasZone t a) (sym inside_is) inside;
        end = subst IsEnd (sym after_is) end;
      })
      (λ a brackets. subst (λ t. IsIpText t a ⊎ HasZone t a) inside_is brackets.inside)
      finds
