-- Lookups of several addresses.
use Rattle.std.proofs.Common.{◌≡◌, ℕ, ◌+◌, ◌<◌, List, [], ◌∷◌, true, false, length, get_or, set, arith, sym, ap, subst, inl, inr}
use Rattle.std.proofs.lemmas.List.{get_or-set_same, get_or-set_other, get_or_default}
use Rattle.std.proofs.lemmas.Bool.{cases_lt}
use Rattle.std.specs.declared.net.ip_addr.IpAddr.{IpAddr}
use Rattle.std.specs.declared.net.ip_addr.IpAddr.TheVariants.{V4, V6}
use Rattle.mmdb_net.specs.Bits.{bits_of}
use Rattle.mmdb_net.specs.Address.{bits_of_address}
use Rattle.mmdb_c.specs.declared.many.Address.{Address}
use Rattle.mmdb_c.specs.Many.{ipv4_given, ipv6_given}
use Rattle.mmdb_c.specs.Working.{IsIpOf}

-- some address
abbrev pub some_ip : IpAddr
some_ip = V6 (record { segments = 0 ∷ 0 ∷ 0 ∷ 0 ∷ 0 ∷ 0 ∷ 0 ∷ 0 ∷ [] })

-- what holds of the element at an index holds of it by any default
pub at_index : {A : Type 0} (P : A → Type 0) (xs : List A) (i : ℕ) (a0 : A) → i < length xs → P (get_or xs i a0) → (a : A) → P (get_or xs i a)
at_index P xs i a0 within p a = subst P (get_or_default xs i a0 a within) p

module _ {X : Type 0} (P : ℕ → X → Type 0) (xs : List X) (i : ℕ) (next : X) (within : i < length xs) where
  -- what holds at each index below one holds there too, where it holds of what is put there
  pub one_more : ((j : ℕ) (d : X) → j < i → P j (get_or xs j d)) → P i next → (j : ℕ) (d : X) → j < i + 1 → P j (get_or (set xs i next) j d)
  one_more before here j d h = elim (cases_lt j i) [
    | inl less ↦ subst (P j) (sym (get_or-set_other xs i j next d (λ same. absurd (omega (arith, same, less))))) (before j d less)
    | inr more ↦
        let at : i ≡ j = omega (arith, h, more) in
        let Q : ℕ → Type 0 = λ k. P k (get_or (set xs i next) k d) in
        subst Q at (subst (P i) (sym (get_or-set_same xs i next d within)) here)
  ]

-- the bits of an address are those that are given
pub ipv4_bits-given : (address : Address) (ip : IpAddr) → IsIpOf address ip → address.is_ipv6 ≡ false → bits_of_address ip ≡ bits_of 32 (ipv4_given address)
ipv4_bits-given address (V4 a) is four = ap (bits_of 32) is.1
ipv4_bits-given address (V6 a) is four = let six = is.0 in absurd (cc)

pub ipv6_bits-given : (address : Address) (ip : IpAddr) → IsIpOf address ip → address.is_ipv6 ≡ true → bits_of_address ip ≡ bits_of 128 (ipv6_given address)
ipv6_bits-given address (V4 a) is six = let four = is.0 in absurd (cc)
ipv6_bits-given address (V6 a) is six = ap (bits_of 128) is.1
