-- Walks side by side.
use Rattle.std.proofs.Common.{◌≡◌, ℕ, ◌+◌, ◌/◌, ◌^◌, ◌<◌, ◌≤◌, ◌≢◌, Bool, false, List, ◌++◌, length, get_or, set, slice_index, arith, sym, ap, ◌∙◌, subst, inl, inr, length-append}
use Rattle.std.proofs.lemmas.List.{get_or-set_same, get_or-set_other, get_or_default, take-append-le}
use Rattle.std.proofs.lemmas.Grind.{get_or-set_at}
use Rattle.std.proofs.lemmas.Bool.{cases_lt}
use Rattle.std.specs.declared.net.ip_addr.IpAddr.{IpAddr}
use Rattle.std.specs.declared.net.ip_addr.IpAddr.TheVariants.{V4, V6}
use Rattle.std.specs.Net.Addr.{ipv4_bits, ipv6_bits}
use Rattle.mmdb_net.specs.Bits.{bits_of}
use Rattle.mmdb_net.specs.Address.{bits_of_address}
use Rattle.mmdb_net.proofs.BitLaws.{length-bits_of, bits_of-split}
use Rattle.mmdb_tree.specs.declared.group.FoundLeaf.{FoundLeaf}
use Rattle.mmdb_tree.specs.Tree.{SearchTree, child, step}
use Rattle.mmdb_tree.specs.Descents.{Walks, Descends}
use Rattle.mmdb_tree.specs.Table.{IsFull}
use Rattle.mmdb_tree.specs.Groups.{HasEnded}
use Rattle.mmdb_tree.specs.Working.{AllWalkOn, WalksOn, IsBitsOf, AreWordsOf, BeginsWith}
use Rattle.mmdb_tree.proofs.WalkLemmas.{Walks-more, step-child}

-- a step from a node
pub Walks-step : (tree : SearchTree) (start : ℕ) (bits : List Bool) (taken before node number : ℕ) (right : Bool) → before ≡ taken → node < tree.node_count → taken < length bits → right ≡ get_or bits taken false
    → number ≡ step tree node right → Walks tree start bits before node → Walks tree start bits (taken + 1) number
Walks-step tree start bits taken before node number right at on more is_right is walked =
    let P : ℕ → Type 0 = λ t. Walks tree start bits t node in
    let value : number ≡ child tree.bytes tree.record_size node (get_or bits taken false) = is ∙ step-child tree node right on ∙ ap (child tree.bytes tree.record_size node) is_right in
    Walks-more tree start bits taken node number (subst P at walked) more on value

pub length-address : (address : IpAddr) → length (bits_of_address address) ≤ 128
length-address (V4 a) = omega (arith, length-bits_of 32 (ipv4_bits a))
length-address (V6 a) = omega (arith, length-bits_of 128 (ipv6_bits a))

-- a walk that takes no fewer than all bits has ended
pub Walks-all : (tree : SearchTree) (start : ℕ) (address : IpAddr) (taken number : ℕ) → 128 ≤ taken → Walks tree start (bits_of_address address) taken number → Descends tree start (bits_of_address address) 128 number
Walks-all tree start address taken number all walked =
    let few = length-address address in
    let inside = walked.within in
    let is : taken ≡ 128 = omega (arith, all, few, inside) in
    let P : ℕ → Type 0 = λ t. Walks tree start (bits_of_address address) t number in
    record { walks = subst P is walked; ends = λ short. absurd (omega (arith, short, few)) }

-- ---- all of them

pub AllWalkOn-then : (Along : ℕ → List Bool → Type 0) (tree : SearchTree) (one two three : List FoundLeaf) → AllWalkOn Along tree one two → AllWalkOn Along tree two three → AllWalkOn Along tree one three
AllWalkOn-then Along tree one two three first second i d bits b start w = second i d bits b start (first i d bits b start w)

pub AllWalkOn-words : (tree : SearchTree) (addresses : List IpAddr) (words : List ℕ) (old new : List FoundLeaf) → AreWordsOf addresses words → AllWalkOn (λ i bits. BeginsWith (slice_index words i) bits) tree old new → AllWalkOn (IsBitsOf addresses) tree old new
AllWalkOn-words tree addresses words old new are go i d bits b = go i d bits (are i bits b)

module _ (Along : ℕ → List Bool → Type 0) (tree : SearchTree) (old leaves : List FoundLeaf) (k : ℕ) (d0 next : FoundLeaf) (within : k < length leaves) (all : AllWalkOn Along tree old leaves) (here : (bits : List Bool) → Along k bits → WalksOn tree bits (get_or leaves k d0) next) where
  set-at : (d : FoundLeaf) (bits : List Bool) → Along k bits → WalksOn tree bits (get_or old k d) (get_or (set leaves k next) k d)
  set-at d bits b start w =
      let W : FoundLeaf → Type 0 = λ l. Walks tree start bits l.taken l.number in
      subst W (sym (get_or-set_same leaves k next d within)) (here bits b start (subst W (get_or_default leaves k d d0 within) (all k d bits b start w)))

  set-away : (i : ℕ) (d : FoundLeaf) (bits : List Bool) → i ≢ k → Along i bits → WalksOn tree bits (get_or old i d) (get_or (set leaves k next) i d)
  set-away i d bits apart b start w =
      let W : FoundLeaf → Type 0 = λ l. Walks tree start bits l.taken l.number in
      subst W (sym (get_or-set_other leaves k i next d apart)) (all i d bits b start w)

  -- a step of the walk at an index
  pub AllWalkOn-set : AllWalkOn Along tree old (set leaves k next)
  AllWalkOn-set i d bits b = elim (cases_lt i k) [
    | inl less ↦ set-away i d bits (λ same. absurd (omega (arith, same, less))) b
    | inr not_less ↦ elim (cases_lt k i) [
      | inl more ↦ set-away i d bits (λ same. absurd (omega (arith, same, more))) b
      | inr not_more ↦
          let at : k ≡ i = omega (arith, not_less, not_more) in
          let R : ℕ → Type 0 = λ n. Along n bits → WalksOn tree bits (get_or old n d) (get_or (set leaves k next) n d) in
          subst R at (set-at d bits) b
    ]
  ]

-- one more of the words
pub words-set : (addresses : List IpAddr) (words : List ℕ) (i : ℕ) (a0 : IpAddr) (next : ℕ) → i < length words → ((j : ℕ) (bits : List Bool) → j < i → IsBitsOf addresses j bits → BeginsWith (slice_index words j) bits)
    → BeginsWith next (bits_of_address (get_or addresses i a0)) → (j : ℕ) (bits : List Bool) → j < i + 1 → IsBitsOf addresses j bits → BeginsWith (slice_index (set words i next) j) bits
words-set addresses words i a0 next within before here j bits h b =
    let W : ℕ → Type 0 = λ w. BeginsWith w bits in
    elim (cases_lt j i) [
      | inl less ↦ subst W (sym (get_or-set_other words i j next 0 (λ same. absurd (omega (arith, same, less))))) (before j bits less b)
      | inr not_less ↦
          let at : j ≡ i = omega (arith, h, not_less) in
          let B : List Bool → Type 0 = λ bs. BeginsWith next bs in
          let same : bits ≡ bits_of_address (get_or addresses i a0) = b.1 a0 ∙ ap (λ (n : ℕ). bits_of_address (get_or addresses n a0)) at in
          subst W (sym (get_or-set_at words i j next 0 at within)) (subst B (sym same) here)
    ]

-- the walk at an index ends here, if it had come to the old place
abbrev pub Ends : SearchTree → List IpAddr → List FoundLeaf → ℕ → FoundLeaf → Type 0
Ends tree addresses old j leaf =
    (a : IpAddr) (o : FoundLeaf) (start : ℕ) → Walks tree start (bits_of_address (get_or addresses j a)) (get_or old j o).taken (get_or old j o).number → HasEnded tree start (bits_of_address (get_or addresses j a)) leaf

pub Ends-at : (tree : SearchTree) (addresses : List IpAddr) (old leaves : List FoundLeaf) (j : ℕ) (a0 : IpAddr) (d0 leaf : FoundLeaf) → j < length addresses → j < length old → get_or leaves j d0 ≡ get_or old j d0
    → ((start : ℕ) → Walks tree start (bits_of_address (get_or addresses j a0)) (get_or leaves j d0).taken (get_or leaves j d0).number → HasEnded tree start (bits_of_address (get_or addresses j a0)) leaf) → Ends tree addresses old j leaf
Ends-at tree addresses old leaves j a0 d0 leaf inside within same ends a o start w =
    let W : FoundLeaf → Type 0 = λ l. Walks tree start (bits_of_address (get_or addresses j a)) l.taken l.number in
    let E : IpAddr → Type 0 = λ x. Walks tree start (bits_of_address x) (get_or leaves j d0).taken (get_or leaves j d0).number → HasEnded tree start (bits_of_address x) leaf in
    subst E (get_or_default addresses j a0 a inside) (ends start) (subst W (get_or_default old j o d0 within ∙ sym same) w)

-- as does one that has left the nodes
pub Ends-off : (tree : SearchTree) (addresses : List IpAddr) (old leaves : List FoundLeaf) (j : ℕ) (d0 : FoundLeaf) → j < length old → get_or leaves j d0 ≡ get_or old j d0 → tree.node_count ≤ (get_or leaves j d0).number
    → Ends tree addresses old j (get_or leaves j d0)
Ends-off tree addresses old leaves j d0 within same off a o start w =
    let W : FoundLeaf → Type 0 = λ l. Walks tree start (bits_of_address (get_or addresses j a)) l.taken l.number in
    record { walks = subst W (get_or_default old j o d0 within ∙ sym same) w; ends = λ _. off }

-- ---- one leaf after the other

module _ (P : ℕ → FoundLeaf → Type 0) (leaves new : List FoundLeaf) (i : ℕ) (next : FoundLeaf) (is : new ≡ set leaves i next) (within : i < length leaves) where
  other : (j : ℕ) (d : FoundLeaf) → j ≢ i → P j (get_or leaves j d) → P j (get_or new j d)
  other j d apart p =
      let same : get_or new j d ≡ get_or leaves j d = ap (λ (xs : List FoundLeaf). get_or xs j d) is ∙ get_or-set_other leaves i j next d apart in
      subst (P j) (sym same) p

  pub set-done : ((j : ℕ) (d : FoundLeaf) → j < i → P j (get_or leaves j d)) → P i next → (j : ℕ) (d : FoundLeaf) → j < i + 1 → P j (get_or new j d)
  set-done before here j d h = elim (cases_lt j i) [
    | inl less ↦ other j d (λ same. absurd (omega (arith, same, less))) (before j d less)
    | inr more ↦
        let at : i ≡ j = omega arith in
        let Q : ℕ → Type 0 = λ k. P k (get_or new k d) in
        let same : get_or new i d ≡ next = ap (λ (xs : List FoundLeaf). get_or xs i d) is ∙ get_or-set_same leaves i next d within in
        subst Q at (subst (P i) (sym same) here)
  ]

module _ (P : ℕ → FoundLeaf → Type 0) (leaves new : List FoundLeaf) (i : ℕ) (d0 : FoundLeaf) (is : new ≡ leaves) (within : i < length leaves) where
  pub kept-done : ((j : ℕ) (d : FoundLeaf) → j < i → P j (get_or leaves j d)) → P i (get_or leaves i d0) → (j : ℕ) (d : FoundLeaf) → j < i + 1 → P j (get_or new j d)
  kept-done before here j d h =
      let R : List FoundLeaf → Type 0 = λ xs. P j (get_or xs j d) in
      subst R (sym is) (elim (cases_lt j i) [
        | inl less ↦ before j d less
        | inr more ↦
            let at : i ≡ j = omega arith in
            let Q : ℕ → Type 0 = λ k. P k (get_or leaves k d) in
            subst Q at (subst (P i) (get_or_default leaves i d0 d within) here)
      ])

-- ---- where the walks begin

Walks-append : (tree : SearchTree) (start : ℕ) (xs ys : List Bool) (taken number : ℕ) → Walks tree start xs taken number → Walks tree start (xs ++ ys) taken number
Walks-append tree start xs ys taken number w =
    let inside = w.within in
    record {
      within = omega (arith, inside, length-append xs ys);
      reached = let le : taken ≤ length xs = inside in rw take-append-le w.reached;
      on_nodes = λ k h. let le : k ≤ length xs = omega arith in rw take-append-le (w.on_nodes k h);
    }

-- at the entry of a table of the first sixteen bits
pub Walks-entry : (tree : SearchTree) (start n rest width : ℕ) (numbers depths : List ℕ) (leaf : FoundLeaf) → width ≡ 16 + rest → IsFull tree start numbers depths → n / 2 ^ rest < 65536
    → leaf.number ≡ get_or numbers (n / 2 ^ rest) 0 → leaf.taken ≡ get_or depths (n / 2 ^ rest) 0 → Walks tree start (bits_of width n) leaf.taken leaf.number
Walks-entry tree start n rest width numbers depths leaf wide full below number taken =
    let there = full.each (n / 2 ^ rest) below in
    let N : ℕ → Type 0 = λ m. Walks tree start (bits_of width n) (get_or depths (n / 2 ^ rest) 0) m in
    let T : ℕ → Type 0 = λ t. Walks tree start (bits_of width n) t leaf.number in
    let walked : Walks tree start (bits_of width n) (get_or depths (n / 2 ^ rest) 0) (get_or numbers (n / 2 ^ rest) 0) =
    rw (bits_of-split 16 rest width n wide) (Walks-append tree start (bits_of 16 (n / 2 ^ rest)) (bits_of rest n) (get_or depths (n / 2 ^ rest) 0) (get_or numbers (n / 2 ^ rest) 0) there.walks) in
    subst T (sym taken) (subst N (sym number) walked)
