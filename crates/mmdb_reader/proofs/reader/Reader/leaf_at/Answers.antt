use Rattle.std.proofs.Common.{ℕ, ◌-◌, sym, ap, ◌∙◌, refl, arith}
use Rattle.std.proofs.lemmas.Bool.{false≢true}
use Rattle.mmdb_reader.proofs.ShownLemmas.{shown-parts, leaf-ipv4, leaf-ipv6}
use Rattle.mmdb_reader.proofs.reader.Reader.leaf_at.Goals as goal

pub overflow_sub-result-then-shows_as_ipv4 : goal.overflow_sub-result-then-shows_as_ipv4
overflow_sub-result-then-shows_as_ipv4 g c =
    let h = shown-parts c.args.self.now c.args.position c.requires (sym c.shows_as_ipv4.ensures ∙ c.if-shows_as_ipv4.true) in
    let same = c.width.ensures.value in
    let wide = c.from.ensures in
    omega (arith, h.1, same, wide)

pub invariant_of-result : goal.invariant_of-result
invariant_of-result g c =
    let h = shown-parts c.args.self.now c.args.position c.requires (sym c.shows_as_ipv4.ensures ∙ c.if-shows_as_ipv4.true) in
    let same = c.width.ensures.value in
    let wide = c.from.ensures in
    let within = c.requires.within in
    record { is_width = λ e. absurd (false≢true (sym e)); fits = h.0; is_prefix = omega (arith, h.1, same, wide, within) }

pub returns-then-shows_as_ipv4-clause-leaf : goal.returns-then-shows_as_ipv4-clause-leaf
returns-then-shows_as_ipv4-clause-leaf g c =
    let h = shown-parts c.args.self.now c.args.position c.requires (sym c.shows_as_ipv4.ensures ∙ c.if-shows_as_ipv4.true) in
    leaf-ipv4 c.args.self.now c.args.position _ _ refl (ap (λ (n : ℕ). n - 32) (c.from.ensures ∙ c.width.ensures.value)) h.0 h.1

pub returns-clause-leaf : goal.returns-clause-leaf
returns-clause-leaf g c =
    leaf-ipv6 c.args.self.now c.args.position _ c.requires (sym c.shows_as_ipv4.ensures ∙ c.if-shows_as_ipv4.false) (λ fits. refl)
