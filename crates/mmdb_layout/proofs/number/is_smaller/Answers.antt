use Rattle.std.proofs.Common.{arith, ◌≡◌, ◌+◌, ◌-◌, ◌*◌, ◌^◌, ◌<◌, ℕ, min, ap, ◌∙◌}
use Rattle.std.specs.Str.Parse.{digits_value}
use Rattle.fast_float.specs.Text.{digits_of, tens_up, tens_down}
use Rattle.mmdb_layout.proofs.ScaleLaws.{scaled, more_tens, equal_ends, along}
use Rattle.mmdb_layout.proofs.number.is_smaller.Goals as goal

pub returns : goal.returns
returns c =
    let a = c.args.number.now.numeral in
    let b = c.args.other.now.numeral in
    let most : ℕ = c.max-most.result in
    let up_a : ℕ = tens_up a in let up_b : ℕ = tens_up b in
    let down_a : ℕ = tens_down a in let down_b : ℕ = tens_down b in
    let tens : c.tens_up.result + c.tens_down.result ≡ up_a + down_b = omega (arith, c.tens_up.ensures.value, c.tens_down.ensures.value) in
    let other_tens : c.tens_up-2.result + c.tens_down-2.result ≡ up_b + down_a = omega (arith, c.tens_up-2.ensures.value, c.tens_down-2.ensures.value) in
    let zeros : c.excess-zeros.result ≡ min (up_a + down_b - (up_b + down_a)) most = omega (arith, c.excess-zeros.ensures, tens, other_tens) in
    let other_zeros : c.excess-other_zeros.result ≡ min (up_b + down_a - (up_a + down_b)) most = omega (arith, c.excess-other_zeros.ensures, tens, other_tens) in
    let own = ap (digits_value 10) c.as_slice.ensures.value ∙ c.in_ok-digits.ensures.value ∙ ap (λ n. digits_of a * 10 ^ n) zeros in
    let other = ap (digits_value 10) c.as_slice-2.ensures.value ∙ c.in_ok-others.ensures.value ∙ ap (λ n. digits_of b * 10 ^ n) other_zeros in
    let small_a : digits_of a < 10 ^ most = omega (arith, c.count.ensures.bound, more_tens c.count.result most (omega (arith, c.max-most.ensures))) in
    let small_b : digits_of b < 10 ^ most = omega (arith, c.count-2.ensures.bound, more_tens c.count-2.result most (omega (arith, c.max-most.ensures))) in
    along c.are_smaller.ensures (along (equal_ends _ _ _ _ own other) (scaled (digits_of a) (digits_of b) up_a up_b down_a down_b most small_a small_b))
