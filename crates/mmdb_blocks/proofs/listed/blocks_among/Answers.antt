use Rattle.mmdb_blocks.proofs.RangeLaws.{listed-exact}
use Rattle.mmdb_blocks.proofs.listed.blocks_among.Goals as goal

pub returns-clause-exact : goal.returns-clause-exact
returns-clause-exact c = λ a. listed-exact
    (rw c.as_slice-4.ensures.value at (c.in_ok-blocks.ensures.exact a))
    (rw (c.as_slice-2.ensures.value, c.as_slice-3.ensures.value) at (c.in_ok-left.ensures a))
    (rw c.as_slice.ensures.value at (c.in_ok-joined.ensures a))
    (c.in_ok-all.ensures.same a)
    (c.in_ok-excepted.ensures.same a)
    (λ h. h)
