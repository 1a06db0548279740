use Rattle.mmdb_blocks.proofs.listed.listed_blocks.Goals as goal

pub returns-clause-exact : goal.returns-clause-exact
returns-clause-exact c = λ a. rw (c.as_slice.ensures, c.as_slice-2.ensures, c.as_slice-3.ensures) at (c.in_ok-blocks.ensures.exact a)
