use Rattle.std.proofs.Common.{◌≡◌, ◌++◌, take}
use Rattle.mmdb_section.specs.Bytes.{pairs_bytes}
use Rattle.mmdb_section.specs.Working.{Appends, WritesPairs}
use Rattle.mmdb_section.proofs.write.push_pairs.Given as goal

-- the pairs so far were put
abbrev pub invariant-loop-key : goal.invariant-loop-key
invariant-loop-key l = Appends (WritesPairs (take l.key-index l.pairs)) l.fn.out.items l.out.items × (l.out.items ≡ l.fn.out.items ++ pairs_bytes (take l.key-index l.pairs))
