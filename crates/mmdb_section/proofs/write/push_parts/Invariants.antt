use Rattle.std.proofs.Common.{◌≡◌, ◌++◌, take}
use Rattle.mmdb_section.specs.Bytes.{parts_bytes}
use Rattle.mmdb_section.specs.Working.{Appends, WritesParts}
use Rattle.mmdb_section.proofs.write.push_parts.Given as goal

-- the parts so far were put
abbrev pub invariant-loop-part : goal.invariant-loop-part
invariant-loop-part l = Appends (WritesParts (take l.part-index l.parts)) l.fn.out.items l.out.items × (l.out.items ≡ l.fn.out.items ++ parts_bytes (take l.part-index l.parts))
