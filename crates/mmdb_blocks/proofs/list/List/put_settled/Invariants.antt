use Rattle.std.proofs.Common.{◌≡◌, take}
use Rattle.std.specs.Io.KnownBytes.{Appends}
use Rattle.mmdb_blocks.specs.Lists.{page_of, printed, with_blocks}
use Rattle.mmdb_blocks.specs.Joining.{settled_of}
use Rattle.mmdb_blocks.proofs.list.List.put_settled.Given as goal

abbrev pub invariant-loop-index : goal.invariant-loop-index
invariant-loop-index g l = record {
  joiner : l.self.joiner ≡ l.initial.self.joiner;
  kind : l.self.kind ≡ l.initial.self.kind;
  page : page_of l.self ≡ with_blocks (page_of l.initial.self) l.kind (take l.index (settled_of l.initial.self.joiner));
  written : Appends (g.O.Write.contents l.initial.out) (g.O.Write.contents l.out) (printed (page_of l.initial.self) l.kind (take l.index (settled_of l.initial.self.joiner)));
}
