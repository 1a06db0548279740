use Rattle.mmdb_offsets.proofs.Words.{length-set_of, holds_none}
use Rattle.mmdb_offsets.proofs.offset_set.OffsetSet.new.Goals as goal

pub returns-clause-length : goal.returns-clause-length
returns-clause-length c = length-set_of c.in_ok-vec.field-0.items c.args.len

pub returns-clause-none : goal.returns-clause-none
returns-clause-none c = λ q. holds_none c.in_ok-vec.field-0.items _ c.args.len q (c.in_ok-vec.ensures.items_if_clones_equal (λ y h. h))
