use Rattle.std.proofs.Common.{refl, true}
use Rattle.mmdb_record.specs.Tables.{data_of, record_of}
use Rattle.mmdb_record.proofs.TableLaws.{part_first}
use Rattle.mmdb_record.proofs.memo.read_part_or_reuse.Goals as goal

pub returns-then-reuse : goal.returns-then-reuse
returns-then-reuse g c =
    let t = g.R.Fields.table in
    record {
      ok = part_first true (record_of t) c.args.met.now (data_of t c.args.part.now) (data_of t c.args.known.now) c.args.d.now c.reuse.new.d c.if-not-met.true c.requires.started (c.if-reuse.ensures.ok refl);
      err = tt;
      given_up = tt;
    }
