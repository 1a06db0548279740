use Rattle.std.proofs.Common.{take, drop}
use Rattle.std.proofs.Math.Seq.{take-add}
use Rattle.std.proofs.lemmas.Str.{IsUtf8-append}
use Rattle.mmdb_format.proofs.utf8.is_short_chars.Goals as goal

pub loop-at-preserved : goal.loop-at-preserved
loop-at-preserved c =
    let bytes = c.args.bytes.now in
    record {
      fits = c.in-Some.ensures.some.1;
      text = rw (take-add c.loop-at.at c.in-Some.len bytes) (IsUtf8-append (take c.loop-at.at bytes) (take c.in-Some.len (drop c.loop-at.at bytes)) c.loop-at.invariant.text c.in-Some.ensures.text);
    }
