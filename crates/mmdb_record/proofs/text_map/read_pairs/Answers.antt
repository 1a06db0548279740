use Rattle.std.proofs.Common.{◌-◌, refl, false, map}
use Rattle.std.proofs.lemmas.Result.{err_from_is_err_and}
use Rattle.std.specs.String.{string_bytes, string_cmp}
use Rattle.mmdb_decode.specs.Maps.{key_at, pair_of}
use Rattle.mmdb_decode.specs.Errors.{Kept}
use Rattle.mmdb_decode.specs.State.{decoded}
use Rattle.mmdb_decode.proofs.MapLaws.{same_entries, some_left_to_read, pairs_done, pairs_go_on, pairs_stop, pairs_nameless}
use Rattle.mmdb_record.proofs.PairLaws.{pair_ok, pair_none, put_is}
use Rattle.mmdb_decode.proofs.StepLaws.{fails, fails_weaker, kept_decoded, kept_trans, given_up_trans, given_up_kept, still_begun}
use Rattle.mmdb_record.proofs.text_map.read_pairs.Goals as goal

pub returns-in_err-key-clause-err : goal.returns-in_err-key-clause-err
returns-in_err-key-clause-err g c = let p = err_from_is_err_and c.from_residual.result c.from_residual.ensures.1 in rw (p.1, p.2) (λ x. fails false c.in_err-key.field-0.0 _ (pairs_nameless key_at (pair_of g.T.Decode.meaning) _ (map (λ e. (string_bytes e.0, g.T.Decode.datum e.1)) c.loop-pairs.pairs.entries) c.loop-pairs.entries.remaining (c.loop-pairs.entries.remaining - 1) c.loop-pairs.d (c.loop-pairs.invariant.rest x) (some_left_to_read c.loop-pairs.entries.remaining c.in_err-key.ensures.key.some) c.in_err-key.ensures.key.fails))

pub returns-in_err-value-clause-err : goal.returns-in_err-value-clause-err
returns-in_err-value-clause-err g c =
    let k = rw c.in-Some.is at c.in_ok-key.ensures.key in
    let named : Kept c.loop-pairs.d c.next_key.new.self = kept_decoded false key_at c.loop-pairs.d c.next_key.new.self c.in-Some.key.now k.step in
    let p = err_from_is_err_and c.from_residual-in_err-value.result c.from_residual-in_err-value.ensures.1 in
    rw (p.1, p.2) (λ x. fails_weaker g.T.Decode.free c.in_err-value.field-0.0 (decoded g.T.Decode.starts g.T.Decode.meaning c.next_key.new.self) _ (λ h. pairs_stop key_at (pair_of g.T.Decode.meaning) _ (map (λ e. (string_bytes e.0, g.T.Decode.datum e.1)) c.loop-pairs.pairs.entries) c.in-Some.key.now c.loop-pairs.entries.remaining c.next_key.new.entries.remaining c.loop-pairs.d c.next_key.new.self (c.loop-pairs.invariant.rest x) k.one k.step (pair_none g.T.Decode.starts g.T.Decode.meaning (map (λ e. (string_bytes e.0, g.T.Decode.datum e.1)) c.loop-pairs.pairs.entries) c.in-Some.key.now c.next_key.new.self (still_begun c.loop-pairs.d.budget c.next_key.new.self.budget named.charges c.loop-pairs.invariant.started) h)) (c.in_err-value.ensures.err x))

pub returns-in_err-value-clause-given_up : goal.returns-in_err-value-clause-given_up
returns-in_err-value-clause-given_up g c =
    let k = rw c.in-Some.is at c.in_ok-key.ensures.key in
    let named : Kept c.loop-pairs.d c.next_key.new.self = kept_decoded false key_at c.loop-pairs.d c.next_key.new.self c.in-Some.key.now k.step in
    let p = err_from_is_err_and c.from_residual-in_err-value.result c.from_residual-in_err-value.ensures.1 in
    rw p.1 (given_up_trans c.args.d.now c.next_key.new.self c.decode.new.d (kept_trans c.args.d.now c.loop-pairs.d c.next_key.new.self c.loop-pairs.invariant.kept named) c.in_err-value.ensures.given_up)

pub returns-in_err-from_str-clause-given_up : goal.returns-in_err-from_str-clause-given_up
returns-in_err-from_str-clause-given_up g c =
    let k = rw c.in-Some.is at c.in_ok-key.ensures.key in
    let named : Kept c.loop-pairs.d c.next_key.new.self = kept_decoded false key_at c.loop-pairs.d c.next_key.new.self c.in-Some.key.now k.step in
    let p = err_from_is_err_and c.from_residual-in_err-from_str.result c.from_residual-in_err-from_str.ensures.1 in
    rw p.1 (given_up_kept c.args.d.now c.decode.new.d (kept_trans c.args.d.now c.loop-pairs.d c.decode.new.d c.loop-pairs.invariant.kept (kept_trans c.loop-pairs.d c.next_key.new.self c.decode.new.d named c.in_ok-value.ensures.kept)))

pub returns-in_err-insert-clause-given_up : goal.returns-in_err-insert-clause-given_up
returns-in_err-insert-clause-given_up g c =
    let k = rw c.in-Some.is at c.in_ok-key.ensures.key in
    let named : Kept c.loop-pairs.d c.next_key.new.self = kept_decoded false key_at c.loop-pairs.d c.next_key.new.self c.in-Some.key.now k.step in
    let p = err_from_is_err_and c.from_residual-in_err-insert.result c.from_residual-in_err-insert.ensures.1 in
    rw p.1 (given_up_kept c.args.d.now c.decode.new.d (kept_trans c.args.d.now c.loop-pairs.d c.decode.new.d c.loop-pairs.invariant.kept (kept_trans c.loop-pairs.d c.next_key.new.self c.decode.new.d named c.in_ok-value.ensures.kept)))

pub loop-pairs-preserved-in_ok-insert : goal.loop-pairs-preserved-in_ok-insert
loop-pairs-preserved-in_ok-insert g c =
    let k = rw c.in-Some.is at c.in_ok-key.ensures.key in
    let named : Kept c.loop-pairs.d c.next_key.new.self = kept_decoded false key_at c.loop-pairs.d c.next_key.new.self c.in-Some.key.now k.step in
    let both : Kept c.loop-pairs.d c.decode.new.d = kept_trans c.loop-pairs.d c.next_key.new.self c.decode.new.d named c.in_ok-value.ensures.kept in
    record {
      rest = λ x. pairs_go_on key_at (pair_of g.T.Decode.meaning) _ (map (λ e. (string_bytes e.0, g.T.Decode.datum e.1)) c.loop-pairs.pairs.entries) (map (λ e. (string_bytes e.0, g.T.Decode.datum e.1)) c.insert.new.self.entries) c.in-Some.key.now c.loop-pairs.entries.remaining c.next_key.new.entries.remaining c.loop-pairs.d c.next_key.new.self c.decode.new.d (c.loop-pairs.invariant.rest x) k.one k.step (pair_ok g.T.Decode.starts g.T.Decode.meaning (map (λ e. (string_bytes e.0, g.T.Decode.datum e.1)) c.loop-pairs.pairs.entries) (map (λ e. (string_bytes e.0, g.T.Decode.datum e.1)) c.insert.new.self.entries) c.in-Some.key.now (g.T.Decode.datum c.in_ok-value.value) c.next_key.new.self c.decode.new.d (still_begun c.loop-pairs.d.budget c.next_key.new.self.budget named.charges c.loop-pairs.invariant.started) (c.in_ok-value.ensures.ok x) (put_is string_cmp string_bytes g.T.Decode.datum (λ x y. refl) c.loop-pairs.pairs.entries c.insert.new.self.entries c.in_ok-from_str.field-0 c.in-Some.key.now c.in_ok-value.value c.in_ok-insert.ensures.entries c.in_ok-from_str.ensures.ok));
      kept = kept_trans c.args.d.now c.loop-pairs.d c.decode.new.d c.loop-pairs.invariant.kept both;
      started = still_begun c.loop-pairs.d.budget c.decode.new.d.budget both.charges c.loop-pairs.invariant.started;
      same = same_entries c.args.entries.now c.loop-pairs.entries c.next_key.new.entries c.loop-pairs.invariant.same c.in_ok-key.ensures.rest;
    }

pub loop-pairs-preserved : goal.loop-pairs-preserved
loop-pairs-preserved g c =
    let k = rw c.in-Some.is at c.in_ok-key.ensures.key in
    let named : Kept c.loop-pairs.d c.next_key.new.self = kept_decoded false key_at c.loop-pairs.d c.next_key.new.self c.in-Some.key.now k.step in
    let both : Kept c.loop-pairs.d c.decode.new.d = kept_trans c.loop-pairs.d c.next_key.new.self c.decode.new.d named c.in_ok-value.ensures.kept in
    record {
      rest = λ x. pairs_go_on key_at (pair_of g.T.Decode.meaning) _ (map (λ e. (string_bytes e.0, g.T.Decode.datum e.1)) c.loop-pairs.pairs.entries) (map (λ e. (string_bytes e.0, g.T.Decode.datum e.1)) c.insert.new.self.entries) c.in-Some.key.now c.loop-pairs.entries.remaining c.next_key.new.entries.remaining c.loop-pairs.d c.next_key.new.self c.decode.new.d (c.loop-pairs.invariant.rest x) k.one k.step (pair_ok g.T.Decode.starts g.T.Decode.meaning (map (λ e. (string_bytes e.0, g.T.Decode.datum e.1)) c.loop-pairs.pairs.entries) (map (λ e. (string_bytes e.0, g.T.Decode.datum e.1)) c.insert.new.self.entries) c.in-Some.key.now (g.T.Decode.datum c.in_ok-value.value) c.next_key.new.self c.decode.new.d (still_begun c.loop-pairs.d.budget c.next_key.new.self.budget named.charges c.loop-pairs.invariant.started) (c.in_ok-value.ensures.ok x) (put_is string_cmp string_bytes g.T.Decode.datum (λ x y. refl) c.loop-pairs.pairs.entries c.insert.new.self.entries c.in_ok-from_str.field-0 c.in-Some.key.now c.in_ok-value.value c.in_ok-insert.ensures.entries c.in_ok-from_str.ensures.ok));
      kept = kept_trans c.args.d.now c.loop-pairs.d c.decode.new.d c.loop-pairs.invariant.kept both;
      started = still_begun c.loop-pairs.d.budget c.decode.new.d.budget both.charges c.loop-pairs.invariant.started;
      same = same_entries c.args.entries.now c.loop-pairs.entries c.next_key.new.entries c.loop-pairs.invariant.same c.in_ok-key.ensures.rest;
    }

pub returns-clause-ok : goal.returns-clause-ok
returns-clause-ok g c = let k = rw c.in_default.is at c.in_ok-key.ensures.key in λ x. pairs_done key_at (pair_of g.T.Decode.meaning) _ (map (λ e. (string_bytes e.0, g.T.Decode.datum e.1)) c.loop-pairs.pairs.entries) c.loop-pairs.entries.remaining c.loop-pairs.d c.next_key.new.self (c.loop-pairs.invariant.rest x) k.none k.same k.within
