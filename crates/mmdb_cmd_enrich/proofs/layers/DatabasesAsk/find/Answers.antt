use Rattle.std.proofs.Common.{rules, ◌≡◌, ◌+◌, [], ◌∷◌, ◌++◌, drop, length, sym, ap, ◌∙◌, subst, arith}
use Rattle.std.proofs.lemmas.List.{drop_more, length_push}
use Rattle.mmdb_cmd_enrich.specs.Ahead.{AreFoundIn}
use Rattle.mmdb_cmd_enrich.proofs.AheadLaws.{found_more}
use Rattle.mmdb_cmd_enrich.proofs.layers.DatabasesAsk.find.Goals as goal

pub loop-reader-preserved : goal.loop-reader-preserved
loop-reader-preserved g c =
    let dbs = c.args.self.now.readers.now in
    let i = c.loop-reader.reader-index in
    let all = c.loop-reader.room.leaves.items in
    let here : drop i dbs ≡ c.reader-item.result ∷ drop (i + 1) dbs = drop_more dbs i c.reader-item.result (omega arith) ∙ ap (λ y. y ∷ drop (i + 1) dbs) (sym c.reader-item.is) in
    let next = ap (λ n. drop n dbs) c.loop-reader.invariant.count ∙ here in
    let put : c.push.new.self.items ≡ all ++ (c.find.new.self ∷ []) = search rules in
    let known = found_more dbs (drop (i + 1) dbs) c.reader-item.result c.args.addresses.now all c.find.new.self next c.loop-reader.invariant.known c.find.ensures in
    record {
      known = subst (AreFoundIn dbs c.args.addresses.now) (sym put) known;
      count = ap length put ∙ length_push all c.find.new.self ∙ ap (λ n. n + 1) c.loop-reader.invariant.count;
    }
