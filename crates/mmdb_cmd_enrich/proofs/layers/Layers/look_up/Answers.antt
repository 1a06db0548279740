use Rattle.std.proofs.Common.{rules, ◌≡◌, ◌+◌, [], ◌∷◌, ◌++◌, IfSome, drop, sym, ap, ◌∙◌, subst, arith}
use Rattle.std.proofs.lemmas.List.{drop_more, drop_all}
use Rattle.mmdb_cmd_enrich.specs.Ahead.{AreFoundIn}
use Rattle.mmdb_cmd_enrich.specs.Working.{IsKeyAfter}
use Rattle.mmdb_cmd_enrich.proofs.LayerLaws.{LayersWay, one_answer, answers_done}
use Rattle.mmdb_cmd_enrich.proofs.layers.Layers.look_up.Goals as goal

pub loop-reader-preserved : goal.loop-reader-preserved
loop-reader-preserved g c =
    let readers = c.args.readers.now in
    let i = c.loop-reader.reader-index in
    let here : drop i readers ≡ c.reader-item.result ∷ drop (i + 1) readers = drop_more readers i c.reader-item.result (omega arith) ∙ ap (λ y. y ∷ drop (i + 1) readers) (sym c.reader-item.is) in
    let answers = c.loop-reader.self.answers.items in
    let key = c.loop-reader.self.key in
    let way = subst (λ left. LayersWay readers left c.args.address answers key) here c.loop-reader.invariant.way in
    let put : c.push.new.self.items ≡ answers ++ (c.in-Ok.answer ∷ []) = search rules in
    record {
      way = one_answer readers (drop (i + 1) readers) c.reader-item.result c.args.address answers c.push.new.self.items c.in-Ok.answer key c.longer_key-self.result way put c.in-Ok.ensures.answered
          (subst (λ o. IfSome c.longer_key-self.result (IsKeyAfter key c.reader-item.result o)) c.offset_of.ensures c.longer_key-self.ensures);
      found = let (addresses, known, numbered) = c.loop-reader.invariant.found in
          (addresses, c.next_leaf-leaf.ensures.left c.reader-item.result (drop (i + 1) readers) addresses (subst (λ left. AreFoundIn left addresses c.loop-reader.left.now) here known), numbered);
      of = c.loop-reader.invariant.of;
    }

pub returns-clause-found : goal.returns-clause-found
returns-clause-found g c =
    let readers = c.args.readers.now in
    let answers = c.loop-reader.self.answers.items in
    let key = c.loop-reader.self.key in
    let none = drop_all c.loop-reader.reader-index readers (omega arith) in
    answers_done readers c.args.address answers key (subst (λ left. LayersWay readers left c.args.address answers key) none c.loop-reader.invariant.way)
