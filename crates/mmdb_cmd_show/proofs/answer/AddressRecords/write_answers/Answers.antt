use Rattle.std.proofs.Common.{rules, ◌≡◌, ◌+◌, ◌∷◌, ◌++◌, [], drop, length, sym, ap, ◌∙◌}
use Rattle.std.proofs.lemmas.List.{drop_more, length-append}
use Rattle.std.proofs.lemmas.Slice.Zip.{zip_turn, Zip-so_far, either_empty_from_Zip}
use Rattle.mmdb_cmd_show.proofs.PrintedLaws.{one_more, all_complete}
use Rattle.mmdb_cmd_show.proofs.answer.AddressRecords.write_answers.Goals as goal

pub loop-shown-preserved : goal.loop-shown-preserved
loop-shown-preserved g c =
    let tokens = g.W.TokenSink.tokens in
    let ks = c.args.self.now.databases.now in
    let vs = c.args.self.now.answers.now in
    let l = c.loop-shown in
    let n = length l.yielded in
    let k = c.in-Some.shown in
    let v = c.in-Some.answer in
    let turn = zip_turn ks vs l.yielded c.into_iter-shown-iterator.result l.shown-iterator c.next.new.self c.next.result (search rules) (search rules) l.yielded_by (k, v) c.in-Some.is c.next.ensures.steps in
    let here : drop n ks ≡ k.now ∷ drop (n + 1) ks = drop_more ks n k.now turn.0 ∙ ap (λ y. y ∷ drop (n + 1) ks) (sym (turn.2 k.now)) in
    let there : drop n vs ≡ v.now ∷ drop (n + 1) vs = drop_more vs n v.now turn.1 ∙ ap (λ y. y ∷ drop (n + 1) vs) (sym (turn.3 v.now)) in
    record {
      can_next = search rules;
      is_finite = search rules;
      completes = one_more c.args.self.now.are_named ks vs n (length (l.yielded ++ (k, v) ∷ [])) k.now v.now (tokens c.args.out.now) (tokens l.out) (tokens c.write_answer.new.out) l.has_record c.in_ok-has_record.field-0 (length-append l.yielded ((k, v) ∷ [])) here there c.in_ok-has_record.ensures.has_record c.in_ok-has_record.ensures.members l.invariant.completes;
      front = search rules;
    }

pub returns-clause-members : goal.returns-clause-members
returns-clause-members g c =
    let tokens = g.W.TokenSink.tokens in
    let ks = c.args.self.now.databases.now in
    let vs = c.args.self.now.answers.now in
    let l = c.loop-shown in
    let n = length l.yielded in
    let gone = Zip-so_far l.yielded c.into_iter-shown-iterator.result l.shown-iterator l.yielded_by in
    let ends = either_empty_from_Zip l.shown-iterator c.next.new.self c.next.result c.in-None.is c.next.ensures.steps in
    all_complete c.args.self.now.are_named ks vs n l.has_record (tokens c.args.out.now) (tokens l.out) _ _ (gone.0 ∙ ap (drop n) (search rules)) (gone.1 ∙ ap (drop n) (search rules)) ends l.invariant.completes
