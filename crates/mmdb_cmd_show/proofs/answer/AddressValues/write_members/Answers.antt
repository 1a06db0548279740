use Rattle.std.proofs.Common.{rules, ◌≡◌, ◌+◌, ◌∷◌, ◌++◌, [], drop, length, sym, ap, ◌∙◌}
use Rattle.std.proofs.lemmas.List.{drop_more, length-append}
use Rattle.std.proofs.lemmas.Slice.Zip.{zip_turn, Zip-so_far, either_empty_from_Zip}
use Rattle.mmdb_cmd_show.proofs.PrintedLaws.{value_more, unread_more, all_values_complete}
use Rattle.mmdb_cmd_show.proofs.answer.AddressValues.write_members.Goals as goal

pub loop-name-preserved : goal.loop-name-preserved
loop-name-preserved g c =
    let tokens = g.W.TokenSink.tokens in
    let databases = c.args.self.now.databases.now in
    let address = c.args.self.now.address in
    let ks = c.args.fields.now.names.items in
    let vs = c.args.fields.now.paths.items in
    let l = c.loop-name in
    let n = length l.yielded in
    let k = c.in-Some.name in
    let v = c.in-Some.path in
    let turn = zip_turn ks vs l.yielded c.into_iter-name-iterator.result l.name-iterator c.next.new.self c.next.result (search rules) (search rules) l.yielded_by (k, v) c.in-Some.is c.next.ensures.steps in
    let here : drop n ks ≡ k.now ∷ drop (n + 1) ks = drop_more ks n k.now turn.0 ∙ ap (λ y. y ∷ drop (n + 1) ks) (sym (turn.2 k.now)) in
    let there : drop n vs ≡ v.now ∷ drop (n + 1) vs = drop_more vs n v.now turn.1 ∙ ap (λ y. y ∷ drop (n + 1) vs) (sym (turn.3 v.now)) in
    let next = length-append l.yielded ((k, v) ∷ []) in
    record {
      can_next = search rules;
      is_finite = search rules;
      completes = value_more databases address ks vs n (length (l.yielded ++ (k, v) ∷ [])) k.now v.now c.as_slice.result.now (tokens c.args.out.now) (tokens l.out) (tokens c.write_member.new.out) l.are_found c.in_ok-are_found.field-0 next here there c.as_slice.ensures.value c.in_ok-are_found.ensures.member l.invariant.completes;
      unread = λ name rest. l.invariant.unread name (unread_more databases address vs n (length (l.yielded ++ (k, v) ∷ [])) k.now.now v.now c.as_slice.result.now (tokens l.out) (tokens c.write_member.new.out) c.in_ok-are_found.field-0 name next there c.as_slice.ensures.value c.in_ok-are_found.ensures.member rest);
      front = search rules;
    }

pub returns-clause-members : goal.returns-clause-members
returns-clause-members g c =
    let tokens = g.W.TokenSink.tokens in
    let ks = c.args.fields.now.names.items in
    let vs = c.args.fields.now.paths.items in
    let l = c.loop-name in
    let n = length l.yielded in
    let gone = Zip-so_far l.yielded c.into_iter-name-iterator.result l.name-iterator l.yielded_by in
    let ends = either_empty_from_Zip l.name-iterator c.next.new.self c.next.result c.in-None.is c.next.ensures.steps in
    all_values_complete c.args.self.now.databases.now c.args.self.now.address ks vs n l.are_found (tokens c.args.out.now) (tokens l.out) _ _ (gone.0 ∙ ap (drop n) (search rules)) (gone.1 ∙ ap (drop n) (search rules)) ends l.invariant.completes
