use Rattle.std.proofs.Common.{rules, ◌≡◌, ◌+◌, ◌∷◌, ◌++◌, [], drop, None, sym, ap, ◌∙◌, subst, arith}
use Rattle.std.proofs.lemmas.List.{drop_more, drop_all}
use Rattle.std.proofs.lemmas.Result.{err_from_is_err_and}
use Rattle.json.specs.Token.{key}
use Rattle.mmdb_cmd_enrich.proofs.MemberLaws.{FieldsWay, one_field, fields_done, rejected_in, declined}
use Rattle.mmdb_cmd_enrich.specs.Fields.{AreValue, HasUnreadField, reads_of_kind}
use Rattle.mmdb_cmd_enrich.proofs.members.put_fields.Goals as goal

pub loop-at-preserved : goal.loop-at-preserved
loop-at-preserved g c = record {
  way =
      let fields = c.args.fields.now in
      let at = c.loop-at.at in
      let field = c.index-fields-at.result in
      let reads = reads_of_kind c.args.kind (g.A.ReadAlong.reads c.args.found.now) (g.A.ReadRecords.each c.args.found.now) in
      let here : drop at fields ≡ field ∷ drop (at + 1) fields = drop_more fields at field (omega arith) ∙ ap (λ y. y ∷ drop (at + 1) fields) (sym c.index-fields-at.is) in
      let named : c.token.new.self.tokens ≡ c.loop-at.out.tokens ++ key field.name.now ∷ [] = search rules in
      let (value, is, put) = c.in_ok-put_value.ensures.value in
      let way = subst (λ l. FieldsWay reads fields l c.args.out.now.tokens c.loop-at.out.tokens) here c.loop-at.invariant.way in
      one_field reads fields (drop (at + 1) fields) field c.args.out.now.tokens c.loop-at.out.tokens c.token.new.self.tokens c.put_value.new.out.tokens value way named (subst (λ p. AreValue (reads p) value) c.as_slice.ensures.value is) put;
  before = search rules;
}

pub returns-clause-fields : goal.returns-clause-fields
returns-clause-fields g c =
    let fields = c.args.fields.now in
    let reads = reads_of_kind c.args.kind (g.A.ReadAlong.reads c.args.found.now) (g.A.ReadRecords.each c.args.found.now) in
    let none : drop c.loop-at.at fields ≡ [] = drop_all c.loop-at.at fields (omega arith) in
    fields_done reads fields c.args.out.now.tokens c.loop-at.out.tokens (subst (λ l. FieldsWay reads fields l c.args.out.now.tokens c.loop-at.out.tokens) none c.loop-at.invariant.way)

pub returns-in_err-put_value-clause-rejected : goal.returns-in_err-put_value-clause-rejected
returns-in_err-put_value-clause-rejected g c =
    let fields = c.args.fields.now in
    let at = c.loop-at.at in
    let field = c.index-fields-at.result in
    let reads = reads_of_kind c.args.kind (g.A.ReadAlong.reads c.args.found.now) (g.A.ReadRecords.each c.args.found.now) in
    let here : drop at fields ≡ field ∷ drop (at + 1) fields = drop_more fields at field (omega arith) ∙ ap (λ y. y ∷ drop (at + 1) fields) (sym c.index-fields-at.is) in
    let p = err_from_is_err_and c.from_residual-in_err-put_value.result c.from_residual-in_err-put_value.ensures.1 in
    rw (p.1, p.2) (declined c.in_err-put_value.field-0.0 (reads c.as_slice.result.now) (HasUnreadField reads fields) (λ none. rejected_in reads fields at field (drop (at + 1) fields) here (subst (λ path. reads path ≡ None) c.as_slice.ensures.value none)) c.in_err-put_value.ensures.rejected)
