use Rattle.std.proofs.Common.{rules, ◌≡◌, ◌+◌, List, [], ◌∷◌, ◌++◌, take, drop, sym, ap, ◌∙◌, subst}
use Rattle.std.proofs.lemmas.List.{take_more, take_all, take-append-drop}
use Rattle.mmdb_value.specs.declared.any_value.Value.{Value}
use Rattle.mmdb_writer.specs.declared.error.WriteError.TheVariants.{TooLarge}
use Rattle.mmdb_writer.specs.declared.row.Row.{Row}
use Rattle.mmdb_writer.specs.Errors.{IsErrorOf}
use Rattle.mmdb_writer.specs.Making.{IsMadeOf, IsTooLarge}
use Rattle.mmdb_writer.proofs.MakingLemmas.{more_values, more_rows, file_written, file_explained, value_too_large, no_large_row, no_large_options, file_too_large}
use Rattle.mmdb_writer.proofs.writer.write_database.Goals as goal

pub returns-in_err-add_value-clause-explained : goal.returns-in_err-add_value-clause-explained
returns-in_err-add_value-clause-explained c =
    let xs = c.args.values.now in
    let i = c.loop-value.value-index in
    let x = c.value-item.result in
    let e = c.in_err-add_value.field-0.0 in
    let at : take (i + 1) xs ≡ take i xs ++ x ∷ [] = take_more xs i x c.loop-value-test.true ∙ ap (λ (y : Value). take i xs ++ y ∷ []) (sym c.value-item.is) in
    let whole : (take i xs ++ x ∷ []) ++ drop (i + 1) xs ≡ xs = ap (λ (ys : List Value). ys ++ drop (i + 1) xs) (sym at) ∙ take-append-drop (i + 1) xs in
    let first : IsErrorOf (take i xs ++ x ∷ []) [] c.args.options e = c.in_err-add_value.ensures.explained (take i xs) [] c.args.options c.loop-value.invariant in
    let explained : IsErrorOf xs c.args.rows.now c.args.options e = subst (λ (ys : List Value). IsErrorOf ys c.args.rows.now c.args.options e) whole (more_values (take i xs ++ x ∷ []) (drop (i + 1) xs) c.args.rows.now c.args.options e first) in
    search rules

pub loop-value-preserved : goal.loop-value-preserved
loop-value-preserved c =
    let xs = c.args.values.now in
    let i = c.loop-value.value-index in
    let x = c.value-item.result in
    let at : take (i + 1) xs ≡ take i xs ++ x ∷ [] = take_more xs i x c.loop-value-test.true ∙ ap (λ (y : Value). take i xs ++ y ∷ []) (sym c.value-item.is) in
    let added = c.in_ok-add_value.ensures.added (take i xs) [] c.args.options c.loop-value.invariant in
    subst (λ (ys : List Value). IsMadeOf ys [] c.args.options c.add_value.new.self) (sym at) added.1

pub returns-in_err-add_row-clause-explained : goal.returns-in_err-add_row-clause-explained
returns-in_err-add_row-clause-explained c =
    let xs = c.args.rows.now in
    let i = c.loop-row.row-index in
    let x = c.row-item.result in
    let e = c.in_err-add_row.field-0.0 in
    let at : take (i + 1) xs ≡ take i xs ++ x ∷ [] = take_more xs i x c.loop-row-test.true ∙ ap (λ (y : Row). take i xs ++ y ∷ []) (sym c.row-item.is) in
    let whole : (take i xs ++ x ∷ []) ++ drop (i + 1) xs ≡ xs = ap (λ (ys : List Row). ys ++ drop (i + 1) xs) (sym at) ∙ take-append-drop (i + 1) xs in
    let first : IsErrorOf c.args.values.now (take i xs ++ x ∷ []) c.args.options e = c.in_err-add_row.ensures.explained c.args.values.now (take i xs) c.args.options c.loop-row.invariant in
    let explained : IsErrorOf c.args.values.now xs c.args.options e = subst (λ (ys : List Row). IsErrorOf c.args.values.now ys c.args.options e) whole (more_rows c.args.values.now (take i xs ++ x ∷ []) (drop (i + 1) xs) c.args.options e first) in
    search rules

pub loop-row-preserved : goal.loop-row-preserved
loop-row-preserved c =
    let xs = c.args.rows.now in
    let i = c.loop-row.row-index in
    let x = c.row-item.result in
    let at : take (i + 1) xs ≡ take i xs ++ x ∷ [] = take_more xs i x c.loop-row-test.true ∙ ap (λ (y : Row). take i xs ++ y ∷ []) (sym c.row-item.is) in
    let added = c.in_ok-add_row.ensures.added c.args.values.now (take i xs) c.args.options c.loop-row.invariant in
    subst (λ (ys : List Row). IsMadeOf c.args.values.now ys c.args.options c.add_row.new.self) (sym at) added

pub returns-clause-written : goal.returns-clause-written
returns-clause-written c =
    let xs = c.args.rows.now in
    let made = subst (λ (ys : List Row). IsMadeOf c.args.values.now ys c.args.options c.loop-row.writer) (take_all c.loop-row.row-index xs c.loop-row-test.false) c.loop-row.invariant in
    file_written c.loop-row.writer c.args.values.now xs c.args.options c.write.result made c.write.ensures.written

pub returns-clause-explained : goal.returns-clause-explained
returns-clause-explained c =
    let xs = c.args.rows.now in
    let made = subst (λ (ys : List Row). IsMadeOf c.args.values.now ys c.args.options c.loop-row.writer) (take_all c.loop-row.row-index xs c.loop-row-test.false) c.loop-row.invariant in
    file_explained c.loop-row.writer c.args.values.now xs c.args.options c.write.result made c.write.ensures.explained

pub returns-in_err-add_value-clause-too_large : goal.returns-in_err-add_value-clause-too_large
returns-in_err-add_value-clause-too_large c =
    let e = c.in_err-add_value.field-0.0 in
    let large : e ≡ TooLarge → IsTooLarge c.args.values.now c.args.rows.now c.args.options =
    λ is. value_too_large c.args.values.now c.args.rows.now c.args.options c.loop-value.value-index c.loop-value.writer c.add_value.new.self c.loop-value.invariant c.in_err-add_value.ensures.kept (c.in_err-add_value.ensures.too_large is) in
    search rules

pub returns-in_err-add_row-clause-too_large : goal.returns-in_err-add_row-clause-too_large
returns-in_err-add_row-clause-too_large c =
    let e = c.in_err-add_row.field-0.0 in
    let large : e ≡ TooLarge → IsTooLarge c.args.values.now c.args.rows.now c.args.options = λ is. absurd (no_large_row e c.in_err-add_row.ensures.no_other is) in
    search rules

pub returns-in_err-writer-clause-too_large : goal.returns-in_err-writer-clause-too_large
returns-in_err-writer-clause-too_large c =
    let e = c.in_err-writer.field-0.0 in
    let large : e ≡ TooLarge → IsTooLarge c.args.values.now c.args.rows.now c.args.options = λ is. absurd (no_large_options e c.in_err-writer.ensures.no_other is) in
    search rules

pub returns-clause-too_large : goal.returns-clause-too_large
returns-clause-too_large c =
    let xs = c.args.rows.now in
    let made = subst (λ (ys : List Row). IsMadeOf c.args.values.now ys c.args.options c.loop-row.writer) (take_all c.loop-row.row-index xs c.loop-row-test.false) c.loop-row.invariant in
    file_too_large c.loop-row.writer c.args.values.now xs c.args.options c.write.result made c.write.ensures.too_large
