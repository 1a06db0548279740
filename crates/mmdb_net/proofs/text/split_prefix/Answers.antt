use Rattle.std.proofs.Common.{arith, ◌∷◌, [], ◌∙◌, sym, append_assoc}
use Rattle.std.proofs.lemmas.Str.Pattern.{split_parts, contains_char}
use Rattle.mmdb_net.proofs.text.split_prefix.Goals as goal

pub returns-in-None-clause-first : goal.returns-in-None-clause-first
returns-in-None-clause-first c =
    let parts = split_parts 47 c.args.text.now c.split_once.result c.split_once.ensures.cases (omega arith) in
    rw c.in-None.is at parts

pub returns-in-Some-clause-several : goal.returns-in-Some-clause-several
returns-in-Some-clause-several c =
    let parts = split_parts 47 c.args.text.now c.split_once.result c.split_once.ensures.cases (omega arith) in
    let (spelled, lacks) = rw c.in-Some.is at parts in
    let found = (contains_char 47 c.in-Some.prefix.now c.contains.result c.contains.ensures.cases (omega arith)).0 c.if-contains.true in
    (c.in-Some.field-0-0.now, c.in-Some.prefix.now, spelled ∙ sym (append_assoc c.in-Some.field-0-0.now (47 ∷ []) c.in-Some.prefix.now), lacks, λ none. none found.0 found.1 found.2)

pub returns-in-Some-2-clause-first : goal.returns-in-Some-2-clause-first
returns-in-Some-2-clause-first c =
    let parts = split_parts 47 c.args.text.now c.split_once.result c.split_once.ensures.cases (omega arith) in
    (rw c.in-Some.is at parts).1
