use Rattle.std.proofs.Common.{rules, ◌+◌, subst, arith}
use Rattle.std.proofs.lemmas.List.{take_rest}
use Rattle.mmdb_addresses.specs.Words.{IsEnd}
use Rattle.mmdb_addresses.proofs.BracketLaws.{finds_inside}
use Rattle.mmdb_addresses.proofs.words.address_in_brackets.Goals as goal

pub returns : goal.returns
returns c =
    finds_inside c.args.word.now c.end_of-bracket.result (search rules) (omega arith) c.end_of-bracket.ensures.end (omega arith) (subst IsEnd (take_rest c.args.word.now (c.end_of-bracket.result + 1)) (c.is_end.ensures.0 (search rules))) c.address_inside.result c.address_inside.ensures
