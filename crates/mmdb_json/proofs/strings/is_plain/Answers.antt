use Rattle.std.proofs.Common.{length, subst, arith}
use Rattle.std.specs.List.{All}
use Rattle.std.proofs.lemmas.List.{take_all}
use Rattle.std.proofs.lemmas.Bool.{eqb-true}
use Rattle.mmdb_json.specs.Appended.{IsPlain}
use Rattle.mmdb_json.proofs.ScalarTexts.{escape_plain}
use Rattle.mmdb_json.proofs.strings.is_plain.Goals as goal

pub returns : goal.returns
returns c = λ e.
    let all = eqb-true c.plain_len.result (length c.args.text.now) e in
    escape_plain c.args.text.now (subst (All IsPlain) (take_all c.plain_len.result c.args.text.now (omega (arith, all))) c.plain_len.ensures.plain)

pub returns-then-text-ge-SHORT : goal.returns-then-text-ge-SHORT
returns-then-text-ge-SHORT c = λ e. escape_plain c.args.text.now (c.are_plain.ensures e)
