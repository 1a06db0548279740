use Rattle.std.proofs.Common.{rules, ◌≡◌, ◌∷◌, [], subst, length}
use Rattle.std.specs.Prelude.{Some, true}
use Rattle.std.specs.Str.{is_utf8}
use Rattle.json.specs.Print.{quoted}
use Rattle.mmdb_format.specs.Contents.{bytes_of_content}
use Rattle.mmdb_json.specs.Drafts.{Grows}
use Rattle.mmdb_json.specs.Appended.{ChargesBytes}
use Rattle.mmdb_json.proofs.Containers.{name_stands}
use Rattle.mmdb_json.proofs.record_texts.put_own_name.Goals as goal

pub returns : goal.returns
returns c =
    let s = c.args.section.now in
    let x = c.in_ok-bytes.bytes.now in
    let is : bytes_of_content s c.args.header ≡ Some x = search rules in
    let same = c.in_ok-text.ensures.same in
    let utf8 : is_utf8 x ≡ true = c.in_ok-text.ensures.utf8 in
    let charged : ChargesBytes c.args.budget.now c.charge_bytes.new.self (length x) = record {
      bytes_left = search rules;
      values_left = c.charge_bytes.ensures.values;
      levels_left = c.charge_bytes.ensures.levels;
    } in
    let put : Grows c.args.out.now c.put_string.new.self (quoted x) = subst (λ l. Grows c.args.out.now c.put_string.new.self (quoted l)) same (search rules) in
    let pushed : Grows c.put_string.new.self c.push.new.self (58 ∷ []) = search rules in
    name_stands s c.args.offset c.args.header x c.args.budget.now c.charge_bytes.new.self c.args.out.now c.put_string.new.self c.push.new.self c.requires.header c.if-header-ne-TEXT.false is utf8 charged put pushed
