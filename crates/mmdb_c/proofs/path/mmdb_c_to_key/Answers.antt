use Rattle.std.proofs.Common.{◌≡◌, true}
use Rattle.std.specs.Str.{is_utf8}
use Rattle.std.proofs.lemmas.Str.{is_utf8-from_IsUtf8}
use Rattle.mmdb_c.proofs.path.mmdb_c_to_key.Goals as goal

pub returns-in_default-clause-no_text : goal.returns-in_default-clause-no_text
returns-in_default-clause-no_text c = λ _ utf8.
    let yes : is_utf8 c.args.key.now ≡ true = is_utf8-from_IsUtf8 c.args.key.now utf8 in
    let none = rw yes at c.in_default.ensures.value in
    absurd (cc)
