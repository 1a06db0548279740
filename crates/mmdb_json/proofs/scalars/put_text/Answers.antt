use Rattle.std.proofs.Common.{◌≡◌, ◌∙◌, true, sym, ap, subst, Result, Ok, Err, OnOk, is_ok}
use Rattle.std.proofs.lemmas.Str.{IsUtf8-from_is_utf8}
use Rattle.json.specs.Json.{string}
use Rattle.json.specs.Print.{quoted}
use Rattle.mmdb_json.specs.Drafts.{Grows}
use Rattle.mmdb_json.proofs.ScalarTexts.{string_written}
use Rattle.mmdb_json.proofs.scalars.put_text.Goals as goal

done_is : {T E : Type 0} (r : Result T E) (P : Type 0) → OnOk r P → true ≡ is_ok r → P
done_is (Ok x) P h e = h
done_is (Err x) P h e = absurd (cc)

pub returns-in-Some : goal.returns-in-Some
returns-in-Some c = λ done.
    let x = c.args.bytes.now in
    let y = c.in-Some.text.now in
    let same : y ≡ x = c.in-Some.ensures.same in
    record {
      json = string x;
      bytes = quoted x;
      shows = Rattle.std.proofs.Common.refl;
      text = string_written x (IsUtf8-from_is_utf8 x c.in-Some.ensures.utf8);
      is_text = c.in-Some.ensures.utf8;
      grown = subst (λ l. Grows c.args.out.now c.put_string.new.self (quoted l)) same (done_is c.put_string.result (Grows c.args.out.now c.put_string.new.self (quoted y)) c.put_string.ensures (sym done ∙ c.is_ok.ensures.value));
    }
