-- How the string of a text is put together by runs of bytes that are not escaped.
use Rattle.std.proofs.Common.{◌≡◌, ℕ, List, [], ◌∷◌, ◌++◌, sym, ap, ◌∙◌, append_assoc}
use Rattle.std.proofs.lemmas.Grind.{flat_map-append}
use Rattle.std.specs.List.{All}
use Rattle.json.specs.Print.{escape, escape_byte}
use Rattle.mmdb_json.specs.Appended.{IsPlain}
use Rattle.mmdb_json.proofs.ScalarTexts.{escape_plain}

-- a run is left as it is
pub run_put : (x front back : List ℕ) → All IsPlain front → (x ++ front) ++ (escape back ++ 34 ∷ []) ≡ x ++ (escape (front ++ back) ++ 34 ∷ [])
run_put x front back plain =
    append_assoc x front (escape back ++ 34 ∷ [])
    ∙ ap (λ l. x ++ l) (sym (append_assoc front (escape back) (34 ∷ [])))
    ∙ ap (λ l. x ++ ((l ++ escape back) ++ 34 ∷ [])) (sym (escape_plain front plain))
    ∙ ap (λ l. x ++ (l ++ 34 ∷ [])) (sym (flat_map-append escape_byte front back))

-- and what stands for a byte after it
pub byte_put : (x : List ℕ) (byte : ℕ) (behind : List ℕ) → (x ++ escape_byte byte) ++ (escape behind ++ 34 ∷ []) ≡ x ++ (escape (byte ∷ behind) ++ 34 ∷ [])
byte_put x byte behind =
    append_assoc x (escape_byte byte) (escape behind ++ 34 ∷ [])
    ∙ ap (λ l. x ++ l) (sym (append_assoc (escape_byte byte) (escape behind) (34 ∷ [])))
