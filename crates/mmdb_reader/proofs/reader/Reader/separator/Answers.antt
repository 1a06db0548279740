use Rattle.std.proofs.Common.{◌≡◌, ℕ, ◌+◌, ◌-◌, ◌<◌, List, get_or, take, drop, refl, ap, ◌∙◌, arith}
use Rattle.std.proofs.lemmas.List.{get_or-take, get_or-drop}
use Rattle.mmdb_reader.specs.File.{tree_len}
use Rattle.mmdb_reader.proofs.reader.Reader.separator.Goals as goal

part : (xs ys : List ℕ) (a b start j : ℕ) → xs ≡ ys → start ≡ b + 16 → a ≡ start - (start - 16) → j < 16 → get_or (take a (drop (start - 16) xs)) j 0 ≡ get_or ys (b + j) 0
part xs ys a b start j same s e l =
    let n : start - 16 ≡ b = omega arith in
    get_or-take a (drop (start - 16) xs) j 0 (omega arith) ∙ get_or-drop (start - 16) xs j 0 ∙ ap (λ (k : ℕ). get_or xs (k + j) 0) n ∙ ap (λ (zs : List ℕ). get_or zs (b + j) 0) same

pub returns-clause-bytes : goal.returns-clause-bytes
returns-clause-bytes g c = λ j l.
    let db = c.args.self.now in
    part c.as_slice.result.now db.bytes (c.self.inside.data_start - (c.self.inside.data_start - 16)) (tree_len db) c.self.inside.data_start j (c.as_slice.ensures ∙ ap (λ d. d.bytes) c.self.view_is) (c.self.invariant.section_is ∙ ap (λ d. tree_len d + 16) c.self.view_is) refl l
