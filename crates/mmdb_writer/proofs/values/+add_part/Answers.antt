use Rattle.std.proofs.Common.{rules, ◌≡◌, ℕ, ◌+◌, ◌++◌, List, [], ◌∷◌, Some, map, take, refl, sym, ap, ◌∙◌, subst, Bor}
use Rattle.std.proofs.lemmas.List.{take_more, take_all, map-append, length-map}
use Rattle.mmdb_format.specs.Contents.{text, bytes}
use Rattle.mmdb_format.specs.Unfolding.{Tree, scalar, array, table}
use Rattle.mmdb_section.specs.declared.section.SectionError.TheVariants.{TooLarge}
use Rattle.mmdb_section.specs.declared.value.SectionPart.{SectionPart}
use Rattle.mmdb_section.specs.declared.value.SectionPart.TheVariants.{At}
use Rattle.mmdb_section.specs.declared.value.WrittenValue.TheVariants as values
use Rattle.mmdb_section.specs.Known.{KnowsAll}
use Rattle.mmdb_section.specs.Sections.{SectionView, start_of, plain}
use Rattle.mmdb_value.specs.AnyValue.{trees_of, pairs_of}
use Rattle.mmdb_value.specs.Values.{value_tree}
use Rattle.mmdb_value.proofs.ValueTrees.{tree-String, tree-Array, tree-Map}
use Rattle.mmdb_value.specs.declared.any_value.Value.{Value, Bytes, the_lemmas}
use Rattle.mmdb_writer.specs.Working.{Keeps, Puts, PutsParts, PutsPairs, IsWithin}
use Rattle.mmdb_writer.proofs.LargeLemmas.{IsFull, full_text, full_array, full_map, element_within, key_within, value_within}
use Rattle.mmdb_writer.proofs.SectionLemmas.{Adds, text_put, bytes_put, array_put, map_put, one_part_more, one_pair_more, put_kept, then_kept, parts_kept, pairs_kept}
use Rattle.mmdb_writer.proofs.values.+add_part.Goals as goal

pub loop-value-preserved : goal.loop-value-preserved
loop-value-preserved t c =
    let xs = c.deref-value-items.result.now in
    let i = c.loop-value.value-index in
    let x = c.value-item.result in
    let at : take (i + 1) xs ≡ take i xs ++ x ∷ [] = take_more xs i x c.loop-value-test.true ∙ ap (λ (y : Value). take i xs ++ y ∷ []) (sym c.value-item.is) in
    let trees : map value_tree (take (i + 1) xs) ≡ map value_tree (take i xs) ++ value_tree x ∷ [] = ap (map value_tree) at ∙ map-append value_tree (take i xs) (x ∷ []) in
    subst (λ (vs : List Tree). PutsParts vs c.args.section.now c.add_part.new.section c.push.new.self.items) (sym trees)
    (subst (λ (ps : List SectionPart). PutsParts (map value_tree (take i xs) ++ value_tree x ∷ []) c.args.section.now c.add_part.new.section ps) (sym c.in_ok-push-in-Array.ensures.items)
    (one_part_more (map value_tree (take i xs)) (value_tree x) c.args.section.now c.loop-value.section c.add_part.new.section c.loop-value.parts.items c.in_ok-part-in-Array.part c.loop-value.invariant c.in_ok-part-in-Array.ensures.ok))

abbrev shown : Bor (List ℕ) × Value → List ℕ × Tree
shown x = (x.0.now, value_tree x.1)

-- a key that was put
key_put : (x : Bor (List ℕ)) (old new : SectionView) (offset : ℕ) → Adds (values.Text x) old new offset → start_of new (plain (text x.now)) ≡ Some offset → KnowsAll old new → Puts (scalar (text x.now)) old new (At offset)
key_put x old new offset adds known stay = text_put x (scalar (text x.now)) old new offset refl adds known stay

pub loop-pair-preserved : goal.loop-pair-preserved
loop-pair-preserved t c =
    let xs = c.deref-pair-items.result.now in
    let i = c.loop-pair.pair-index in
    let x = c.pair-item.result in
    let at : take (i + 1) xs ≡ take i xs ++ x ∷ [] = take_more xs i x c.loop-pair-test.true ∙ ap (λ (y : Bor (List ℕ) × Value). take i xs ++ y ∷ []) (sym c.pair-item.is) in
    let trees : map shown (take (i + 1) xs) ≡ map shown (take i xs) ++ shown x ∷ [] = ap (map shown) at ∙ map-append shown (take i xs) (x ∷ []) in
    let key : Puts (scalar (text x.0.now)) c.loop-pair.section c.add-in-loop-pair.new.self (At c.in_ok-key-in-Map.key) =
    key_put x.0 c.loop-pair.section c.add-in-loop-pair.new.self c.in_ok-key-in-Map.key c.in_ok-key-in-Map.ensures.value c.in_ok-key-in-Map.ensures.known c.in_ok-key-in-Map.ensures.stays_known in
    subst (λ (vs : List (List ℕ × Tree)). PutsPairs vs c.args.section.now c.add_part-in-loop-pair.new.section c.push-in-loop-pair.new.self.items) (sym trees)
    (subst (λ (ps : List (SectionPart × SectionPart)). PutsPairs (map shown (take i xs) ++ shown x ∷ []) c.args.section.now c.add_part-in-loop-pair.new.section ps) (sym c.in_ok-push-in-Map.ensures.items)
    (one_pair_more (map shown (take i xs)) x.0.now (value_tree x.1) c.args.section.now c.loop-pair.section c.add-in-loop-pair.new.self c.add_part-in-loop-pair.new.section c.loop-pair.parts.items (At c.in_ok-key-in-Map.key) c.in_ok-part-in-Map.part c.loop-pair.invariant
    key c.in_ok-part-in-Map.ensures.ok))

pub returns-in_ok-offset-in-Array-clause-ok : goal.returns-in_ok-offset-in-Array-clause-ok
returns-in_ok-offset-in-Array-clause-ok t c =
    let xs = c.deref-value-items.result.now in
    let i = c.loop-value.value-index in
    let all : take i xs ≡ xs = take_all i xs c.loop-value-test.false in
    let tree : value_tree c.args.value.now ≡ array (trees_of (map value_tree xs)) = ap value_tree c.in-Array.is ∙ tree-Array c.in-Array.values ∙ ap (λ (ys : List Value). array (trees_of (map value_tree ys))) (sym c.deref-value-items.ensures.value) in
    let is : value_tree c.args.value.now ≡ array (trees_of (map value_tree (take i xs))) = tree ∙ ap (λ (ys : List Value). array (trees_of (map value_tree ys))) (sym all) in
    array_put (map value_tree (take i xs)) (value_tree c.args.value.now) c.loop-value.parts.items c.deref.result c.args.section.now c.loop-value.section c.add-in-Array.new.self c.in_ok-offset-in-Array.offset is c.deref.ensures.value c.loop-value.invariant
    c.in_ok-offset-in-Array.ensures.value c.in_ok-offset-in-Array.ensures.known c.in_ok-offset-in-Array.ensures.stays_known

pub returns-in_ok-offset-in-Map-clause-ok : goal.returns-in_ok-offset-in-Map-clause-ok
returns-in_ok-offset-in-Map-clause-ok t c =
    let xs = c.deref-pair-items.result.now in
    let i = c.loop-pair.pair-index in
    let all : take i xs ≡ xs = take_all i xs c.loop-pair-test.false in
    let tree : value_tree c.args.value.now ≡ table (pairs_of (map shown xs)) = ap value_tree c.in-Map.is ∙ tree-Map c.in-Map.pairs ∙ ap (λ (ys : List (Bor (List ℕ) × Value)). table (pairs_of (map shown ys))) (sym c.deref-pair-items.ensures.value) in
    let is : value_tree c.args.value.now ≡ table (pairs_of (map shown (take i xs))) = tree ∙ ap (λ (ys : List (Bor (List ℕ) × Value)). table (pairs_of (map shown ys))) (sym all) in
    map_put (map shown (take i xs)) (value_tree c.args.value.now) c.loop-pair.parts.items c.deref-in-Map.result c.args.section.now c.loop-pair.section c.add-in-Map.new.self c.in_ok-offset-in-Map.offset is c.deref-in-Map.ensures.value c.loop-pair.invariant
    c.in_ok-offset-in-Map.ensures.value c.in_ok-offset-in-Map.ensures.known c.in_ok-offset-in-Map.ensures.stays_known

pub returns-in_err-part-in-Array-clause-kept : goal.returns-in_err-part-in-Array-clause-kept
returns-in_err-part-in-Array-clause-kept t c =
    let vs = map value_tree (take c.loop-value.value-index c.deref-value-items.result.now) in
    let before : Keeps c.args.section.now c.loop-value.section = parts_kept vs c.args.section.now c.loop-value.section c.loop-value.parts.items c.loop-value.invariant in
    let kept : Keeps c.args.section.now c.add_part.new.section = then_kept c.args.section.now c.loop-value.section c.add_part.new.section before c.in_err-part-in-Array.ensures.kept in
    search rules

pub returns-in_err-push-in-Array-clause-kept : goal.returns-in_err-push-in-Array-clause-kept
returns-in_err-push-in-Array-clause-kept t c =
    let vs = map value_tree (take c.loop-value.value-index c.deref-value-items.result.now) in
    let before : Keeps c.args.section.now c.loop-value.section = parts_kept vs c.args.section.now c.loop-value.section c.loop-value.parts.items c.loop-value.invariant in
    let put : Keeps c.loop-value.section c.add_part.new.section = put_kept (value_tree c.value-item.result) c.loop-value.section c.add_part.new.section c.in_ok-part-in-Array.part c.in_ok-part-in-Array.ensures.ok.holds in
    let kept : Keeps c.args.section.now c.add_part.new.section = then_kept c.args.section.now c.loop-value.section c.add_part.new.section before put in
    search rules

pub returns-in_err-part-in-Map-clause-kept : goal.returns-in_err-part-in-Map-clause-kept
returns-in_err-part-in-Map-clause-kept t c =
    let x = c.pair-item.result in
    let mid = c.add-in-loop-pair.new.self in
    let new = c.add_part-in-loop-pair.new.section in
    let vs = map shown (take c.loop-pair.pair-index c.deref-pair-items.result.now) in
    let before : Keeps c.args.section.now c.loop-pair.section = pairs_kept vs c.args.section.now c.loop-pair.section c.loop-pair.parts.items c.loop-pair.invariant in
    let key : Keeps c.loop-pair.section mid = put_kept (scalar (text x.0.now)) c.loop-pair.section mid (At c.in_ok-key-in-Map.key) (key_put x.0 c.loop-pair.section mid c.in_ok-key-in-Map.key c.in_ok-key-in-Map.ensures.value c.in_ok-key-in-Map.ensures.known c.in_ok-key-in-Map.ensures.stays_known).holds in
    let kept : Keeps c.args.section.now new = then_kept c.args.section.now mid new (then_kept c.args.section.now c.loop-pair.section mid before key) c.in_err-part-in-Map.ensures.kept in
    search rules

pub returns-in_err-push-in-Map-clause-kept : goal.returns-in_err-push-in-Map-clause-kept
returns-in_err-push-in-Map-clause-kept t c =
    let x = c.pair-item.result in
    let mid = c.add-in-loop-pair.new.self in
    let new = c.add_part-in-loop-pair.new.section in
    let vs = map shown (take c.loop-pair.pair-index c.deref-pair-items.result.now) in
    let before : Keeps c.args.section.now c.loop-pair.section = pairs_kept vs c.args.section.now c.loop-pair.section c.loop-pair.parts.items c.loop-pair.invariant in
    let key : Keeps c.loop-pair.section mid = put_kept (scalar (text x.0.now)) c.loop-pair.section mid (At c.in_ok-key-in-Map.key) (key_put x.0 c.loop-pair.section mid c.in_ok-key-in-Map.key c.in_ok-key-in-Map.ensures.value c.in_ok-key-in-Map.ensures.known c.in_ok-key-in-Map.ensures.stays_known).holds in
    let put : Keeps mid new = put_kept (value_tree x.1) mid new c.in_ok-part-in-Map.part c.in_ok-part-in-Map.ensures.ok.holds in
    let kept : Keeps c.args.section.now new = then_kept c.args.section.now mid new (then_kept c.args.section.now c.loop-pair.section mid before key) put in
    search rules

tree-bytes : (x : Bor (List ℕ)) → value_tree (Bytes x) ≡ scalar (bytes x.now)
tree-bytes x = search (rules, the_lemmas)

pub returns-in_ok-add-in-String-clause-ok : goal.returns-in_ok-add-in-String-clause-ok
returns-in_ok-add-in-String-clause-ok t c =
    let is : value_tree c.args.value.now ≡ scalar (text c.in-String.text.now) = ap value_tree c.in-String.is ∙ tree-String c.in-String.text in
    text_put c.in-String.text (value_tree c.args.value.now) c.args.section.now c.add.new.self c.in_ok-add-in-String.field-0 is c.in_ok-add-in-String.ensures.value c.in_ok-add-in-String.ensures.known c.in_ok-add-in-String.ensures.stays_known

pub returns-in_ok-add-in-Bytes-clause-ok : goal.returns-in_ok-add-in-Bytes-clause-ok
returns-in_ok-add-in-Bytes-clause-ok t c =
    let is : value_tree c.args.value.now ≡ scalar (bytes c.in-Bytes.bytes.now) = ap value_tree c.in-Bytes.is ∙ tree-bytes c.in-Bytes.bytes in
    bytes_put c.in-Bytes.bytes (value_tree c.args.value.now) c.args.section.now c.add-in-Bytes.new.self c.in_ok-add-in-Bytes.field-0 is c.in_ok-add-in-Bytes.ensures.value c.in_ok-add-in-Bytes.ensures.known c.in_ok-add-in-Bytes.ensures.stays_known

-- ---- where it is too large

pub returns-in_err-part-in-Array-clause-too_large : goal.returns-in_err-part-in-Array-clause-too_large
returns-in_err-part-in-Array-clause-too_large t c =
    let xs = c.deref-value-items.result.now in
    let tree : value_tree c.args.value.now ≡ array (trees_of (map value_tree xs)) = ap value_tree c.in-Array.is ∙ tree-Array c.in-Array.values ∙ ap (λ (ys : List Value). array (trees_of (map value_tree ys))) (sym c.deref-value-items.ensures.value) in
    let full : c.in_err-part-in-Array.field-0.0 ≡ TooLarge → IsWithin (value_tree c.args.value.now) → IsFull c.add_part.new.section =
    λ is h. c.in_err-part-in-Array.ensures.too_large is (element_within xs c.loop-value.value-index c.value-item.result (value_tree c.args.value.now) tree c.loop-value-test.true c.value-item.is h) in
    search rules

pub returns-in_err-offset-in-Array-clause-too_large : goal.returns-in_err-offset-in-Array-clause-too_large
returns-in_err-offset-in-Array-clause-too_large t c =
    let xs = c.deref-value-items.result.now in
    let i = c.loop-value.value-index in
    let all : take i xs ≡ xs = take_all i xs c.loop-value-test.false in
    let tree : value_tree c.args.value.now ≡ array (trees_of (map value_tree xs)) = ap value_tree c.in-Array.is ∙ tree-Array c.in-Array.values ∙ ap (λ (ys : List Value). array (trees_of (map value_tree ys))) (sym c.deref-value-items.ensures.value) in
    let is : value_tree c.args.value.now ≡ array (trees_of (map value_tree (take i xs))) = tree ∙ ap (λ (ys : List Value). array (trees_of (map value_tree ys))) (sym all) in
    let full : c.in_err-offset-in-Array.field-0.0 ≡ TooLarge → IsWithin (value_tree c.args.value.now) → IsFull c.add-in-Array.new.self =
    λ large h. full_array (take i xs) c.loop-value.parts.items c.deref.result (value_tree c.args.value.now) c.loop-value.section c.add-in-Array.new.self is c.deref.ensures.value c.loop-value.invariant.known
    (length-map (take i xs) value_tree) c.in_err-offset-in-Array.ensures.kept (c.in_err-offset-in-Array.ensures.too_large large) h in
    search rules

pub returns-in_err-key-in-Map-clause-too_large : goal.returns-in_err-key-in-Map-clause-too_large
returns-in_err-key-in-Map-clause-too_large t c =
    let xs = c.deref-pair-items.result.now in
    let x = c.pair-item.result in
    let tree : value_tree c.args.value.now ≡ table (pairs_of (map shown xs)) = ap value_tree c.in-Map.is ∙ tree-Map c.in-Map.pairs ∙ ap (λ (ys : List (Bor (List ℕ) × Value)). table (pairs_of (map shown ys))) (sym c.deref-pair-items.ensures.value) in
    let full : c.in_err-key-in-Map.field-0.0 ≡ TooLarge → IsWithin (value_tree c.args.value.now) → IsFull c.add-in-loop-pair.new.self =
    λ large h. full_text x.0 (scalar (text x.0.now)) c.loop-pair.section c.add-in-loop-pair.new.self refl c.in_err-key-in-Map.ensures.kept (c.in_err-key-in-Map.ensures.too_large large)
    (key_within xs c.loop-pair.pair-index x (value_tree c.args.value.now) tree c.loop-pair-test.true c.pair-item.is h) in
    search rules

pub returns-in_err-part-in-Map-clause-too_large : goal.returns-in_err-part-in-Map-clause-too_large
returns-in_err-part-in-Map-clause-too_large t c =
    let xs = c.deref-pair-items.result.now in
    let tree : value_tree c.args.value.now ≡ table (pairs_of (map shown xs)) = ap value_tree c.in-Map.is ∙ tree-Map c.in-Map.pairs ∙ ap (λ (ys : List (Bor (List ℕ) × Value)). table (pairs_of (map shown ys))) (sym c.deref-pair-items.ensures.value) in
    let full : c.in_err-part-in-Map.field-0.0 ≡ TooLarge → IsWithin (value_tree c.args.value.now) → IsFull c.add_part-in-loop-pair.new.section =
    λ large h. c.in_err-part-in-Map.ensures.too_large large (value_within xs c.loop-pair.pair-index c.pair-item.result (value_tree c.args.value.now) tree c.loop-pair-test.true c.pair-item.is h) in
    search rules

pub returns-in_err-offset-in-Map-clause-too_large : goal.returns-in_err-offset-in-Map-clause-too_large
returns-in_err-offset-in-Map-clause-too_large t c =
    let xs = c.deref-pair-items.result.now in
    let i = c.loop-pair.pair-index in
    let all : take i xs ≡ xs = take_all i xs c.loop-pair-test.false in
    let tree : value_tree c.args.value.now ≡ table (pairs_of (map shown xs)) = ap value_tree c.in-Map.is ∙ tree-Map c.in-Map.pairs ∙ ap (λ (ys : List (Bor (List ℕ) × Value)). table (pairs_of (map shown ys))) (sym c.deref-pair-items.ensures.value) in
    let is : value_tree c.args.value.now ≡ table (pairs_of (map shown (take i xs))) = tree ∙ ap (λ (ys : List (Bor (List ℕ) × Value)). table (pairs_of (map shown ys))) (sym all) in
    let full : c.in_err-offset-in-Map.field-0.0 ≡ TooLarge → IsWithin (value_tree c.args.value.now) → IsFull c.add-in-Map.new.self =
    λ large h. full_map (take i xs) c.loop-pair.parts.items c.deref-in-Map.result (value_tree c.args.value.now) c.loop-pair.section c.add-in-Map.new.self is c.deref-in-Map.ensures.value c.loop-pair.invariant.known
    (length-map (take i xs) shown) c.in_err-offset-in-Map.ensures.kept (c.in_err-offset-in-Map.ensures.too_large large) h in
    search rules
