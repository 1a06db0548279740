-- At most one value is at an offset.
use Rattle.std.proofs.Common.{◌≡◌, ◌↔◌, ℕ, ℤ, List, Option, Some, sym, ap, ◌∙◌, inl, inr}
use Rattle.mmdb_format.specs.Contents.{Scalar, scalar_payload}
use Rattle.mmdb_format.specs.Unfolding.{scalar, pointer, without_pointers}
use Rattle.mmdb_format.proofs.UnfoldingLaws.{one_tree_unfolds}
use Rattle.mmdb_decode.specs.Arrays.{list_at}
use Rattle.mmdb_decode.specs.Maps.{Fields, text_map_at}
use Rattle.mmdb_decode.specs.Reading.{Reading, Meaning}
use Rattle.mmdb_decode.specs.ScalarReads.{ScalarStands, WholeNumberStands}
use Rattle.mmdb_decode.specs.SmallNumbers.{whole_number}
use Rattle.mmdb_record.specs.OneStands.{OneStands, OneScalarStands, OneIntegerStands, OneListStands, OneTextMapStands, OneRecordStands}
use Rattle.mmdb_record.specs.Records.{record_at}
use Rattle.mmdb_record.specs.TypedReads.{ListStands, TextMapStands, RecordStands}
use Rattle.mmdb_record.proofs.LimitLaws.{reading-is_one}
use Rattle.mmdb_record.proofs.ListLaws.{reads_lists}
use Rattle.mmdb_record.proofs.RecordStandingLaws.{reads_records}
use Rattle.mmdb_record.proofs.TextMapLaws.{reads_text_maps}

abbrev at : {A : Type 0} → A → ℕ → ℕ → ℕ → Reading A
at v q c b = record { value = v; next = q; values = c; bytes = b }

-- scalars and integers, by the tree that unfolds
same_scalar : (x y : Scalar) → scalar x ≡ scalar y → x ≡ y
same_scalar x y h = cc

same_pointed : (a b : ℕ) (x y : Scalar) → pointer a (scalar x) ≡ pointer b (scalar y) → x ≡ y
same_pointed a b x y h = cc

no_pointer : {P : Type 0} (a : ℕ) (x y : Scalar) → scalar x ≡ pointer a (scalar y) → P
no_pointer a x y h = absurd (cc)

one_scalar : (s : List ℕ) (p d : ℕ) (x y : Scalar) (q r : ℕ) → ScalarStands s p d x q → ScalarStands s p d y r → (x ≡ y) × (q ≡ r)
one_scalar s p d x y q r (inl h) (inl k) = let e = one_tree_unfolds s p (scalar x) (scalar y) q r h k in (same_scalar x y e.0, e.1)
one_scalar s p d x y q r (inl h) (inr k) = let e = one_tree_unfolds s p (scalar x) (pointer k.0 (scalar y)) q r h k.1 in no_pointer k.0 x y e.0
one_scalar s p d x y q r (inr h) (inl k) = let e = one_tree_unfolds s p (scalar y) (pointer h.0 (scalar x)) r q k h.1 in no_pointer h.0 y x e.0
one_scalar s p d x y q r (inr h) (inr k) = let e = one_tree_unfolds s p (pointer h.0 (scalar x)) (pointer k.0 (scalar y)) q r h.1 k.1 in (same_pointed h.0 k.0 x y e.0, e.1)

pub one_scalar_stands : OneScalarStands
one_scalar_stands s p d x y q r c e b f h k =
    let same = one_scalar s p d x y q r h.0 k.0 in
    (same.0, same.1, h.1 ∙ sym k.1, h.2 ∙ (ap scalar_payload same.0 ∙ sym k.2))

same_number : (o : Option ℤ) (y z : ℤ) → o ≡ Some y → o ≡ Some z → y ≡ z
same_number o y z h k = let e : Some y ≡ Some z = sym h ∙ k in cc

one_integer : (s : List ℕ) (p d : ℕ) (y z : ℤ) (q r : ℕ) → WholeNumberStands s p d y q → WholeNumberStands s p d z r → (y ≡ z) × (q ≡ r)
one_integer s p d y z q r h k =
    let e = one_tree_unfolds s p h.0 k.0 q r h.2 k.2 in
    let same : h.1 ≡ k.1 = same_scalar h.1 k.1 (sym h.3 ∙ (ap without_pointers e.0 ∙ k.3)) in
    (same_number (whole_number k.1) y z (sym (ap whole_number same) ∙ h.4) k.4, e.1)

pub one_integer_stands : OneIntegerStands
one_integer_stands s p d y z q r c e b f h k =
    let same = one_integer s p d y z q r h.0 k.0 in
    (same.0, same.1, h.1 ∙ sym k.1, h.2 ∙ sym k.2)

-- all others, by the function that reads them
one_stands : {A : Type 0} (read : Meaning A) (Stands : List ℕ → ℕ → ℕ → A → ℕ → ℕ → ℕ → Type 0) → ((s : List ℕ) (p d : ℕ) (v : A) (q c b : ℕ) → (read s p d ≡ Some (at v q c b)) ↔ Stands s p d v q c b) → OneStands Stands
one_stands read Stands reads s p d v w q r c e b f h k = reading-is_one read s p d (at v q c b) (at w r e f) ((reads s p d v q c b).1 h) ((reads s p d w r e f).1 k)

pub one_list_stands : {A : Type 0} (read : Meaning A) → OneListStands read
one_list_stands read = one_stands (list_at read) (ListStands read) (reads_lists read)

pub one_text_map_stands : {A : Type 0} (read : Meaning A) → OneTextMapStands read
one_text_map_stands read = one_stands (text_map_at read) (TextMapStands read) (reads_text_maps read)

pub one_record_stands : {P : Type 0} (fields : Fields P) (none : P) → OneRecordStands fields none
one_record_stands fields none = one_stands (record_at fields none) (λ s p d x q c b. (names : List (List ℕ)) × RecordStands fields none s p d names x q c b) (reads_records fields none)
