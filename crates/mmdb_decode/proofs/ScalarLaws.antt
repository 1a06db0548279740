-- What is read as a scalar is what unfolds there.
use Rattle.std.specs.Option.{IfSome}
use Rattle.std.specs.Int.{cast_signed, w32}
use Rattle.std.specs.Str.{is_utf8}
use Rattle.std.proofs.Common.{◌≡◌, ◌↔◌, ℕ, ◌+◌, ℤ, List, Option, Some, None, Bool, true, false, nat_eq, refl, sym, ◌∙◌, ap, cond, subst}
use Rattle.mmdb_format.specs.declared.header.Header.{Header}
use Rattle.mmdb_format.specs.Header.{◌>>=◌, bytes_at}
use Rattle.mmdb_format.specs.Contents.{Scalar, text, bytes, boolean, signed32, number16, number32, number64, number128, double_bits, float_bits, content_at, content_end, scalar_payload, scalar_is_text, variable_width_integer, fixed_width_integer, truth_of}
use Rattle.mmdb_decode.specs.Reading.{Reading, Meaning}
use Rattle.mmdb_decode.specs.Scalars.{number_of, bits_of, bytes_of, bool_at, u16_at, u32_at, u64_at, u128_at, i32_at, double_at, float_at, text_at, byte_string_at, if_text}
use Rattle.mmdb_decode.specs.ScalarReads.{ScalarStands, ReadsScalars}
use Rattle.mmdb_decode.proofs.Options.{if_is}
use Rattle.mmdb_decode.proofs.DirectLaws.{typed, typed_sound, typed_complete}
use Rattle.mmdb_decode.proofs.ContentLaws.{content_is, text_content, bytes_content, bool_content, content_of_16, content_of_32, content_of_64, content_of_128, signed_content, double_content, float_content}

abbrev at : {A : Type 0} → A → ℕ → ℕ → ℕ → Reading A
at v q c b = record { value = v; next = q; values = c; bytes = b }

-- the same, its texts not tested
abbrev ReadsAny : {A : Type 0} → Meaning A → (A → Scalar) → Type 0
ReadsAny {A = A} read says = (s : List ℕ) (p d : ℕ) (v : A) (q c b : ℕ) → (read s p d ≡ Some (at v q c b)) ↔ (ScalarStands s p d (says v) q × (c ≡ 0) × (b ≡ scalar_payload (says v)))

-- how values of one type are taken of their headers
record Taken {A : Type 0} (kind : ℕ) (take : List ℕ → Header → Option A) (stop : Header → ℕ) (says : A → Scalar) : Type 0 where
  plain : nat_eq kind 1 ≡ false
  content : (s : List ℕ) (header : Header) (v : A) → header.kind ≡ kind → take s header ≡ Some v → content_at s header ≡ Some (says v)
  back : (s : List ℕ) (header : Header) (v : A) → content_at s header ≡ Some (says v) → (header.kind ≡ kind) × (take s header ≡ Some v)
  ends : (header : Header) → header.kind ≡ kind → content_end header ≡ stop header

same_value : {A : Type 0} (o : Option (Reading A)) (says : A → Scalar) (v w : A) (q c b : ℕ) → w ≡ v → c ≡ 0 → b ≡ scalar_payload (says v) → o ≡ Some (at w q 0 (scalar_payload (says w))) → o ≡ Some (at v q c b)
same_value o says v w q c b e f g h = rw (f, g, ← e) h

reads_any : {A : Type 0} (kind : ℕ) (take : List ℕ → Header → Option A) (stop : Header → ℕ) (says : A → Scalar) → Taken kind take stop says → ReadsAny (λ s. typed kind (take s) stop (λ v. scalar_payload (says v)) s) says
reads_any {A = A} kind take stop says t s p d v q c b =
    let read : Option (Reading A) = typed kind (take s) stop (λ v. scalar_payload (says v)) s p d in (
      λ h. if_is read (λ r. ScalarStands s p d (says r.value) r.next × (r.values ≡ 0) × (r.bytes ≡ scalar_payload (says r.value))) (at v q c b) (typed_sound kind (take s) stop (λ v. scalar_payload (says v)) says s (t.content s) t.ends p d) h,
      λ h.
          let w = typed_complete kind (take s) stop (λ v. scalar_payload (says v)) s (says v) (λ w. w ≡ v) t.plain (λ header k. let g = t.back s header v k in (v, g.0, g.1, refl)) t.ends p d q h.0 in
          same_value read says v w.0 q c b w.1 h.1 h.2 w.2,
    )

-- scalars that are no texts, or texts taken as bytes
tested : {A : Type 0} (read : Meaning A) (says : A → Scalar) → ((v : A) → scalar_is_text (says v) ≡ true) → ReadsAny read says → ReadsScalars read says
tested read says t any s p d v q c b = (λ h. let w = (any s p d v q c b).0 h in (w.0, t v, w.1, w.2), λ h. (any s p d v q c b).1 (h.0, h.2, h.3))

abbrev pub after_bytes : Header → ℕ
after_bytes header = header.body + header.size

pub end_not_bool : (header : Header) (kind : ℕ) → nat_eq kind 14 ≡ false → header.kind ≡ kind → content_end header ≡ after_bytes header
end_not_bool header kind n k = rw (k, n) refl

pub reads_u16 : ReadsScalars u16_at number16
unfolding number_of
reads_u16 = tested u16_at number16 (λ v. refl) (reads_any 5 (λ s header. variable_width_integer s header 2) after_bytes number16 (record { plain = refl; content = content_of_16; back = λ s header v. content_is s header (number16 v); ends = λ header. end_not_bool header 5 refl }))

pub reads_u32 : ReadsScalars u32_at number32
unfolding number_of
reads_u32 = tested u32_at number32 (λ v. refl) (reads_any 6 (λ s header. variable_width_integer s header 4) after_bytes number32 (record { plain = refl; content = content_of_32; back = λ s header v. content_is s header (number32 v); ends = λ header. end_not_bool header 6 refl }))

pub reads_u64 : ReadsScalars u64_at number64
unfolding number_of
reads_u64 = tested u64_at number64 (λ v. refl) (reads_any 9 (λ s header. variable_width_integer s header 8) after_bytes number64 (record { plain = refl; content = content_of_64; back = λ s header v. content_is s header (number64 v); ends = λ header. end_not_bool header 9 refl }))

pub reads_u128 : ReadsScalars u128_at number128
unfolding number_of
reads_u128 = tested u128_at number128 (λ v. refl) (reads_any 10 (λ s header. variable_width_integer s header 16) after_bytes number128 (record { plain = refl; content = content_of_128; back = λ s header v. content_is s header (number128 v); ends = λ header. end_not_bool header 10 refl }))

pub reads_double : ReadsScalars double_at double_bits
unfolding bits_of
reads_double = tested double_at double_bits (λ v. refl) (reads_any 3 (λ s header. fixed_width_integer s header 8) after_bytes double_bits (record { plain = refl; content = double_content; back = λ s header v. content_is s header (double_bits v); ends = λ header. end_not_bool header 3 refl }))

pub reads_float : ReadsScalars float_at float_bits
unfolding bits_of
reads_float = tested float_at float_bits (λ v. refl) (reads_any 15 (λ s header. fixed_width_integer s header 4) after_bytes float_bits (record { plain = refl; content = float_content; back = λ s header v. content_is s header (float_bits v); ends = λ header. end_not_bool header 15 refl }))

pub reads_bool : ReadsScalars bool_at boolean
unfolding bool_at
reads_bool = tested bool_at boolean (λ v. refl) (reads_any 14 (λ s. truth_of) (λ header. header.body) boolean (record { plain = refl; content = bool_content; back = λ s header v. content_is s header (boolean v); ends = λ header k. rw k refl }))

pub reads_bytes : ReadsScalars byte_string_at bytes
unfolding bytes_of
reads_bytes = tested byte_string_at bytes (λ v. refl) (reads_any 4 (λ s header. bytes_at s header.body header.size) after_bytes bytes (record { plain = refl; content = bytes_content; back = λ s header v. content_is s header (bytes v); ends = λ header. end_not_bool header 4 refl }))

-- texts
untested : ReadsAny (bytes_of 2) text
unfolding bytes_of
untested = reads_any 2 (λ s header. bytes_at s header.body header.size) after_bytes text (record { plain = refl; content = text_content; back = λ s header v. content_is s header (text v); ends = λ header. end_not_bool header 2 refl })

pub reads_text : ReadsScalars text_at text
reads_text s p d v q c b = (
  λ h. let w = taken_text (bytes_of 2 s p d) h in let g = (untested s p d v q c b).0 w.0 in (g.0, w.1, g.1, g.2),
  λ h. let w = (untested s p d v q c b).1 (h.0, h.2, h.3) in rw (w, h.1) refl,
)
  where
    text_if : (r : Reading (List ℕ)) (t : Bool) → is_utf8 r.value ≡ t → (cond t (Some r.value) None >>= λ y. Some (at y r.next r.values r.bytes)) ≡ Some (at v q c b) → (Some r ≡ Some (at v q c b)) × (is_utf8 v ≡ true)
    text_if r false e h = absurd (cc)
    text_if r true e h = let same : r ≡ at v q c b = cc in (cc, ap (λ (x : Reading (List ℕ)). is_utf8 x.value) (sym same) ∙ e)

    taken_text : (o : Option (Reading (List ℕ))) → (o >>= λ r. if_text r.value >>= λ y. Some (at y r.next r.values r.bytes)) ≡ Some (at v q c b) → (o ≡ Some (at v q c b)) × (is_utf8 v ≡ true)
    taken_text None h = absurd (cc)
    taken_text (Some r) h = text_if r (is_utf8 r.value) refl h

-- signed numbers
abbrev number : Meaning ℕ
number s p d = typed 8 (λ header. variable_width_integer s header 4) after_bytes (λ n. 0) s p d

abbrev signed_of : ℕ → Scalar
signed_of n = signed32 (cast_signed w32 n)

pub reads_i32 : ReadsScalars i32_at signed32
unfolding number_of
reads_i32 s p d z q c b = (
  λ h. taken_signed (number s p d) (typed_sound 8 (λ header. variable_width_integer s header 4) after_bytes (λ n. 0) signed_of s (signed_content s) (λ header. end_not_bool header 8 refl) p d) h,
  λ h.
      let w = typed_complete 8 (λ header. variable_width_integer s header 4) after_bytes (λ n. 0) s (signed32 z) (λ n. cast_signed w32 n ≡ z) refl (λ header k. let g = content_is s header (signed32 z) k in (g.0, g.1, g.2, g.3)) (λ header. end_not_bool header 8 refl) p d q h.0 in
      rw (w.2, w.1, h.2, h.3) refl,
)
  where
    taken_signed : (o : Option (Reading ℕ)) → IfSome o (λ r. ScalarStands s p d (signed_of r.value) r.next × (r.values ≡ 0) × (r.bytes ≡ 0)) → (o >>= λ r. Some (at (cast_signed w32 r.value) r.next r.values r.bytes)) ≡ Some (at z q c b) → ScalarStands s p d (signed32 z) q × (true ≡ true) × (c ≡ 0) × (b ≡ 0)
    taken_signed None g h = absurd (cc)
    taken_signed (Some r) g h =
        let same : at (cast_signed w32 r.value) r.next r.values r.bytes ≡ at z q c b = cc in
        subst (λ (x : Reading ℤ). ScalarStands s p d (signed32 x.value) x.next × (true ≡ true) × (x.values ≡ 0) × (x.bytes ≡ 0)) same (g.0, refl, g.1, g.2)
