-- Which header each content has.
use Rattle.std.specs.Option.{IfSome}
use Rattle.std.specs.Int.{cast_signed, w32}
use Rattle.std.proofs.Common.{◌≡◌, ℕ, List, Option, Some, None, Bool, nat_eq, refl, arith}
use Rattle.std.proofs.lemmas.Bool.Decides.{nat_tests}
use Rattle.mmdb_format.specs.declared.header.Header.{Header}
use Rattle.mmdb_format.specs.Header.{◌>>=◌, bytes_at}
use Rattle.mmdb_format.specs.Contents.{Scalar, text, bytes, boolean, signed32, number16, number32, number64, number128, double_bits, float_bits, content_at, variable_width_integer, fixed_width_integer, truth_of}
use Rattle.mmdb_decode.proofs.Options.{if_cond, if_is}

-- the type of a scalar, and what was taken of its header
abbrev pub IsTakenAs : List ℕ → Header → Scalar → Type 0
IsTakenAs s header (text x) = (header.kind ≡ 2) × (bytes_at s header.body header.size ≡ Some x)
IsTakenAs s header (bytes x) = (header.kind ≡ 4) × (bytes_at s header.body header.size ≡ Some x)
IsTakenAs s header (boolean b) = (header.kind ≡ 14) × (truth_of header ≡ Some b)
IsTakenAs s header (signed32 z) = (n : ℕ) × (header.kind ≡ 8) × (variable_width_integer s header 4 ≡ Some n) × (cast_signed w32 n ≡ z)
IsTakenAs s header (number16 n) = (header.kind ≡ 5) × (variable_width_integer s header 2 ≡ Some n)
IsTakenAs s header (number32 n) = (header.kind ≡ 6) × (variable_width_integer s header 4 ≡ Some n)
IsTakenAs s header (number64 n) = (header.kind ≡ 9) × (variable_width_integer s header 8 ≡ Some n)
IsTakenAs s header (number128 n) = (header.kind ≡ 10) × (variable_width_integer s header 16 ≡ Some n)
IsTakenAs s header (double_bits n) = (header.kind ≡ 3) × (fixed_width_integer s header 8 ≡ Some n)
IsTakenAs s header (float_bits n) = (header.kind ≡ 15) × (fixed_width_integer s header 4 ≡ Some n)

taken : {A : Type 0} (s : List ℕ) (header : Header) (o : Option A) (f : A → Scalar) → ((v : A) → o ≡ Some v → IsTakenAs s header (f v)) → IfSome (o >>= λ v. Some (f v)) (IsTakenAs s header)
taken s header None f h = tt
taken s header (Some v) f h = h v refl

contents : (s : List ℕ) (header : Header) → IfSome (content_at s header) (IsTakenAs s header)
unfolding content_at
contents s header =
    if_cond (nat_eq header.kind 2) _ _ (IsTakenAs s header) (λ k. taken s header (bytes_at s header.body header.size) (λ x. text x) (λ x h. (grind (arith, nat_tests), h))) (λ a.
    if_cond (nat_eq header.kind 3) _ _ (IsTakenAs s header) (λ k. taken s header (fixed_width_integer s header 8) (λ n. double_bits n) (λ x h. (grind (arith, nat_tests), h))) (λ b.
    if_cond (nat_eq header.kind 4) _ _ (IsTakenAs s header) (λ k. taken s header (bytes_at s header.body header.size) (λ x. bytes x) (λ x h. (grind (arith, nat_tests), h))) (λ c.
    if_cond (nat_eq header.kind 5) _ _ (IsTakenAs s header) (λ k. taken s header (variable_width_integer s header 2) (λ n. number16 n) (λ x h. (grind (arith, nat_tests), h))) (λ d.
    if_cond (nat_eq header.kind 6) _ _ (IsTakenAs s header) (λ k. taken s header (variable_width_integer s header 4) (λ n. number32 n) (λ x h. (grind (arith, nat_tests), h))) (λ e.
    if_cond (nat_eq header.kind 8) _ _ (IsTakenAs s header) (λ k. taken s header (variable_width_integer s header 4) (λ n. signed32 (cast_signed w32 n)) (λ x h. (x, grind (arith, nat_tests), h, refl))) (λ f.
    if_cond (nat_eq header.kind 9) _ _ (IsTakenAs s header) (λ k. taken s header (variable_width_integer s header 8) (λ n. number64 n) (λ x h. (grind (arith, nat_tests), h))) (λ g.
    if_cond (nat_eq header.kind 10) _ _ (IsTakenAs s header) (λ k. taken s header (variable_width_integer s header 16) (λ n. number128 n) (λ x h. (grind (arith, nat_tests), h))) (λ h.
    if_cond (nat_eq header.kind 14) _ _ (IsTakenAs s header) (λ k. taken s header (truth_of header) (λ b. boolean b) (λ x h. (grind (arith, nat_tests), h))) (λ i.
    if_cond (nat_eq header.kind 15) _ _ (IsTakenAs s header) (λ k. taken s header (fixed_width_integer s header 4) (λ n. float_bits n) (λ x h. (grind (arith, nat_tests), h))) (λ j. tt))))))))))

pub content_is : (s : List ℕ) (header : Header) (c : Scalar) → content_at s header ≡ Some c → IsTakenAs s header c
content_is s header c h = if_is (content_at s header) (IsTakenAs s header) c (contents s header) h

-- the other way
pub text_content : (s : List ℕ) (header : Header) (x : List ℕ) → header.kind ≡ 2 → bytes_at s header.body header.size ≡ Some x → content_at s header ≡ Some (text x)
unfolding content_at
text_content s header x k h = rw (k, h) refl

pub bytes_content : (s : List ℕ) (header : Header) (x : List ℕ) → header.kind ≡ 4 → bytes_at s header.body header.size ≡ Some x → content_at s header ≡ Some (bytes x)
unfolding content_at
bytes_content s header x k h = rw (k, h) refl

pub bool_content : (s : List ℕ) (header : Header) (b : Bool) → header.kind ≡ 14 → truth_of header ≡ Some b → content_at s header ≡ Some (boolean b)
unfolding content_at
bool_content s header b k h = rw (k, h) refl

pub content_of_16 : (s : List ℕ) (header : Header) (n : ℕ) → header.kind ≡ 5 → variable_width_integer s header 2 ≡ Some n → content_at s header ≡ Some (number16 n)
unfolding content_at
content_of_16 s header n k h = rw (k, h) refl

pub content_of_32 : (s : List ℕ) (header : Header) (n : ℕ) → header.kind ≡ 6 → variable_width_integer s header 4 ≡ Some n → content_at s header ≡ Some (number32 n)
unfolding content_at
content_of_32 s header n k h = rw (k, h) refl

pub content_of_64 : (s : List ℕ) (header : Header) (n : ℕ) → header.kind ≡ 9 → variable_width_integer s header 8 ≡ Some n → content_at s header ≡ Some (number64 n)
unfolding content_at
content_of_64 s header n k h = rw (k, h) refl

pub content_of_128 : (s : List ℕ) (header : Header) (n : ℕ) → header.kind ≡ 10 → variable_width_integer s header 16 ≡ Some n → content_at s header ≡ Some (number128 n)
unfolding content_at
content_of_128 s header n k h = rw (k, h) refl

pub signed_content : (s : List ℕ) (header : Header) (n : ℕ) → header.kind ≡ 8 → variable_width_integer s header 4 ≡ Some n → content_at s header ≡ Some (signed32 (cast_signed w32 n))
unfolding content_at
signed_content s header n k h = rw (k, h) refl

pub double_content : (s : List ℕ) (header : Header) (n : ℕ) → header.kind ≡ 3 → fixed_width_integer s header 8 ≡ Some n → content_at s header ≡ Some (double_bits n)
unfolding content_at
double_content s header n k h = rw (k, h) refl

pub float_content : (s : List ℕ) (header : Header) (n : ℕ) → header.kind ≡ 15 → fixed_width_integer s header 4 ≡ Some n → content_at s header ≡ Some (float_bits n)
unfolding content_at
float_content s header n k h = rw (k, h) refl
