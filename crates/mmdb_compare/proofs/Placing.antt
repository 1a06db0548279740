-- What is after a header, and where the header is.
use Rattle.std.proofs.Common.{◌≡◌, ◌≤◌, ◌-◌, ◌*◌, ℕ, List, length, Option, Some, None, true, refl, arith, nat_eq}
use Rattle.std.specs.Option.{IfSome}
use Rattle.std.specs.Str.{is_utf8}
use Rattle.std.proofs.lemmas.Bool.Decides.{nat_tests}
use Rattle.mmdb_format.specs.declared.header.Direct.{Direct}
use Rattle.mmdb_format.specs.Header.{header_at}
use Rattle.mmdb_format.specs.Pointer.{pointer_at, direct_at, behind}
use Rattle.mmdb_format.specs.Contents.{end_of, key_bytes_at}
use Rattle.mmdb_format.specs.Unfolding.{Tree, pointer, Unfolds, pointer_here, levels_without_key_pointers, value_count, payload, has_texts, is_keyed, without_pointers}
use Rattle.mmdb_decode.specs.Reading.{Reading}
use Rattle.mmdb_decode.specs.Maps.{key_past}
use Rattle.mmdb_value.specs.AnyValue.{key_at}
use Rattle.mmdb_value.proofs.Grammar.{if_bind, if_cond, if_is, key_sound, IsKeyOf}
use Rattle.mmdb_compare.specs.SideBySide.{Measure, IsValue, IsKey}

abbrev behind_pointer : Option ℕ → Tree → Tree
behind_pointer None t = t
behind_pointer (Some to) t = pointer to t

-- what unfolds wherever a header is unfolds where it was found, maybe through a pointer
abbrev Placed : List ℕ → ℕ → Direct → Type 0
Placed s p x = (to : Option ℕ) × ((t : Tree) (q : ℕ) → ((here : ℕ) → header_at s here ≡ Some x.header → Unfolds s here t q) → Unfolds s p (behind_pointer to t) (end_of x q))

placed : (s : List ℕ) (p : ℕ) → IfSome (direct_at s p 0) (Placed s p)
unfolding direct_at behind
placed s p =
    if_bind (header_at s p) _ (Placed s p) (λ header h.
    if_cond (nat_eq header.kind 1) _ _ (Placed s p)
    (λ k. if_bind (pointer_at s header.body header.size) _ (Placed s p) (λ to a.
    if_bind (header_at s to.target) _ (Placed s p) (λ target b.
    if_cond (nat_eq target.kind 1) _ _ (Placed s p)
    (λ n. tt)
    (λ n. (Some to.target, λ t q each. let one : header.kind ≡ 1 = grind (arith, nat_tests) in pointer_here h one a (each to.target b))))))
    (λ k. (None, λ t q each. each p h)))

behind_it : (s : List ℕ) (p q depth : ℕ) (to : Option ℕ) (value : Tree) (m : Measure) (t : Tree) → Unfolds s p (behind_pointer to t) q → is_keyed t ≡ true → has_texts t ≡ true → levels_without_key_pointers t ≤ 2 * depth → value ≡ without_pointers t → value_count t ≡ m.count → payload t ≡ m.bytes → IsValue s p q value m depth
behind_it s p q depth None value m t unfolds keyed texts levels is count bytes = record { tree = t; unfolds = unfolds; keyed = keyed; texts = texts; levels = omega (arith, levels); value = is; count = count; bytes = bytes }
behind_it s p q depth (Some to) value m t unfolds keyed texts levels is count bytes = record { tree = pointer to t; unfolds = unfolds; keyed = keyed; texts = texts; levels = omega (arith, levels); value = is; count = count; bytes = bytes }

-- a value that is after a header
pub value_behind : (s : List ℕ) (p q depth : ℕ) (x : Direct) (value : Tree) (m : Measure) (t : Tree) → direct_at s p 0 ≡ Some x → ((here : ℕ) → header_at s here ≡ Some x.header → Unfolds s here t q) → is_keyed t ≡ true → has_texts t ≡ true → levels_without_key_pointers t ≤ 2 * depth → value ≡ without_pointers t → value_count t ≡ m.count → payload t ≡ m.bytes → IsValue s p (end_of x q) value m depth
value_behind s p q depth x value m t found each keyed texts levels is count bytes =
    let w = if_is (direct_at s p 0) (Placed s p) x (placed s p) found in
    behind_it s p (end_of x q) depth w.0 value m t (w.1 t q each) keyed texts levels is count bytes

abbrev read_key : List ℕ → ℕ → Reading (List ℕ)
read_key key q = record { value = key; next = q; values = 0; bytes = length key - 0 }

key_read : (s : List ℕ) (p q : ℕ) (key : List ℕ) → key_bytes_at s p ≡ Some (key, q) → is_utf8 key ≡ true → key_at true s p 0 ≡ Some (read_key key q)
unfolding key_past
key_read s p q key found utf8 = rw (found, utf8) refl

-- a key
pub key_stands : (s : List ℕ) (p q : ℕ) (key : List ℕ) → key_bytes_at s p ≡ Some (key, q) → is_utf8 key ≡ true → IsKey s p q key (record { count = 1; bytes = length key })
key_stands s p q key found utf8 =
    let w = if_is (key_at true s p 0) (λ r. (u : Tree) × IsKeyOf true s p u r) (read_key key q) (key_sound true s p 0) (key_read s p q key found utf8) in
    let k = w.1 in
    record { tree = w.0; unfolds = k.unfolds; key = k.key; texts = k.texts refl; levels = k.levels; value = k.value; count = k.count; bytes = let b = k.bytes in omega (arith, b) }
