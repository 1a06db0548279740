use Rattle.std.proofs.Common.{◌++◌, ◌≡◌, ℕ, length, List, refl, sym, subst}
use Rattle.mmdb_section.specs.Working.{IsHeader, IsSized}
use Rattle.mmdb_section.proofs.StandLemmas.{put, both_put}
use Rattle.mmdb_section.proofs.ScalarLemmas.{sized_made}
use Rattle.mmdb_section.specs.Bytes.{header_bytes}
use Rattle.mmdb_section.proofs.BytesLemmas.{then_put, these_put}
use Rattle.mmdb_section.proofs.scalar.push_sized.Goals as goal

-- a header, and bytes that are the content
with_content : (kind : ℕ) (content xs ys : List ℕ) → IsHeader kind (length content) xs → ys ≡ content → IsSized kind content (xs ++ ys)
with_content kind content xs ys header is = subst (λ (zs : List ℕ). IsSized kind content (xs ++ zs)) (sym is) (sized_made kind content xs header)

pub returns-clause-says : goal.returns-clause-says
returns-clause-says c =
    let e = c.extend_from_slice in
    both_put e.result (IsHeader c.args.kind (length c.args.content.now)) (λ (xs : List ℕ). xs ≡ c.args.content.now) (IsSized c.args.kind c.args.content.now) _ _ _
    (with_content c.args.kind c.args.content.now) c.in_ok-push_header.ensures.says (put e.result (λ (xs : List ℕ). xs ≡ c.args.content.now) _ _ _ e.ensures.items refl)

pub returns-clause-bytes : goal.returns-clause-bytes
returns-clause-bytes c =
    let e = c.extend_from_slice in
    then_put e.result _ _ _ (header_bytes c.args.kind (length c.args.content.now)) c.args.content.now c.in_ok-push_header.ensures.bytes
    (these_put e.result _ _ c.args.content.now _ e.ensures.items refl)
