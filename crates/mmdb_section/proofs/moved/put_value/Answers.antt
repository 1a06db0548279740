use Rattle.std.proofs.Common.{rules, ◌≡◌, Some}
use Rattle.mmdb_format.specs.Header.{header_at}
use Rattle.mmdb_section.specs.Working.{IsHeader}
use Rattle.mmdb_section.specs.MovedWorking.{MovesScalar, MovesParts, MovesPairs, MovesValue}
use Rattle.mmdb_section.proofs.MovedLemmas.{scalar_moved, array_moved, map_moved}
use Rattle.mmdb_section.proofs.StandLemmas.{weaker_if, both_if}
use Rattle.mmdb_section.proofs.moved.put_value.Goals as goal

pub returns-in_ok-push_header-in-11 : goal.returns-in_ok-push_header-in-11
returns-in_ok-push_header-in-11 c =
    let s = c.args.section.now in
    let m = c.args.moved.now in
    let h = c.in_ok-header.header in
    let head : header_at s c.args.at ≡ Some h = search rules in
    let kind : h.kind ≡ 11 = search rules in
    both_if c.put_parts.result (IsHeader 11 h.size) (MovesParts s m h.body h.size) (MovesValue s m c.args.at) _ _ _
    (λ end xs ys is parts. array_moved s m c.args.at h end xs ys head kind is parts) c.in_ok-push_header-in-11.ensures.says c.put_parts.ensures

pub returns-in_ok-push_header-in-7 : goal.returns-in_ok-push_header-in-7
returns-in_ok-push_header-in-7 c =
    let s = c.args.section.now in
    let m = c.args.moved.now in
    let h = c.in_ok-header.header in
    let head : header_at s c.args.at ≡ Some h = search rules in
    let kind : h.kind ≡ 7 = search rules in
    both_if c.put_pairs.result (IsHeader 7 h.size) (MovesPairs s m h.body h.size) (MovesValue s m c.args.at) _ _ _
    (λ end xs ys is parts. map_moved s m c.args.at h end xs ys head kind is parts) c.in_ok-push_header-in-7.ensures.says c.put_pairs.ensures

pub returns-in_default : goal.returns-in_default
returns-in_default c =
    let s = c.args.section.now in
    let m = c.args.moved.now in
    let head : header_at s c.args.at ≡ Some c.in_ok-header.header = search rules in
    weaker_if c.put_scalar.result (MovesScalar s c.in_ok-header.header) (MovesValue s m c.args.at) _ _ (λ end xs is. scalar_moved s m c.args.at c.in_ok-header.header end xs head is) c.put_scalar.ensures
