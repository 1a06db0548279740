use Rattle.std.proofs.Common.{append-nil, sym, ap, ◌∙◌, ◌++◌, List, ℕ, []}
use Rattle.mmdb_section.specs.Working.{IsSize}
use Rattle.mmdb_section.proofs.StandLemmas.{put}
use Rattle.mmdb_section.proofs.HeaderLemmas.{size_own, size_one, size_two, size_three}
use Rattle.mmdb_section.specs.Bytes.{size_bytes}
use Rattle.mmdb_section.proofs.BytesLemmas.{these_put, own_size, one_size, two_size, three_size}
use Rattle.mmdb_section.proofs.header.push_size.Goals as goal

pub returns-then-size-lt29-clause-says : goal.returns-then-size-lt29-clause-says
returns-then-size-lt29-clause-says c = record { more = []; grown = sym (append-nil c.args.out.now.items); is = size_own c.args.low c.args.size c.if-size-lt29.true (c.requires.own c.if-size-lt29.true) }

pub returns-then-size-lt285-clause-says : goal.returns-then-size-lt285-clause-says
returns-then-size-lt285-clause-says c =
    let e = c.extend_from_slice in
    put e.result (IsSize c.args.low c.args.size) _ _ _ e.ensures.items
    (size_one c.args.low c.args.size (c.requires.one c.if-size-lt29.false c.if-size-lt285.true) c.if-size-lt29.false c.if-size-lt285.true)

pub returns-then-size-lt65821-clause-says : goal.returns-then-size-lt65821-clause-says
returns-then-size-lt65821-clause-says c =
    let e = c.extend_from_slice-then-size-lt65821 in
    put e.result (IsSize c.args.low c.args.size) _ _ _ e.ensures.items
    (size_two c.args.low c.args.size (c.requires.two c.if-size-lt285.false c.if-size-lt65821.true) c.if-size-lt285.false c.if-size-lt65821.true)

pub returns-else-size-lt65821-clause-says : goal.returns-else-size-lt65821-clause-says
returns-else-size-lt65821-clause-says c =
    let e = c.extend_from_slice-else-size-lt65821 in
    put e.result (IsSize c.args.low c.args.size) _ _ _ e.ensures.items
    (size_three c.args.low c.args.size (c.requires.three c.if-size-lt65821.false) c.if-size-lt65821.false c.requires.most)

pub returns-then-size-lt29-clause-bytes : goal.returns-then-size-lt29-clause-bytes
returns-then-size-lt29-clause-bytes c = sym (append-nil c.args.out.now.items) ∙ ap (λ (xs : List ℕ). c.args.out.now.items ++ xs) (own_size c.args.size c.if-size-lt29.true)

pub returns-then-size-lt285-clause-bytes : goal.returns-then-size-lt285-clause-bytes
returns-then-size-lt285-clause-bytes c =
    let e = c.extend_from_slice in
    these_put e.result _ _ (size_bytes c.args.size) _ e.ensures.items (one_size c.args.size c.if-size-lt29.false c.if-size-lt285.true)

pub returns-then-size-lt65821-clause-bytes : goal.returns-then-size-lt65821-clause-bytes
returns-then-size-lt65821-clause-bytes c =
    let e = c.extend_from_slice-then-size-lt65821 in
    these_put e.result _ _ (size_bytes c.args.size) _ e.ensures.items (two_size c.args.size c.if-size-lt285.false c.if-size-lt65821.true)

pub returns-else-size-lt65821-clause-bytes : goal.returns-else-size-lt65821-clause-bytes
returns-else-size-lt65821-clause-bytes c =
    let e = c.extend_from_slice-else-size-lt65821 in
    these_put e.result _ _ (size_bytes c.args.size) _ e.ensures.items (three_size c.args.size c.if-size-lt65821.false)
