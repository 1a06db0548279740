use Rattle.std.proofs.Common.{◌≡◌, ◌++◌, List, ℕ, OnOk, codes, get_or, length, subst, rules, ap, ◌∙◌}
use Rattle.mmdb_net.specs.FullText.{hex_group}
use Rattle.mmdb_net.proofs.TextLaws.{eight_put}
use Rattle.mmdb_net.proofs.text.put_segments.Goals as goal

pub returns : goal.returns
returns c =
    let eight : length c.args.segments ≡ 8 = search rules in
    let next : ℕ → List ℕ = λ at. codes ":" ++ hex_group (get_or c.args.segments at 0) in
    let s0 = c.in_ok-put_group.ensures in
    let s1 = c.in_ok-put_next_group.ensures ∙ ap (λ (text : List ℕ). text ++ next 1) s0 in
    let s2 = c.in_ok-put_next_group-2.ensures ∙ ap (λ (text : List ℕ). text ++ next 2) s1 in
    let s3 = c.in_ok-put_next_group-3.ensures ∙ ap (λ (text : List ℕ). text ++ next 3) s2 in
    let s4 = c.in_ok-put_next_group-4.ensures ∙ ap (λ (text : List ℕ). text ++ next 4) s3 in
    let s5 = c.in_ok-put_next_group-5.ensures ∙ ap (λ (text : List ℕ). text ++ next 5) s4 in
    let s6 = c.in_ok-put_next_group-6.ensures ∙ ap (λ (text : List ℕ). text ++ next 6) s5 in
    let all = ap (λ (text : List ℕ). text ++ next 7) s6 ∙ eight_put c.args.out.now.items c.args.segments eight in
    let P : List ℕ → Type 0 = λ bytes. OnOk c.put_next_group-7.result (c.put_next_group-7.new.out.items ≡ bytes) in
    subst P all c.put_next_group-7.ensures
