use Rattle.std.proofs.Common.{rules, ◌≡◌, ◌++◌, ◌∷◌, [], sym, ap, ◌∙◌, subst}
use Rattle.std.specs.List.{All}
use Rattle.json.specs.Print.{escape, escape_byte}
use Rattle.mmdb_json.specs.Appended.{IsPlain}
use Rattle.mmdb_json.proofs.Drafting.{behind_more}
use Rattle.mmdb_json.proofs.Escaping.{run_put, byte_put}
use Rattle.mmdb_json.proofs.strings.put_short.Goals as goal

pub loop-left-preserved-in_ok-put_byte-in-Some : goal.loop-left-preserved-in_ok-put_byte-in-Some
loop-left-preserved-in_ok-put_byte-in-Some c =
    let parts : c.split_at.result.0.now ++ c.split_at.result.1.now ≡ c.loop-left.left.now = search rules in
    let plain : All IsPlain c.split_at.result.0.now = subst (All IsPlain) (sym c.split_at.ensures.front) c.plain_len.ensures.plain in
    let out : c.extend_from_slice.new.self.items ≡ c.loop-left.out.items ++ c.split_at.result.0.now = search rules in
    let byte : c.put_byte.new.out.items ≡ c.extend_from_slice.new.self.items ++ escape_byte c.in-Some.byte.now = search rules in
    let back : c.in-Some.byte.now ∷ c.in-Some.behind.now ≡ c.split_at.result.1.now = search rules in
    let (before, behind) = c.loop-left.invariant in (
      ap (λ l. l ++ (escape c.in-Some.behind.now ++ 34 ∷ [])) byte
          ∙ byte_put c.extend_from_slice.new.self.items c.in-Some.byte.now c.in-Some.behind.now
          ∙ ap (λ l. c.extend_from_slice.new.self.items ++ (escape l ++ 34 ∷ [])) back
          ∙ ap (λ l. l ++ (escape c.split_at.result.1.now ++ 34 ∷ [])) out
          ∙ run_put c.loop-left.out.items c.split_at.result.0.now c.split_at.result.1.now plain
          ∙ ap (λ l. c.loop-left.out.items ++ (escape l ++ 34 ∷ [])) parts
          ∙ before,
      behind_more c.args.out.now.items c.extend_from_slice.new.self.items c.put_byte.new.out.items
          (behind_more c.args.out.now.items c.loop-left.out.items c.extend_from_slice.new.self.items behind (c.split_at.result.0.now, out))
          c.put_byte.ensures.behind,
    )

pub loop-left-preserved : goal.loop-left-preserved
loop-left-preserved c =
    let parts : c.split_at.result.0.now ++ c.split_at.result.1.now ≡ c.loop-left.left.now = search rules in
    let plain : All IsPlain c.split_at.result.0.now = subst (All IsPlain) (sym c.split_at.ensures.front) c.plain_len.ensures.plain in
    let out : c.extend_from_slice.new.self.items ≡ c.loop-left.out.items ++ c.split_at.result.0.now = search rules in
    let (before, behind) = c.loop-left.invariant in (
      ap (λ l. l ++ (escape c.split_at.result.1.now ++ 34 ∷ [])) out
          ∙ run_put c.loop-left.out.items c.split_at.result.0.now c.split_at.result.1.now plain
          ∙ ap (λ l. c.loop-left.out.items ++ (escape l ++ 34 ∷ [])) parts
          ∙ before,
      behind_more c.args.out.now.items c.loop-left.out.items c.extend_from_slice.new.self.items behind (c.split_at.result.0.now, out),
    )
