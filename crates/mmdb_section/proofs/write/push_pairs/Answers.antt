use Rattle.std.proofs.Common.{◌≡◌, ◌+◌, ◌++◌, List, [], ◌∷◌, take, get_or, sym, subst, ap, ◌∙◌, append-nil, false}
use Rattle.std.proofs.lemmas.List.{take_more, take_all}
use Rattle.mmdb_section.specs.declared.value.SectionPart.{SectionPart}
use Rattle.mmdb_section.specs.declared.value.SectionPart.TheVariants.{Number}
use Rattle.mmdb_section.specs.declared.value.Number.TheVariants.{Bool as BoolNumber}
use Rattle.mmdb_section.specs.Bytes.{pairs_bytes}
use Rattle.mmdb_section.specs.Working.{Appends, WritesPart, WritesPairs}
use Rattle.mmdb_section.proofs.BytesLemmas.{no_pairs_put, pair_put}
use Rattle.mmdb_section.proofs.StandLemmas.{both}
use Rattle.mmdb_section.proofs.WriteLemmas.{WritesKey, no_pairs_written, more_key, more_pairs}
use Rattle.mmdb_section.proofs.write.push_pairs.Goals as goal

pub loop-key-init : goal.loop-key-init
loop-key-init c = (record { more = []; grown = sym (append-nil c.args.out.now.items); is = no_pairs_written }, no_pairs_put c.args.out.now.items)

abbrev none : SectionPart × SectionPart
none = (Number (BoolNumber false), Number (BoolNumber false))

pub loop-key-preserved : goal.loop-key-preserved
loop-key-preserved c =
    let pairs = c.args.pairs.now in
    let i = c.loop-key.key-index in
    let p = get_or pairs i none in
    let at : take (i + 1) pairs ≡ take i pairs ++ get_or pairs i none ∷ [] = take_more pairs i none c.loop-key-test.true in
    let key = both (WritesPairs (take i pairs)) (WritesPart p.0) (WritesKey (take i pairs) p.0) _ _ _ (more_key (take i pairs) p.0) c.loop-key.invariant.0 c.in_ok-push_part.ensures.says in (
      subst (λ (ps : List (SectionPart × SectionPart)). Appends (WritesPairs ps) c.args.out.now.items c.push_part-in-loop-key.new.out.items) (sym at)
          (both (WritesKey (take i pairs) p.0) (WritesPart p.1) (WritesPairs (take i pairs ++ p ∷ [])) _ _ _ (more_pairs (take i pairs) p) key c.in_ok-push_part-2.ensures.says),
      pair_put (take i pairs) p (take (i + 1) pairs) _ _ _ _ at c.loop-key.invariant.1 c.in_ok-push_part.ensures.bytes c.in_ok-push_part-2.ensures.bytes,
    )

pub returns-clause-says : goal.returns-clause-says
returns-clause-says c =
    subst (λ (ps : List (SectionPart × SectionPart)). Appends (WritesPairs ps) c.args.out.now.items c.loop-key.out.items) (take_all c.loop-key.key-index c.args.pairs.now c.loop-key-test.false) c.loop-key.invariant.0

pub returns-clause-bytes : goal.returns-clause-bytes
returns-clause-bytes c = c.loop-key.invariant.1 ∙ ap (λ (ps : List (SectionPart × SectionPart)). c.args.out.now.items ++ pairs_bytes ps) (take_all c.loop-key.key-index c.args.pairs.now c.loop-key-test.false)
