use Rattle.std.proofs.Common.{◌≡◌, ◌+◌, ◌++◌, List, [], ◌∷◌, take, get_or, sym, subst, ap, ◌∙◌, append-nil, false}
use Rattle.std.proofs.lemmas.List.{take_more, take_all}
use Rattle.mmdb_section.specs.declared.value.SectionPart.{SectionPart}
use Rattle.mmdb_section.specs.declared.value.SectionPart.TheVariants.{Number}
use Rattle.mmdb_section.specs.declared.value.Number.TheVariants.{Bool as BoolNumber}
use Rattle.mmdb_section.specs.Bytes.{parts_bytes}
use Rattle.mmdb_section.specs.Working.{Appends, WritesPart, WritesParts}
use Rattle.mmdb_section.proofs.BytesLemmas.{no_parts_put, part_put}
use Rattle.mmdb_section.proofs.StandLemmas.{both}
use Rattle.mmdb_section.proofs.WriteLemmas.{no_parts, more_parts}
use Rattle.mmdb_section.proofs.write.push_parts.Goals as goal

pub loop-part-init : goal.loop-part-init
loop-part-init c = (record { more = []; grown = sym (append-nil c.args.out.now.items); is = no_parts }, no_parts_put c.args.out.now.items)

abbrev none : SectionPart
none = Number (BoolNumber false)

pub loop-part-preserved : goal.loop-part-preserved
loop-part-preserved c =
    let parts = c.args.parts.now in
    let i = c.loop-part.part-index in
    let p = get_or parts i none in
    let at : take (i + 1) parts ≡ take i parts ++ get_or parts i none ∷ [] = take_more parts i none c.loop-part-test.true in (
      subst (λ (ps : List SectionPart). Appends (WritesParts ps) c.args.out.now.items c.push_part.new.out.items) (sym at)
          (both (WritesParts (take i parts)) (WritesPart p) (WritesParts (take i parts ++ p ∷ [])) _ _ _ (more_parts (take i parts) p) c.loop-part.invariant.0 c.in_ok-push_part.ensures.says),
      part_put (take i parts) p (take (i + 1) parts) _ _ _ at c.loop-part.invariant.1 c.in_ok-push_part.ensures.bytes,
    )

pub returns-clause-says : goal.returns-clause-says
returns-clause-says c =
    subst (λ (ps : List SectionPart). Appends (WritesParts ps) c.args.out.now.items c.loop-part.out.items) (take_all c.loop-part.part-index c.args.parts.now c.loop-part-test.false) c.loop-part.invariant.0

pub returns-clause-bytes : goal.returns-clause-bytes
returns-clause-bytes c = c.loop-part.invariant.1 ∙ ap (λ (ps : List SectionPart). c.args.out.now.items ++ parts_bytes ps) (take_all c.loop-part.part-index c.args.parts.now c.loop-part-test.false)
