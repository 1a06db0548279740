use Rattle.std.proofs.Common.{sym, subst}
use Rattle.mmdb_section.specs.declared.value.SectionPart.{SectionPart}
use Rattle.mmdb_section.specs.Sections.{scalar_of}
use Rattle.mmdb_section.specs.Working.{IsScalar, IsPointer, WritesPart}
use Rattle.mmdb_section.proofs.StandLemmas.{weaker_put}
use Rattle.mmdb_section.proofs.WriteLemmas.{number_part, pointer_part}
use Rattle.std.proofs.Common.{ap}
use Rattle.mmdb_section.specs.Bytes.{part_bytes}
use Rattle.mmdb_section.proofs.BytesLemmas.{same_put}
use Rattle.mmdb_section.proofs.write.push_part.Goals as goal

pub returns-in-Number-clause-says : goal.returns-in-Number-clause-says
returns-in-Number-clause-says c =
    weaker_put c.push_number.result (IsScalar (scalar_of c.in-Number.number)) (WritesPart c.args.part) _ _
    (λ xs is. subst (λ (p : SectionPart). WritesPart p xs) (sym c.in-Number.is) (number_part c.in-Number.number xs is)) c.push_number.ensures.says

pub returns-in-At-clause-says : goal.returns-in-At-clause-says
returns-in-At-clause-says c =
    weaker_put c.push_pointer.result (IsPointer c.in-At.offset) (WritesPart c.args.part) _ _
    (λ xs is. subst (λ (p : SectionPart). WritesPart p xs) (sym c.in-At.is) (pointer_part c.in-At.offset xs is)) c.push_pointer.ensures.says

pub returns-in-Number-clause-bytes : goal.returns-in-Number-clause-bytes
returns-in-Number-clause-bytes c = same_put c.push_number.result _ _ _ (part_bytes c.args.part) c.push_number.ensures.bytes (ap part_bytes (sym c.in-Number.is))

pub returns-in-At-clause-bytes : goal.returns-in-At-clause-bytes
returns-in-At-clause-bytes c = same_put c.push_pointer.result _ _ _ (part_bytes c.args.part) c.push_pointer.ensures.bytes (ap part_bytes (sym c.in-At.is))
