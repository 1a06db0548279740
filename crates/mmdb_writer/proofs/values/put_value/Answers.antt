use Rattle.std.proofs.Common.{subst}
use Rattle.mmdb_section.specs.declared.value.SectionPart.{SectionPart}
use Rattle.mmdb_value.specs.Values.{value_tree}
use Rattle.mmdb_writer.specs.Working.{Puts}
use Rattle.mmdb_writer.proofs.SectionLemmas.{number_put}
use Rattle.mmdb_writer.proofs.values.put_value.Goals as goal

pub returns-in-Number-clause-ok : goal.returns-in-Number-clause-ok
returns-in-Number-clause-ok c =
    number_put c.add.result c.in-Number.number (value_tree c.args.value.now) c.args.section.now c.add_part.new.section c.add.new.self
    (subst (λ (part : SectionPart). Puts (value_tree c.args.value.now) c.args.section.now c.add_part.new.section part) c.in-Number.is c.in_ok-offset.ensures.ok) c.add.ensures.value c.add.ensures.known c.add.ensures.stays_known
