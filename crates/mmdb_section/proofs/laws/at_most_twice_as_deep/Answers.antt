use Rattle.mmdb_section.specs.Sections.{IsLaid}
use Rattle.mmdb_section.proofs.WriteLemmas.{laid_tile}
use Rattle.mmdb_section.proofs.laws.at_most_twice_as_deep.Goals as goal

pub returns : goal.returns
returns c tiles bytes t are is = (laid_tile (IsLaid tiles bytes) t tiles are.each is).levels
