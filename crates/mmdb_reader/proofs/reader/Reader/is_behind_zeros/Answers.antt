use Rattle.std.proofs.Common.{◌∙◌}
use Rattle.std.proofs.lemmas.Bool.{lt-leb}
use Rattle.mmdb_reader.proofs.ShownLemmas.{zeros-short, zeros-long}
use Rattle.mmdb_reader.proofs.reader.Reader.is_behind_zeros.Goals as goal

pub returns-then-position-ge96 : goal.returns-then-position-ge96
returns-then-position-ge96 g c = zeros-long c.args.self.now c.args.position c.requires.at c.requires.ipv6 c.if-position-ge96.true

pub returns-else-position-ge96 : goal.returns-else-position-ge96
returns-else-position-ge96 g c = lt-leb _ _ c.if-position-ge96.false ∙ zeros-short c.args.self.now c.args.position c.requires.at c.requires.ipv6 c.if-position-ge96.false
