use Rattle.std.proofs.Common.{rules}
use Rattle.mmdb_format.specs.Views.{content_view}
use Rattle.mmdb_compare.proofs.Same.{scalar_same}
use Rattle.mmdb_compare.proofs.equality.SideBySide.has_same_content.Goals as goal

pub returns : goal.returns
returns c = λ _ depth. scalar_same c.args.self.now c.args.place.now c.leave.new.self depth c.args.old c.args.new (content_view c.in-Some.content) (search rules) (search rules) (search rules) (search rules) (search rules) (search rules) (search rules) (search rules)
