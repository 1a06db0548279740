use Rattle.mmdb_json.proofs.Drafting.{grows_nothing}
use Rattle.mmdb_json.specs.Drafts.{Grows}
use Rattle.mmdb_json.specs.Appended.{comma_if}
use Rattle.std.proofs.Common.{sym, subst, OnOk}
use Rattle.mmdb_json.proofs.draft.Draft.put_comma.Goals as goal

pub returns-then-after_value : goal.returns-then-after_value
returns-then-after_value c = subst (λ b. OnOk c.push.result (Grows c.args.self.now c.push.new.self (comma_if b))) (sym c.if-after_value.true) c.push.ensures

pub returns-else-after_value : goal.returns-else-after_value
returns-else-after_value c = subst (λ b. Grows c.args.self.now c.args.self.now (comma_if b)) (sym c.if-after_value.false) (grows_nothing c.args.self.now)
