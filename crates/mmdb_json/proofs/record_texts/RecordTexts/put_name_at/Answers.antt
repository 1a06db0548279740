use Rattle.std.proofs.Common.{ℕ, subst}
use Rattle.mmdb_json.specs.Appended.{AppendsOwnName}
use Rattle.mmdb_json.proofs.Keeping.{kept_name_appended}
use Rattle.mmdb_json.proofs.record_texts.RecordTexts.put_name_at.Goals as goal

pub returns-in-Some-clause-name : goal.returns-in-Some-clause-name
returns-in-Some-clause-name c = λ done.
    let (bytes, there) = c.in-Some.ensures in
    let charged = c.put_kept_name.ensures.charged done in
    subst (λ s. (end : ℕ) × AppendsOwnName s c.args.offset end c.args.budget.now c.put_kept_name.new.budget c.args.out.now c.put_kept_name.new.out) c.self.view_is
    (kept_name_appended c.self.inside.section.now c.args.offset c.in-Some.kept.now c.args.budget.now c.put_kept_name.new.budget c.args.out.now c.put_kept_name.new.out (c.self.invariant.names_are (record { key = c.args.offset; value = c.in-Some.kept.now; bytes = bytes }) there) charged.bytes_left charged.values_left charged.levels_left (c.put_kept_name.ensures.put done))
