use Rattle.std.proofs.Common.{rules, ◌≡◌, ◌∙◌, true, false, length, refl}
use Rattle.mmdb_value.specs.Values.{value_tree}
use Rattle.mmdb_writer.specs.Limits.{CanBeRead}
use Rattle.mmdb_writer.specs.declared.limits.ValueError.TheVariants.{KeyTwice}
use Rattle.mmdb_writer.proofs.MakingLemmas.{values_so_far, value_added, value_error, stays_grown}
use Rattle.mmdb_writer.specs.Making.{Stays}
use Rattle.mmdb_writer.specs.Working.{Keeps}
use Rattle.mmdb_writer.proofs.SectionLemmas.{put_kept}
use Rattle.mmdb_section.specs.declared.value.SectionPart.TheVariants.{At}
use Rattle.mmdb_writer.proofs.writer.Writer.add_value.Goals as goal

pub returns-in-Err-clause-explained : goal.returns-in-Err-clause-explained
returns-in-Err-clause-explained c =
    let next : c.len-index.result ≡ length c.args.self.now.offsets.items = search rules in
    value_error c.args.value.now c.args.self.now c.len-index.result c.in-Err.error next c.in-Err.ensures.err

pub returns-then-not-branch-clause-explained : goal.returns-then-not-branch-clause-explained
returns-then-not-branch-clause-explained c =
    let next : c.len-index.result ≡ length c.args.self.now.offsets.items = search rules in
    let not_once : c.in_ok-has_keys_once.field-0 ≡ false = search rules in
    value_error c.args.value.now c.args.self.now c.len-index.result KeyTwice next (c.in_ok-has_keys_once.ensures.twice not_once)

pub returns-clause-added : goal.returns-clause-added
returns-clause-added c = λ values rows options made.
    let next : c.len-index.result ≡ length c.args.self.now.offsets.items = search rules in
    let once : c.in_ok-has_keys_once.field-0 ≡ true = search rules in
    let can : CanBeRead (value_tree c.args.value.now) = record { within = c.in_default.ensures.ok; once = c.in_ok-has_keys_once.ensures.once once } in (
      next ∙ values_so_far values rows options c.args.self.now made,
      value_added values rows options c.args.self.now made c.args.value.now _ c.in_ok-offset.offset can c.in_ok-offset.ensures.ok refl c.in_ok-push.ensures.items refl,
    )

pub returns-in_err-offset-clause-kept : goal.returns-in_err-offset-clause-kept
returns-in_err-offset-clause-kept c =
    let stays : Stays c.args.self.now _ = stays_grown c.args.self.now (record { options = c.args.self.now.options; section = c.put_value.new.section; offsets = c.args.self.now.offsets; entries = c.args.self.now.entries }) refl refl refl c.in_err-offset.ensures.kept in
    search rules

pub returns-in_err-push-clause-kept : goal.returns-in_err-push-clause-kept
returns-in_err-push-clause-kept c =
    let keeps : Keeps c.args.self.now.section c.put_value.new.section = put_kept (value_tree c.args.value.now) c.args.self.now.section c.put_value.new.section (At c.in_ok-offset.offset) c.in_ok-offset.ensures.ok in
    let stays : Stays c.args.self.now _ = stays_grown c.args.self.now (record { options = c.args.self.now.options; section = c.put_value.new.section; offsets = c.push.new.self; entries = c.args.self.now.entries }) refl c.in_err-push.ensures.items refl keeps in
    search rules
