use Rattle.std.proofs.Common.{rules}
use Rattle.mmdb_layout.proofs.OtherLaws.{cut}
use Rattle.mmdb_layout.proofs.texts.Texts.push.Goals as goal

pub invariant_of-self-in-Err : goal.invariant_of-self-in-Err
invariant_of-self-in-Err c =
    let kept = cut (λ t. t.now) c.args.self.now.others.items c.push_other.new.others.items c.len-before.result _ c.in_ok-push_other.ensures.added (search rules) in
    record { parted = search (rules, kept) }
