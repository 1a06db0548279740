use Rattle.std.proofs.Common.{◌∙◌, ap}
use Rattle.mmdb_net.specs.Network.{short_text_of}
use Rattle.mmdb_blocks.specs.Lists.{page_of}
use Rattle.mmdb_blocks.proofs.ListLaws.{appends-more, fails-again, breaks-more, line-headed}
use Rattle.mmdb_blocks.proofs.list.List.put_network.Goals as goal

pub returns-in_err-open-clause-failed : goal.returns-in_err-open-clause-failed
returns-in_err-open-clause-failed g c =
    fails-again c.from_residual.result _ _ c.from_residual.ensures.1 (breaks-more _ _ _ _ _ c.in_err-open.ensures.failed)

pub returns-clause-written : goal.returns-clause-written
returns-clause-written g c =
    let same = line-headed (page_of c.args.self.now) (page_of c.open.new.self) c.args.kind (short_text_of c.args.network) c.in_ok-open.ensures.page in
    let line = c.as_slice.ensures.value ∙ ap (λ v. v.items) c.in_ok-note_filled.ensures.line ∙ c.in_ok-push_network.ensures ∙ rw c.clear.ensures.items same in
    appends-more c.put.result _ _ _ _ _ c.as_slice.result.now line c.in_ok-open.ensures.written c.put.ensures.written
