use Rattle.std.proofs.Common.{rules, ◌≡◌, ◌++◌, ap, ◌∙◌}
use Rattle.std.proofs.lemmas.Result.{on_ok_weaker}
use Rattle.mmdb_net.specs.Network.{short_text_of}
use Rattle.mmdb_query.proofs.rows.RowMaker.begin.Goals as goal

pub returns : goal.returns
returns g c =
    let front : c.extend_from_slice.new.self.items ≡ g.T.Template.front c.args.self.now.template.now = search rules in
    on_ok_weaker c.push_text.result (λ grown. (c.network.result, c.network.ensures, grown ∙ ap (λ line. line ++ short_text_of c.network.result) front)) c.push_text.ensures
