use Rattle.mmdb_query_forms.proofs.columns.ColumnsTemplate.drop_kept.Goals as goal

pub returns : goal.returns
returns c = λ s fits. c.clear.ensures c.args.self.now s fits
