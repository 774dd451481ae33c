use Rattle.std.proofs.Common.{sym, ◌∙◌}
use Rattle.std.proofs.lemmas.List.{length-map}
use Rattle.columnar_core.specs.Row.{truth}
use Rattle.columnar_sums.specs.RankColumns.{ranks_content, ranks_bits}
use Rattle.columnar_sums.specs.ResultLaws.{length-results}
use Rattle.columnar_sums.proofs.result.ResultsLen.len.Goals as goal

pub returns : goal.returns
returns g c =
    let x = ranks_content g.CC.Words.bytes g.VC.Words.bytes g.WC.Words.bytes c.args.self.now.indexes in
    c.len.ensures ∙ (length-map (ranks_bits x) truth ∙ sym (length-results g.SC.Column.format g.TC.Column.format x (g.SC.Column.content c.args.self.now.oks) (g.TC.Column.content c.args.self.now.errs)))
