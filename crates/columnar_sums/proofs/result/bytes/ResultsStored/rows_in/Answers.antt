use Rattle.std.proofs.Common.{drop, sym, ◌∙◌}
use Rattle.std.proofs.lemmas.List.{length-map}
use Rattle.columnar_core.specs.Row.{truth}
use Rattle.columnar_core.specs.Store.{slices_in}
use Rattle.columnar_sums.specs.RankColumns.{ranks_format, ranks_bits}
use Rattle.columnar_sums.specs.ResultLaws.{length-results}
use Rattle.columnar_sums.proofs.result.bytes.ResultsStored.rows_in.Goals as goal

pub returns : goal.returns
returns g c =
    let x = ranks_format.build (drop c.args.offset (slices_in c.args.store.now)) in
    let rest = drop 3 (drop c.args.offset (slices_in c.args.store.now)) in
    c.rows_in.ensures ∙ (length-map (ranks_bits x) truth ∙ sym (length-results g.SC.Column.format g.TC.Column.format x (g.SC.Column.format.build rest) (g.TC.Column.format.build (drop g.SC.Column.format.count rest))))
