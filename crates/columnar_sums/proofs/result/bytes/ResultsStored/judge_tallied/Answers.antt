use Rattle.std.proofs.Common.{◌+◌, drop}
use Rattle.columnar_core.specs.Format.{bytes_held}
use Rattle.columnar_core.specs.Store.{slices_in}
use Rattle.columnar_sums.specs.RankColumns.{ranks_format}
use Rattle.columnar_sums.specs.ResultLaws.{results_spread, results_held}
use Rattle.columnar_sums.proofs.result.bytes.ResultsStored.judge_tallied.Goals as goal

pub returns-clause-turns : goal.returns-clause-turns
returns-clause-turns g c =
    let ss = slices_in c.args.store.now in
    rw (results_held g.SC.Column.format g.TC.Column.format c.args.offset ss) (results_spread g.SC.Column.format.turns g.TC.Column.format.turns _ _ (bytes_held (ranks_format.build (drop c.args.offset ss))) (bytes_held (g.SC.Column.format.build (drop (c.args.offset + 3) ss))) (bytes_held (g.TC.Column.format.build (drop (c.args.offset + 3 + g.SC.Column.format.count) ss))) c.judge_results.ensures.turns g.met.SC.Stored.storable.swift g.met.TC.Stored.storable.swift)
