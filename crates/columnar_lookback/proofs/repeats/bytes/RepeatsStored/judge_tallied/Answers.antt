use Rattle.std.proofs.Common.{drop, sym, ◌∙◌}
use Rattle.columnar_core.specs.Store.{slices_in}
use Rattle.columnar_sums.specs.RankColumns.{ranks_format}
use Rattle.columnar_lookback.specs.RepeatLaws.{repeats_fine}
use Rattle.columnar_lookback.proofs.repeats.bytes.RepeatsStored.judge_tallied.Goals as goal

pub returns-then-starts_in-clause-exact : goal.returns-then-starts_in-clause-exact
returns-then-starts_in-clause-exact g c = repeats_fine g.TC.Column.format (ranks_format.build (drop c.args.offset (slices_in c.args.store.now))) (g.TC.Column.format.build (drop 3 (drop c.args.offset (slices_in c.args.store.now)))) c.args.offset c.in_ok-judge_tallied.ensures.exact (sym c.starts_in.ensures ∙ c.if-starts_in.true)
