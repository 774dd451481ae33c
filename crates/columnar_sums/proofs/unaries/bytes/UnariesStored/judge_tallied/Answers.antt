use Rattle.std.proofs.Common.{sym, ◌∙◌, drop}
use Rattle.columnar_core.specs.Store.{slices_in}
use Rattle.columnar_sums.specs.RankColumns.{ranks_format}
use Rattle.columnar_sums.specs.UnaryChangeLaws.{judged_true, judged_false}
use Rattle.columnar_sums.proofs.unaries.bytes.UnariesStored.judge_tallied.Goals as goal

pub returns-then-ended_in-clause-exact : goal.returns-then-ended_in-clause-exact
returns-then-ended_in-clause-exact g c = judged_true (ranks_format.build (drop c.args.offset (slices_in c.args.store.now))) c.args.offset c.in_ok-judge_tallied.ensures.exact (sym c.ended_in.ensures ∙ c.if-ended_in.true)

pub returns-else-ended_in-clause-exact : goal.returns-else-ended_in-clause-exact
returns-else-ended_in-clause-exact g c = judged_false (ranks_format.build (drop c.args.offset (slices_in c.args.store.now))) c.args.offset c.in_ok-judge_tallied.ensures.exact (sym c.ended_in.ensures ∙ c.if-ended_in.false)
