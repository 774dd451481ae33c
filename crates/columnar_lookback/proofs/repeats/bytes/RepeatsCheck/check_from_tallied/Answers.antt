use Rattle.std.proofs.Common.{sym, ◌∙◌}
use Rattle.columnar_sums.specs.RankColumns.{ranks_content}
use Rattle.columnar_lookback.specs.RepeatLaws.{repeats_fine}
use Rattle.columnar_lookback.proofs.repeats.bytes.RepeatsCheck.check_from_tallied.Goals as goal

pub returns-then-is_started-clause-exact : goal.returns-then-is_started-clause-exact
returns-then-is_started-clause-exact g c = repeats_fine g.TC.Column.format (ranks_content g.CC.Words.bytes g.VC.Words.bytes g.WC.Words.bytes c.args.self.now.inner.indexes) (g.TC.Column.content c.args.self.now.inner.somes) c.args.from c.in_ok-check_from_tallied.ensures.exact (sym c.is_started.ensures ∙ c.if-is_started.true)
