use Rattle.std.proofs.Common.{[]}
use Rattle.columnar_sums.specs.RankColumns.{ranks_bits, ranks_content}
use Rattle.columnar_sums.specs.Results.{weave_results}
use Rattle.columnar_lookback.specs.Recall.{latest}
use Rattle.columnar_lookback.specs.Lookbacks.{lookbacks_code}
use Rattle.columnar_lookback.specs.LookbackLaws.{NoneNearer}
use Rattle.columnar_lookback.proofs.lookbacks.Lookbacks.distance_to.Given as goal

abbrev pub invariant-loop-back : goal.invariant-loop-back
invariant-loop-back g l = NoneNearer g.TC.Column.format.kin (latest lookbacks_code [] (weave_results (ranks_bits (ranks_content g.CC.Words.bytes g.RC.Words.bytes g.WC.Words.bytes l.self.inner.indexes)) (g.TC.Column.format.rows (g.TC.Column.content l.self.inner.oks)) (g.VC.Column.format.rows (g.VC.Column.content l.self.inner.errs)))) (g.T.Item.meaning l.item) l.back
