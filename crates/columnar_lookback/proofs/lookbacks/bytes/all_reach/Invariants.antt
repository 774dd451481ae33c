use Rattle.std.proofs.Common.{◌≡◌, ◌≤◌, ◌+◌, true, List, [], take, length}
use Rattle.columnar_base.specs.Row.{Row}
use Rattle.columnar_sums.specs.Counting.{ones}
use Rattle.columnar_sums.specs.RankColumns.{ranks_bits, ranks_content}
use Rattle.columnar_sums.specs.Results.{weave_results}
use Rattle.columnar_lookback.specs.Recall.{reaches}
use Rattle.columnar_lookback.specs.Lookbacks.{lookbacks_code}
use Rattle.columnar_lookback.proofs.lookbacks.bytes.all_reach.Given as goal

abbrev pub invariant-loop-i : goal.invariant-loop-i
invariant-loop-i g l = record {
  pass : (vs : List Row) → ones (ranks_bits (ranks_content g.CC.Words.bytes g.RC.Words.bytes g.WC.Words.bytes l.bits)) (length (ranks_bits (ranks_content g.CC.Words.bytes g.RC.Words.bytes g.WC.Words.bytes l.bits))) ≡ length vs → reaches lookbacks_code [] (take l.i (weave_results (ranks_bits (ranks_content g.CC.Words.bytes g.RC.Words.bytes g.WC.Words.bytes l.bits)) vs (g.E.Column.format.rows (g.E.Column.content l.errs)))) ≡ true;
  values : l.values ≡ ones (ranks_bits (ranks_content g.CC.Words.bytes g.RC.Words.bytes g.WC.Words.bytes l.bits)) l.i;
  turns : l.tally.turns ≤ l.initial.tally.turns + l.i;
}
