use Rattle.std.proofs.Common.{◌≡◌, true, [], length, take, refl, sym, arith}
use Rattle.std.proofs.Math.Seq.{take-length}
use Rattle.std.proofs.lemmas.List.{length-map}
use Rattle.columnar_base.specs.Row.{truth}
use Rattle.columnar_sums.specs.CountLaws.{ones_zero, ones_le}
use Rattle.columnar_sums.specs.RankColumns.{ranks_bits, ranks_content}
use Rattle.columnar_sums.specs.Results.{weave_results}
use Rattle.columnar_sums.specs.WeaveBothLaws.{length-weave_results}
use Rattle.columnar_lookback.specs.Recall.{reaches}
use Rattle.columnar_lookback.specs.RepeatLaws.{ones_set, ones_clear}
use Rattle.columnar_lookback.specs.Lookbacks.{lookbacks_code}
use Rattle.columnar_lookback.specs.LookbackByteLaws.{distance_there, reach_set, reach_clear, reach_stops}
use Rattle.columnar_lookback.proofs.lookbacks.bytes.all_reach.Goals as goal
use Rattle.columnar_lookback.proofs.lookbacks.bytes.all_reach.Goals.{then-get, else-get+else-index_as-values}

pub loop-i-init : goal.loop-i-init
loop-i-init g c = record { pass = λ vs e. refl; values = sym (ones_zero (ranks_bits (ranks_content g.CC.Words.bytes g.RC.Words.bytes g.WC.Words.bytes c.args.bits.now))); turns = omega arith }

pub overflow_add-values : goal.overflow_add-values
overflow_add-values g c = omega (arith, ones_le (ranks_bits (ranks_content g.CC.Words.bytes g.RC.Words.bytes g.WC.Words.bytes c.args.bits.now)) c.loop-i.i, c.loop-i.invariant.values, c.loop-i-test.true, c.len-rows.type_inv)

pub overflow_sub-i : goal.overflow_sub-i
overflow_sub-i g c = omega (arith, ones_le (ranks_bits (ranks_content g.CC.Words.bytes g.RC.Words.bytes g.WC.Words.bytes c.args.bits.now)) c.loop-i.i, c.loop-i.invariant.values)

pub index_as-requires-clause-in_range : goal.index_as-requires-clause-in_range
index_as-requires-clause-in_range g c = distance_there (ranks_bits (ranks_content g.CC.Words.bytes g.RC.Words.bytes g.WC.Words.bytes c.args.bits.now)) (g.E.Column.format.rows (g.E.Column.content c.args.errs.now)) c.loop-i.i c.loop-i.values c.requires.level (omega (arith, c.loop-i-test.true, c.len-rows.ensures, length-map (ranks_bits (ranks_content g.CC.Words.bytes g.RC.Words.bytes g.WC.Words.bytes c.args.bits.now)) truth)) (rw c.if-get.false at c.get.ensures.row) c.loop-i.invariant.values

pub returns-then-index_as-values-clause-value : goal.returns-then-index_as-values-clause-value
returns-then-index_as-values-clause-value g c = λ vs e. reach_stops (ranks_bits (ranks_content g.CC.Words.bytes g.RC.Words.bytes g.WC.Words.bytes c.args.bits.now)) vs (g.E.Column.format.rows (g.E.Column.content c.args.errs.now)) c.loop-i.i c.loop-i.values c.index_as.result (record { values = e; distances = c.requires.level }) (omega (arith, c.loop-i-test.true, c.len-rows.ensures, length-map (ranks_bits (ranks_content g.CC.Words.bytes g.RC.Words.bytes g.WC.Words.bytes c.args.bits.now)) truth)) (rw c.if-get.false at c.get.ensures.row, (c.loop-i.invariant.values, (c.index_as.type_inv, c.index_as.ensures.row))) c.if-index_as-values.true

pub loop-i-preserved : goal.loop-i-preserved
loop-i-preserved g c = record {
  pass = λ vs e. elim c.if-get.branch [
    | then-get w ↦ reach_set (ranks_bits (ranks_content g.CC.Words.bytes g.RC.Words.bytes g.WC.Words.bytes c.args.bits.now)) vs (g.E.Column.format.rows (g.E.Column.content c.args.errs.now)) c.loop-i.i (record { values = e; distances = c.requires.level }) (omega (arith, c.loop-i-test.true, c.len-rows.ensures, length-map (ranks_bits (ranks_content g.CC.Words.bytes g.RC.Words.bytes g.WC.Words.bytes c.args.bits.now)) truth)) (rw w.if-get.true at c.get.ensures.row) (c.loop-i.invariant.pass vs e)
    | else-get+else-index_as-values w ↦ reach_clear (ranks_bits (ranks_content g.CC.Words.bytes g.RC.Words.bytes g.WC.Words.bytes c.args.bits.now)) vs (g.E.Column.format.rows (g.E.Column.content c.args.errs.now)) c.loop-i.i c.loop-i.values w.index_as.result (record { values = e; distances = c.requires.level }) (omega (arith, c.loop-i-test.true, c.len-rows.ensures, length-map (ranks_bits (ranks_content g.CC.Words.bytes g.RC.Words.bytes g.WC.Words.bytes c.args.bits.now)) truth)) (rw w.if-get.false at c.get.ensures.row, (c.loop-i.invariant.values, (w.index_as.type_inv, w.index_as.ensures.row))) w.if-index_as-values.false (c.loop-i.invariant.pass vs e)
  ];
  values = elim c.if-get.branch [
    | then-get w ↦ (let s = ones_set (ranks_bits (ranks_content g.CC.Words.bytes g.RC.Words.bytes g.WC.Words.bytes c.args.bits.now)) c.loop-i.i (rw w.if-get.true at c.get.ensures.row) in omega (arith, w.values-is, c.loop-i.invariant.values, s))
    | else-get+else-index_as-values w ↦ (let s = ones_clear (ranks_bits (ranks_content g.CC.Words.bytes g.RC.Words.bytes g.WC.Words.bytes c.args.bits.now)) c.loop-i.i (rw w.if-get.false at c.get.ensures.row) in omega (arith, w.values-is, c.loop-i.invariant.values, s))
  ];
  turns = omega (arith, c.loop-i.invariant.turns, c.tick.ensures.turns);
}

pub returns-clause-value : goal.returns-clause-value
returns-clause-value g c = λ vs e.
    let us = weave_results (ranks_bits (ranks_content g.CC.Words.bytes g.RC.Words.bytes g.WC.Words.bytes c.args.bits.now)) vs (g.E.Column.format.rows (g.E.Column.content c.args.errs.now)) in
    let n : c.loop-i.i ≡ length us = omega (arith, c.loop-i-test.false, c.loop-i.auto.i-end, c.len-rows.ensures, length-map (ranks_bits (ranks_content g.CC.Words.bytes g.RC.Words.bytes g.WC.Words.bytes c.args.bits.now)) truth, length-weave_results (ranks_bits (ranks_content g.CC.Words.bytes g.RC.Words.bytes g.WC.Words.bytes c.args.bits.now)) vs (g.E.Column.format.rows (g.E.Column.content c.args.errs.now))) in
    let h : reaches lookbacks_code [] (take (length us) us) ≡ true = rw n at (c.loop-i.invariant.pass vs e) in
    sym (rw (take-length us) at h)
