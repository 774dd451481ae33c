use Rattle.std.proofs.Common.{drop, length, sym, ◌∙◌}
use Rattle.columnar_base.specs.ChangeLaws.{passed_on}
use Rattle.columnar_base.specs.Faults.{fault_of}
use Rattle.columnar_base.specs.Format.{bytes_held}
use Rattle.columnar_core.specs.Store.{slices_in}
use Rattle.columnar_sums.specs.RankColumns.{ranks_bits, ranks_format}
use Rattle.columnar_sums.specs.ResultLaws.{results_parts, results_spread, oks_representable, errs_representable, errs_fit}
use Rattle.columnar_lookback.specs.LookbackByteLaws.{lookbacks_fine, lookbacks_fault, lookbacks_own, lookbacks_turns, rows_of_bytes, results_judged, distances_at, held_at, level_at, reached_at, turns_at}
use Rattle.columnar_lookback.proofs.lookbacks.bytes.LookbacksStored.judge_tallied.Goals as goal

pub slice_count-requires : goal.slice_count-requires
slice_count-requires g c = oks_representable g.TC.Column.format g.VC.Column.format c.requires.representable

pub distances_in-errs-requires-clause-representable : goal.distances_in-errs-requires-clause-representable
distances_in-errs-requires-clause-representable g c = errs_representable g.TC.Column.format g.VC.Column.format c.requires.representable

pub distances_in-errs-requires-clause-fits : goal.distances_in-errs-requires-clause-fits
distances_in-errs-requires-clause-fits g c = rw c.slice_count.ensures (errs_fit g.TC.Column.format g.VC.Column.format c.args.offset (slices_in c.args.store.now) (results_judged g.TC.Column.format g.VC.Column.format c.args.offset (slices_in c.args.store.now) c.requires.room c.in_ok-judge_results.ensures.exact))

pub all_reach-requires-clause-level : goal.all_reach-requires-clause-level
all_reach-requires-clause-level g c = level_at c.from_store-bits.ensures.content (rw c.slice_count.ensures at c.distances_in-errs.ensures ∙ distances_at g.TC.Column.format g.VC.Column.format c.args.offset (slices_in c.args.store.now)) (results_parts g.TC.Column.format g.VC.Column.format (results_judged g.TC.Column.format g.VC.Column.format c.args.offset (slices_in c.args.store.now) c.requires.room c.in_ok-judge_results.ensures.exact).sound).err_level

pub returns-in_err-judge_results-clause-exact : goal.returns-in_err-judge_results-clause-exact
returns-in_err-judge_results-clause-exact g c = rw (passed_on c.from_residual.result c.from_residual.ensures.1) (lookbacks_fault g.TC.Column.format g.VC.Column.format (ranks_format.build (drop c.args.offset (slices_in c.args.store.now))) (g.TC.Column.format.build (drop 3 (drop c.args.offset (slices_in c.args.store.now)))) (g.VC.Column.format.build (drop g.TC.Column.format.count (drop 3 (drop c.args.offset (slices_in c.args.store.now))))) c.args.offset (fault_of c.in_err-judge_results.field-0.0) c.in_err-judge_results.ensures.exact)

pub returns-in_err-judge_results-clause-turns : goal.returns-in_err-judge_results-clause-turns
returns-in_err-judge_results-clause-turns g c = (results_spread g.TC.Column.format.turns g.VC.Column.format.turns _ _ (bytes_held (ranks_format.build (drop c.args.offset (slices_in c.args.store.now)))) (bytes_held (g.TC.Column.format.build (drop 3 (drop c.args.offset (slices_in c.args.store.now))))) (bytes_held (g.VC.Column.format.build (drop g.TC.Column.format.count (drop 3 (drop c.args.offset (slices_in c.args.store.now)))))) (held_at g.TC.Column.format g.VC.Column.format c.args.offset (slices_in c.args.store.now) _ _ c.in_err-judge_results.ensures.turns) g.met.TC.Stored.storable.swift g.met.VC.Stored.storable.swift)

pub returns-then-all_reach-clause-exact : goal.returns-then-all_reach-clause-exact
returns-then-all_reach-clause-exact g c = lookbacks_fine g.TC.Column.format g.VC.Column.format (ranks_format.build (drop c.args.offset (slices_in c.args.store.now))) (g.TC.Column.format.build (drop 3 (drop c.args.offset (slices_in c.args.store.now)))) (g.VC.Column.format.build (drop g.TC.Column.format.count (drop 3 (drop c.args.offset (slices_in c.args.store.now))))) c.args.offset c.in_ok-judge_results.ensures.exact (sym (reached_at c.all_reach.result c.from_store-bits.ensures.content (rw c.slice_count.ensures at c.distances_in-errs.ensures ∙ distances_at g.TC.Column.format g.VC.Column.format c.args.offset (slices_in c.args.store.now)) c.all_reach.ensures.value (g.TC.Column.format.rows (g.TC.Column.format.build (drop 3 (drop c.args.offset (slices_in c.args.store.now))))) (results_parts g.TC.Column.format g.VC.Column.format (results_judged g.TC.Column.format g.VC.Column.format c.args.offset (slices_in c.args.store.now) c.requires.room c.in_ok-judge_results.ensures.exact).sound).ok_level) ∙ c.if-all_reach.true)

pub returns-then-all_reach-clause-turns : goal.returns-then-all_reach-clause-turns
returns-then-all_reach-clause-turns g c = (lookbacks_turns g.TC.Column.format.turns g.VC.Column.format.turns _ _ _ (bytes_held (ranks_format.build (drop c.args.offset (slices_in c.args.store.now)))) (bytes_held (g.TC.Column.format.build (drop 3 (drop c.args.offset (slices_in c.args.store.now))))) (bytes_held (g.VC.Column.format.build (drop g.TC.Column.format.count (drop 3 (drop c.args.offset (slices_in c.args.store.now)))))) (length (ranks_bits (ranks_format.build (drop c.args.offset (slices_in c.args.store.now))))) (held_at g.TC.Column.format g.VC.Column.format c.args.offset (slices_in c.args.store.now) _ _ c.in_ok-judge_results.ensures.turns) (turns_at _ _ c.from_store-bits.ensures.content c.all_reach.ensures.turns) (rows_of_bytes (ranks_format.build (drop c.args.offset (slices_in c.args.store.now))) (results_parts g.TC.Column.format g.VC.Column.format (results_judged g.TC.Column.format g.VC.Column.format c.args.offset (slices_in c.args.store.now) c.requires.room c.in_ok-judge_results.ensures.exact).sound).bits) g.met.TC.Stored.storable.swift g.met.VC.Stored.storable.swift)

pub returns-else-all_reach-clause-exact : goal.returns-else-all_reach-clause-exact
returns-else-all_reach-clause-exact g c = lookbacks_own g.TC.Column.format g.VC.Column.format (ranks_format.build (drop c.args.offset (slices_in c.args.store.now))) (g.TC.Column.format.build (drop 3 (drop c.args.offset (slices_in c.args.store.now)))) (g.VC.Column.format.build (drop g.TC.Column.format.count (drop 3 (drop c.args.offset (slices_in c.args.store.now))))) c.args.offset c.in_ok-judge_results.ensures.exact (sym (reached_at c.all_reach.result c.from_store-bits.ensures.content (rw c.slice_count.ensures at c.distances_in-errs.ensures ∙ distances_at g.TC.Column.format g.VC.Column.format c.args.offset (slices_in c.args.store.now)) c.all_reach.ensures.value (g.TC.Column.format.rows (g.TC.Column.format.build (drop 3 (drop c.args.offset (slices_in c.args.store.now))))) (results_parts g.TC.Column.format g.VC.Column.format (results_judged g.TC.Column.format g.VC.Column.format c.args.offset (slices_in c.args.store.now) c.requires.room c.in_ok-judge_results.ensures.exact).sound).ok_level) ∙ c.if-all_reach.false)

pub returns-else-all_reach-clause-turns : goal.returns-else-all_reach-clause-turns
returns-else-all_reach-clause-turns g c = (lookbacks_turns g.TC.Column.format.turns g.VC.Column.format.turns _ _ _ (bytes_held (ranks_format.build (drop c.args.offset (slices_in c.args.store.now)))) (bytes_held (g.TC.Column.format.build (drop 3 (drop c.args.offset (slices_in c.args.store.now))))) (bytes_held (g.VC.Column.format.build (drop g.TC.Column.format.count (drop 3 (drop c.args.offset (slices_in c.args.store.now)))))) (length (ranks_bits (ranks_format.build (drop c.args.offset (slices_in c.args.store.now))))) (held_at g.TC.Column.format g.VC.Column.format c.args.offset (slices_in c.args.store.now) _ _ c.in_ok-judge_results.ensures.turns) (turns_at _ _ c.from_store-bits.ensures.content c.all_reach.ensures.turns) (rows_of_bytes (ranks_format.build (drop c.args.offset (slices_in c.args.store.now))) (results_parts g.TC.Column.format g.VC.Column.format (results_judged g.TC.Column.format g.VC.Column.format c.args.offset (slices_in c.args.store.now) c.requires.room c.in_ok-judge_results.ensures.exact).sound).bits) g.met.TC.Stored.storable.swift g.met.VC.Stored.storable.swift)
