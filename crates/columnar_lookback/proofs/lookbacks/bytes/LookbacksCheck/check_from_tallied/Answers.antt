use Rattle.std.proofs.Common.{length, sym, ◌∙◌}
use Rattle.columnar_base.specs.ChangeLaws.{passed_on}
use Rattle.columnar_base.specs.FaultLaws.{sound_from}
use Rattle.columnar_base.specs.Faults.{fault_of}
use Rattle.columnar_base.specs.Format.{both, bytes_held}
use Rattle.columnar_sums.specs.RankColumns.{ranks_bits, ranks_content}
use Rattle.columnar_sums.specs.Results.{results_format}
use Rattle.columnar_sums.specs.ResultLaws.{results_parts, results_spread}
use Rattle.columnar_lookback.specs.LookbackByteLaws.{lookbacks_fine, lookbacks_fault, lookbacks_own, lookbacks_turns, rows_of_bytes}
use Rattle.columnar_lookback.proofs.lookbacks.bytes.LookbacksCheck.check_from_tallied.Goals as goal

pub all_reach-requires-clause-bits : goal.all_reach-requires-clause-bits
all_reach-requires-clause-bits g c = (results_parts g.TC.Column.format g.VC.Column.format (sound_from (results_format g.TC.Column.format g.VC.Column.format) (both (ranks_content g.CC.Words.bytes g.RC.Words.bytes g.WC.Words.bytes c.args.self.now.inner.indexes) (both (g.TC.Column.content c.args.self.now.inner.oks) (g.VC.Column.content c.args.self.now.inner.errs))) c.args.from c.in_ok-check_results.ensures.exact)).bits

pub all_reach-requires-clause-errs : goal.all_reach-requires-clause-errs
all_reach-requires-clause-errs g c = (results_parts g.TC.Column.format g.VC.Column.format (sound_from (results_format g.TC.Column.format g.VC.Column.format) (both (ranks_content g.CC.Words.bytes g.RC.Words.bytes g.WC.Words.bytes c.args.self.now.inner.indexes) (both (g.TC.Column.content c.args.self.now.inner.oks) (g.VC.Column.content c.args.self.now.inner.errs))) c.args.from c.in_ok-check_results.ensures.exact)).errs

pub all_reach-requires-clause-level : goal.all_reach-requires-clause-level
all_reach-requires-clause-level g c = (results_parts g.TC.Column.format g.VC.Column.format (sound_from (results_format g.TC.Column.format g.VC.Column.format) (both (ranks_content g.CC.Words.bytes g.RC.Words.bytes g.WC.Words.bytes c.args.self.now.inner.indexes) (both (g.TC.Column.content c.args.self.now.inner.oks) (g.VC.Column.content c.args.self.now.inner.errs))) c.args.from c.in_ok-check_results.ensures.exact)).err_level

pub returns-in_err-check_results-clause-exact : goal.returns-in_err-check_results-clause-exact
returns-in_err-check_results-clause-exact g c = rw (passed_on c.from_residual.result c.from_residual.ensures.1) (lookbacks_fault g.TC.Column.format g.VC.Column.format (ranks_content g.CC.Words.bytes g.RC.Words.bytes g.WC.Words.bytes c.args.self.now.inner.indexes) (g.TC.Column.content c.args.self.now.inner.oks) (g.VC.Column.content c.args.self.now.inner.errs) c.args.from (fault_of c.in_err-check_results.field-0.0) c.in_err-check_results.ensures.exact)

pub returns-in_err-check_results-clause-turns : goal.returns-in_err-check_results-clause-turns
returns-in_err-check_results-clause-turns g c = (results_spread g.TC.Column.format.turns g.VC.Column.format.turns _ _ (bytes_held (ranks_content g.CC.Words.bytes g.RC.Words.bytes g.WC.Words.bytes c.args.self.now.inner.indexes)) (bytes_held (g.TC.Column.content c.args.self.now.inner.oks)) (bytes_held (g.VC.Column.content c.args.self.now.inner.errs)) c.in_err-check_results.ensures.turns g.met.TC.Stored.storable.swift g.met.VC.Stored.storable.swift)

pub returns-then-all_reach-clause-exact : goal.returns-then-all_reach-clause-exact
returns-then-all_reach-clause-exact g c = lookbacks_fine g.TC.Column.format g.VC.Column.format (ranks_content g.CC.Words.bytes g.RC.Words.bytes g.WC.Words.bytes c.args.self.now.inner.indexes) (g.TC.Column.content c.args.self.now.inner.oks) (g.VC.Column.content c.args.self.now.inner.errs) c.args.from c.in_ok-check_results.ensures.exact (sym (c.all_reach.ensures.value (g.TC.Column.format.rows (g.TC.Column.content c.args.self.now.inner.oks)) (results_parts g.TC.Column.format g.VC.Column.format (sound_from (results_format g.TC.Column.format g.VC.Column.format) (both (ranks_content g.CC.Words.bytes g.RC.Words.bytes g.WC.Words.bytes c.args.self.now.inner.indexes) (both (g.TC.Column.content c.args.self.now.inner.oks) (g.VC.Column.content c.args.self.now.inner.errs))) c.args.from c.in_ok-check_results.ensures.exact)).ok_level) ∙ c.if-all_reach.true)

pub returns-then-all_reach-clause-turns : goal.returns-then-all_reach-clause-turns
returns-then-all_reach-clause-turns g c = (lookbacks_turns g.TC.Column.format.turns g.VC.Column.format.turns _ _ _ (bytes_held (ranks_content g.CC.Words.bytes g.RC.Words.bytes g.WC.Words.bytes c.args.self.now.inner.indexes)) (bytes_held (g.TC.Column.content c.args.self.now.inner.oks)) (bytes_held (g.VC.Column.content c.args.self.now.inner.errs)) (length (ranks_bits (ranks_content g.CC.Words.bytes g.RC.Words.bytes g.WC.Words.bytes c.args.self.now.inner.indexes))) c.in_ok-check_results.ensures.turns c.all_reach.ensures.turns (rows_of_bytes (ranks_content g.CC.Words.bytes g.RC.Words.bytes g.WC.Words.bytes c.args.self.now.inner.indexes) (results_parts g.TC.Column.format g.VC.Column.format (sound_from (results_format g.TC.Column.format g.VC.Column.format) (both (ranks_content g.CC.Words.bytes g.RC.Words.bytes g.WC.Words.bytes c.args.self.now.inner.indexes) (both (g.TC.Column.content c.args.self.now.inner.oks) (g.VC.Column.content c.args.self.now.inner.errs))) c.args.from c.in_ok-check_results.ensures.exact)).bits) g.met.TC.Stored.storable.swift g.met.VC.Stored.storable.swift)

pub returns-else-all_reach-clause-exact : goal.returns-else-all_reach-clause-exact
returns-else-all_reach-clause-exact g c = lookbacks_own g.TC.Column.format g.VC.Column.format (ranks_content g.CC.Words.bytes g.RC.Words.bytes g.WC.Words.bytes c.args.self.now.inner.indexes) (g.TC.Column.content c.args.self.now.inner.oks) (g.VC.Column.content c.args.self.now.inner.errs) c.args.from c.in_ok-check_results.ensures.exact (sym (c.all_reach.ensures.value (g.TC.Column.format.rows (g.TC.Column.content c.args.self.now.inner.oks)) (results_parts g.TC.Column.format g.VC.Column.format (sound_from (results_format g.TC.Column.format g.VC.Column.format) (both (ranks_content g.CC.Words.bytes g.RC.Words.bytes g.WC.Words.bytes c.args.self.now.inner.indexes) (both (g.TC.Column.content c.args.self.now.inner.oks) (g.VC.Column.content c.args.self.now.inner.errs))) c.args.from c.in_ok-check_results.ensures.exact)).ok_level) ∙ c.if-all_reach.false)

pub returns-else-all_reach-clause-turns : goal.returns-else-all_reach-clause-turns
returns-else-all_reach-clause-turns g c = (lookbacks_turns g.TC.Column.format.turns g.VC.Column.format.turns _ _ _ (bytes_held (ranks_content g.CC.Words.bytes g.RC.Words.bytes g.WC.Words.bytes c.args.self.now.inner.indexes)) (bytes_held (g.TC.Column.content c.args.self.now.inner.oks)) (bytes_held (g.VC.Column.content c.args.self.now.inner.errs)) (length (ranks_bits (ranks_content g.CC.Words.bytes g.RC.Words.bytes g.WC.Words.bytes c.args.self.now.inner.indexes))) c.in_ok-check_results.ensures.turns c.all_reach.ensures.turns (rows_of_bytes (ranks_content g.CC.Words.bytes g.RC.Words.bytes g.WC.Words.bytes c.args.self.now.inner.indexes) (results_parts g.TC.Column.format g.VC.Column.format (sound_from (results_format g.TC.Column.format g.VC.Column.format) (both (ranks_content g.CC.Words.bytes g.RC.Words.bytes g.WC.Words.bytes c.args.self.now.inner.indexes) (both (g.TC.Column.content c.args.self.now.inner.oks) (g.VC.Column.content c.args.self.now.inner.errs))) c.args.from c.in_ok-check_results.ensures.exact)).bits) g.met.TC.Stored.storable.swift g.met.VC.Stored.storable.swift)
