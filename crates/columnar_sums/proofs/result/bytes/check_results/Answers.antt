use Rattle.std.proofs.Common.{◌+◌, length, refl, sym, ◌∙◌, arith}
use Rattle.std.proofs.lemmas.List.{length-map}
use Rattle.columnar_base.specs.ChangeLaws.{passed_on}
use Rattle.columnar_base.specs.FaultLaws.{sound_from}
use Rattle.columnar_core.specs.Faults.{fault_of}
use Rattle.columnar_core.specs.Format.{both, bytes_held}
use Rattle.columnar_core.specs.Row.{truth}
use Rattle.columnar_core.specs.TwoPartsLaws.{two_right, two_fine, two_own, judged_part, judged_fine}
use Rattle.columnar_sums.specs.CountLaws.{ones_le}
use Rattle.columnar_sums.specs.OptionLaws.{ranks_bytes}
use Rattle.columnar_sums.specs.RankColumns.{ranks_format, ranks_content, ranks_bits}
use Rattle.columnar_sums.specs.ResultLaws.{beside_two, results_two, results_level_from, results_level_back, oks_representable, errs_representable, results_turns}
use Rattle.columnar_sums.proofs.result.bytes.check_results.Goals as goal
use Rattle.columnar_sums.proofs.result.bytes.check_results.Goals.{else-trues-len-via-then-trues-len+else-rows-trues, else-trues-len-via-else-trues-len}

pub check_two-requires-clause-left : goal.check_two-requires-clause-left
check_two-requires-clause-left g c = oks_representable g.SC.Column.format g.TC.Column.format c.requires.representable

pub check_two-requires-clause-right : goal.check_two-requires-clause-right
check_two-requires-clause-right g c = errs_representable g.SC.Column.format g.TC.Column.format c.requires.representable

pub returns-in_err-check_two-clause-exact : goal.returns-in_err-check_two-clause-exact
returns-in_err-check_two-clause-exact g c =
    let x = ranks_content g.CC.Words.bytes g.VC.Words.bytes g.WC.Words.bytes c.args.indexes.now in
    let y = g.SC.Column.content c.args.oks.now in
    let w = g.TC.Column.content c.args.errs.now in
    let z = fault_of c.in_err-check_two.field-0.0 in
    rw (passed_on c.from_residual-in_err-check_two.result c.from_residual-in_err-check_two.ensures.1) (two_right (results_two g.SC.Column.format g.TC.Column.format) x (both y w) c.args.from z c.in_ok-check_from_tallied.ensures.exact (judged_part (beside_two g.SC.Column.format g.TC.Column.format) y w (c.args.from + 3) z c.in_err-check_two.ensures.exact))

pub overflow_sub-rows : goal.overflow_sub-rows
overflow_sub-rows g c =
    let b = ranks_bits (ranks_content g.CC.Words.bytes g.VC.Words.bytes g.WC.Words.bytes c.args.indexes.now) in
    omega (arith, ones_le b (length b), length-map b truth, c.trues_tallied-trues.ensures.value, c.len-rows.ensures)

pub returns-then-rows-trues-clause-exact : goal.returns-then-rows-trues-clause-exact
returns-then-rows-trues-clause-exact g c =
    let x = ranks_content g.CC.Words.bytes g.VC.Words.bytes g.WC.Words.bytes c.args.indexes.now in
    let y = g.SC.Column.content c.args.oks.now in
    let w = g.TC.Column.content c.args.errs.now in
    let t = results_level_from g.SC.Column.format g.TC.Column.format x y w _ _ _ _ c.trues_tallied-trues.ensures.value c.len-rows.ensures c.len.ensures c.len-then-trues-len.ensures c.if-trues-len.true c.if-rows-trues.true in
    two_fine (results_two g.SC.Column.format g.TC.Column.format) x (both y w) c.args.from c.in_ok-check_from_tallied.ensures.exact (judged_fine (beside_two g.SC.Column.format g.TC.Column.format) y w (c.args.from + 3) c.in_ok-check_two.ensures.exact refl) t

pub returns-then-rows-trues-clause-turns : goal.returns-then-rows-trues-clause-turns
returns-then-rows-trues-clause-turns g c =
    let x = ranks_content g.CC.Words.bytes g.VC.Words.bytes g.WC.Words.bytes c.args.indexes.now in
    results_turns g.SC.Column.format.turns g.TC.Column.format.turns _ _ _ _ (bytes_held x) (bytes_held (g.SC.Column.content c.args.oks.now)) (bytes_held (g.TC.Column.content c.args.errs.now)) c.in_ok-check_from_tallied.ensures.turns c.in_ok-check_two.ensures.turns c.trues_tallied-trues.ensures.turns (ranks_bytes x (sound_from ranks_format x c.args.from c.in_ok-check_from_tallied.ensures.exact))

pub returns-else-trues-len-clause-exact : goal.returns-else-trues-len-clause-exact
returns-else-trues-len-clause-exact g c =
    let x = ranks_content g.CC.Words.bytes g.VC.Words.bytes g.WC.Words.bytes c.args.indexes.now in
    let y = g.SC.Column.content c.args.oks.now in
    let w = g.TC.Column.content c.args.errs.now in
    let t = results_level_back g.SC.Column.format g.TC.Column.format x y w _ _ _ _ c.trues_tallied-trues.ensures.value c.len-rows.ensures refl refl (λ h k. elim c.else-trues-len.branch [
      | else-trues-len-via-then-trues-len+else-rows-trues v ↦ v.if-rows-trues.false (k ∙ sym v.len-then-trues-len.ensures)
      | else-trues-len-via-else-trues-len v ↦ v.if-trues-len.false (h ∙ sym c.len.ensures)
    ]) in
    two_own (results_two g.SC.Column.format g.TC.Column.format) x (both y w) c.args.from c.in_ok-check_from_tallied.ensures.exact (judged_fine (beside_two g.SC.Column.format g.TC.Column.format) y w (c.args.from + 3) c.in_ok-check_two.ensures.exact refl) t

pub returns-else-trues-len-clause-turns : goal.returns-else-trues-len-clause-turns
returns-else-trues-len-clause-turns g c =
    let x = ranks_content g.CC.Words.bytes g.VC.Words.bytes g.WC.Words.bytes c.args.indexes.now in
    results_turns g.SC.Column.format.turns g.TC.Column.format.turns _ _ _ _ (bytes_held x) (bytes_held (g.SC.Column.content c.args.oks.now)) (bytes_held (g.TC.Column.content c.args.errs.now)) c.in_ok-check_from_tallied.ensures.turns c.in_ok-check_two.ensures.turns c.trues_tallied-trues.ensures.turns (ranks_bytes x (sound_from ranks_format x c.args.from c.in_ok-check_from_tallied.ensures.exact))
