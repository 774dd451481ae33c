use Rattle.std.proofs.Common.{◌+◌, drop, length, true, false, refl, arith}
use Rattle.std.proofs.lemmas.List.{length-map}
use Rattle.columnar_base.specs.ChangeLaws.{passed_on}
use Rattle.columnar_core.specs.Faults.{fault_of}
use Rattle.columnar_core.specs.Format.{bytes_held}
use Rattle.columnar_core.specs.Row.{truth}
use Rattle.columnar_core.specs.Store.{slices_in}
use Rattle.columnar_base.specs.FaultLaws.{sound_from}
use Rattle.columnar_core.specs.TwoPartsLaws.{two_right_at, two_fine_at, two_own_at, judged_part_at, judged_fine_at}
use Rattle.columnar_sums.specs.CountLaws.{ones_le}
use Rattle.columnar_sums.specs.OptionLaws.{ranks_bytes}
use Rattle.columnar_sums.specs.RankColumns.{ranks_format, ranks_bits}
use Rattle.columnar_sums.specs.ResultLaws.{beside_two, results_two, results_level_from, results_level_back, results_level_at, oks_representable, errs_representable, results_turns}
use Rattle.columnar_sums.proofs.result.bytes.judge_results.Goals as goal
use Rattle.columnar_sums.proofs.result.bytes.judge_results.Goals.{else-trues-oks-via-then-trues-oks+else-rows-trues, else-trues-oks-via-else-trues-oks}

pub judge_two-requires-clause-left : goal.judge_two-requires-clause-left
judge_two-requires-clause-left g c = oks_representable g.SC.Column.format g.TC.Column.format c.requires.representable

pub judge_two-requires-clause-right : goal.judge_two-requires-clause-right
judge_two-requires-clause-right g c = errs_representable g.SC.Column.format g.TC.Column.format c.requires.representable

pub returns-in_err-judge_two-clause-exact : goal.returns-in_err-judge_two-clause-exact
returns-in_err-judge_two-clause-exact g c =
    let ss = slices_in c.args.store.now in
    let z = fault_of c.in_err-judge_two.field-0.0 in
    rw (passed_on c.from_residual-in_err-judge_two.result c.from_residual-in_err-judge_two.ensures.1) (two_right_at (results_two g.SC.Column.format g.TC.Column.format) ss c.args.offset z c.in_ok-judge_tallied.ensures.exact (judged_part_at (beside_two g.SC.Column.format g.TC.Column.format) ss (c.args.offset + 3) z c.in_err-judge_two.ensures.exact))

pub returns-in_err-judge_two-clause-turns : goal.returns-in_err-judge_two-clause-turns
returns-in_err-judge_two-clause-turns g c = omega (arith, c.in_ok-judge_tallied.ensures.turns, c.in_err-judge_two.ensures.turns)

pub rows_in-oks-requires-clause-representable : goal.rows_in-oks-requires-clause-representable
rows_in-oks-requires-clause-representable g c = oks_representable g.SC.Column.format g.TC.Column.format c.requires.representable

pub slice_count-requires : goal.slice_count-requires
slice_count-requires g c = oks_representable g.SC.Column.format g.TC.Column.format c.requires.representable

pub rows_in-errs-requires-clause-representable : goal.rows_in-errs-requires-clause-representable
rows_in-errs-requires-clause-representable g c = errs_representable g.SC.Column.format g.TC.Column.format c.requires.representable

pub overflow_sub-rows : goal.overflow_sub-rows
overflow_sub-rows g c =
    let b = ranks_bits (ranks_format.build (drop c.args.offset (slices_in c.args.store.now))) in
    omega (arith, ones_le b (length b), length-map b truth, c.trues_in-trues.ensures.value, c.rows_in-rows.ensures)

pub returns-then-rows-trues-clause-exact : goal.returns-then-rows-trues-clause-exact
returns-then-rows-trues-clause-exact g c =
    let ss = slices_in c.args.store.now in
    let a = g.SC.Column.format in
    let b = g.TC.Column.format in
    let o = c.args.offset in
    let t = results_level_at a b o ss true (results_level_from a b (ranks_format.build (drop o ss)) (a.build (drop (o + 3) ss)) (b.build (drop (o + 3 + a.count) ss)) _ _ _ _ c.trues_in-trues.ensures.value c.rows_in-rows.ensures c.rows_in-oks.ensures (rw c.slice_count.ensures at c.rows_in-errs.ensures) c.if-trues-oks.true c.if-rows-trues.true) in
    two_fine_at (results_two a b) ss o c.in_ok-judge_tallied.ensures.exact (judged_fine_at (beside_two a b) ss (o + 3) c.in_ok-judge_two.ensures.exact refl) t

pub returns-then-rows-trues-clause-turns : goal.returns-then-rows-trues-clause-turns
returns-then-rows-trues-clause-turns g c =
    let ss = slices_in c.args.store.now in
    results_turns g.SC.Column.format.turns g.TC.Column.format.turns _ _ _ _ (bytes_held (ranks_format.build (drop c.args.offset ss))) (bytes_held (g.SC.Column.format.build (drop (c.args.offset + 3) ss))) (bytes_held (g.TC.Column.format.build (drop (c.args.offset + 3 + g.SC.Column.format.count) ss))) c.in_ok-judge_tallied.ensures.turns c.in_ok-judge_two.ensures.turns c.trues_in-trues.ensures.turns (ranks_bytes (ranks_format.build (drop c.args.offset ss)) (sound_from ranks_format (ranks_format.build (drop c.args.offset ss)) c.args.offset c.in_ok-judge_tallied.ensures.exact))

pub returns-else-trues-oks-clause-exact : goal.returns-else-trues-oks-clause-exact
returns-else-trues-oks-clause-exact g c =
    let ss = slices_in c.args.store.now in
    let a = g.SC.Column.format in
    let b = g.TC.Column.format in
    let o = c.args.offset in
    let t = results_level_at a b o ss false (results_level_back a b (ranks_format.build (drop o ss)) (a.build (drop (o + 3) ss)) (b.build (drop (o + 3 + a.count) ss)) _ _ _ _ c.trues_in-trues.ensures.value c.rows_in-rows.ensures c.rows_in-oks.ensures (rw c.slice_count.ensures at c.rows_in-errs.ensures) (λ h k. elim c.else-trues-oks.branch [
      | else-trues-oks-via-then-trues-oks+else-rows-trues w ↦ w.if-rows-trues.false k
      | else-trues-oks-via-else-trues-oks w ↦ w.if-trues-oks.false h
    ])) in
    two_own_at (results_two a b) ss o c.in_ok-judge_tallied.ensures.exact (judged_fine_at (beside_two a b) ss (o + 3) c.in_ok-judge_two.ensures.exact refl) t

pub returns-else-trues-oks-clause-turns : goal.returns-else-trues-oks-clause-turns
returns-else-trues-oks-clause-turns g c =
    let ss = slices_in c.args.store.now in
    results_turns g.SC.Column.format.turns g.TC.Column.format.turns _ _ _ _ (bytes_held (ranks_format.build (drop c.args.offset ss))) (bytes_held (g.SC.Column.format.build (drop (c.args.offset + 3) ss))) (bytes_held (g.TC.Column.format.build (drop (c.args.offset + 3 + g.SC.Column.format.count) ss))) c.in_ok-judge_tallied.ensures.turns c.in_ok-judge_two.ensures.turns c.trues_in-trues.ensures.turns (ranks_bytes (ranks_format.build (drop c.args.offset ss)) (sound_from ranks_format (ranks_format.build (drop c.args.offset ss)) c.args.offset c.in_ok-judge_tallied.ensures.exact))
