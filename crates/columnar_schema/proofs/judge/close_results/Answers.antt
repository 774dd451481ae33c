use Rattle.std.proofs.Common.{drop, length, arith}
use Rattle.std.proofs.lemmas.List.{length-map}
use Rattle.columnar_base.specs.Row.{truth}
use Rattle.columnar_core.specs.Store.{slices_in}
use Rattle.columnar_sums.specs.CountLaws.{ones_le}
use Rattle.columnar_sums.specs.RankColumns.{ranks_format, ranks_bits}
use Rattle.columnar_schema.specs.Formats.{format_of}
use Rattle.columnar_schema.specs.JudgeLaws.{results_closed, results_unclosed}
use Rattle.columnar_schema.proofs.judge.close_results.Goals as goal
use Rattle.columnar_schema.proofs.judge.close_results.Goals.{else-trues-oks-via-then-trues-oks+else-rows-trues, else-trues-oks-via-else-trues-oks}

pub overflow_sub-rows : goal.overflow_sub-rows
overflow_sub-rows g c =
    let b = ranks_bits (ranks_format.build (drop c.args.offset (slices_in c.args.store.now))) in
    omega (arith, ones_le b (length b), length-map b truth, c.trues_in-trues.ensures.value, c.rows_in-rows.ensures)

pub returns-then-rows-trues-clause-exact : goal.returns-then-rows-trues-clause-exact
returns-then-rows-trues-clause-exact g c = results_closed (format_of c.args.values.now) (format_of c.args.errors.now) c.args.offset (slices_in c.args.store.now) _ _ _ _ c.requires.bits c.requires.values (rw c.requires.after at c.requires.errors) c.trues_in-trues.ensures.value c.rows_in-rows.ensures c.rows_of-oks.ensures (rw c.requires.after at c.rows_of-errs.ensures) c.if-trues-oks.true c.if-rows-trues.true

pub returns-else-trues-oks-clause-exact : goal.returns-else-trues-oks-clause-exact
returns-else-trues-oks-clause-exact g c = results_unclosed (format_of c.args.values.now) (format_of c.args.errors.now) c.args.offset (slices_in c.args.store.now) _ _ _ _ c.requires.bits c.requires.values (rw c.requires.after at c.requires.errors) c.trues_in-trues.ensures.value c.rows_in-rows.ensures c.rows_of-oks.ensures (rw c.requires.after at c.rows_of-errs.ensures) (λ h k. elim c.else-trues-oks.branch [
  | else-trues-oks-via-then-trues-oks+else-rows-trues w ↦ w.if-rows-trues.false k
  | else-trues-oks-via-else-trues-oks w ↦ w.if-trues-oks.false h
])
