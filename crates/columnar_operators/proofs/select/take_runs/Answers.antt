use Rattle.std.proofs.Common.{arith, refl, sym, ◌∙◌, drop, length, ℕ, ◌≡◌, ◌<◌, ◌≤◌, List, slice_index_or}
use Rattle.std.proofs.lemmas.Result.{on_ok_weaker}
use Rattle.columnar_operators.specs.Partly.{AtRun}
use Rattle.columnar_operators.specs.Picks.{row_at, rows_at}
use Rattle.columnar_operators.specs.PickLaws.{get_row_at, rows_at_next, rows_at_end}
use Rattle.columnar_operators.specs.PartlyLaws.{at_run_none, at_run_next, at_run_new, at_run_done, at_run_leaves, at_run_refused}
use Rattle.columnar_operators.proofs.select.take_runs.Goals.{then-i-end+in_ok-copy_run, else-i-end}
use Rattle.columnar_operators.proofs.select.take_runs.Goals as goal

pub loop-i-init : goal.loop-i-init
loop-i-init g c = at_run_none _ _ (omega arith) c.requires.sound

pub overflow_add-end : goal.overflow_add-end
overflow_add-end g c = omega (arith, c.requires.in_range c.loop-i.i-index 0 c.loop-i-test.true)

pub loop-i-preserved : goal.loop-i-preserved
loop-i-preserved g c =
    let rows = g.V.Column.format.rows (g.V.Column.content c.args.view) in
    let numbers = c.args.indices.now in
    let n = slice_index_or numbers c.loop-i.i-index 0 in
    let l : n < length rows = c.requires.in_range c.loop-i.i-index 0 c.loop-i-test.true in
    let run : AtRun g.C.Column.format (g.C.Column.room c.args.column.now) (g.C.Column.room c.if-i-end.column) rows (g.C.Column.content c.args.column.now) (g.C.Column.content c.if-i-end.column) c.if-i-end.start n (rows_at rows (drop c.loop-i.i-index numbers)) (rows_at rows numbers) =
    elim c.if-i-end.branch [
      | then-i-end+in_ok-copy_run w ↦ rw (w.column-is, w.start-is) (at_run_new n (omega arith) w.in_ok-copy_run.ensures.ok w.in_ok-copy_run.ensures.left c.loop-i.invariant)
      | else-i-end w ↦ rw (w.column-is, w.start-is, w.if-i-end.false) c.loop-i.invariant
    ] in
    at_run_next (row_at rows n) _ (get_row_at rows n l) l (rows_at_next rows numbers c.loop-i.i-index 0 c.loop-i-test.true) run

pub returns-clause-ok : goal.returns-clause-ok
returns-clause-ok g c =
    let rows = g.V.Column.format.rows (g.V.Column.content c.args.view) in
    on_ok_weaker c.copy_run-2.result (at_run_done (rows_at_end rows c.args.indices.now c.loop-i.i-index (omega arith)) c.loop-i.invariant) c.copy_run-2.ensures.ok

pub returns-clause-left : goal.returns-clause-left
returns-clause-left g c =
    let rows = g.V.Column.format.rows (g.V.Column.content c.args.view) in
    on_ok_weaker c.copy_run-2.result (at_run_leaves (rows_at_end rows c.args.indices.now c.loop-i.i-index (omega arith)) c.loop-i.invariant) c.copy_run-2.ensures.left
