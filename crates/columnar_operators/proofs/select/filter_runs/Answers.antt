use Rattle.std.proofs.Common.{arith, refl, sym, ◌∙◌, drop, length, ℕ, ◌+◌, ◌≡◌, ◌<◌, ◌≤◌, List, true, false, rules}
use Rattle.std.proofs.lemmas.Result.{on_ok_weaker}
use Rattle.columnar_operators.specs.Partly.{AtRun}
use Rattle.columnar_operators.specs.Picks.{row_at, chosen}
use Rattle.columnar_operators.specs.PickLaws.{get_row_at, chosen_next, chosen_not, chosen_end}
use Rattle.columnar_operators.specs.PartlyLaws.{at_run_none, at_run_next, at_run_new, at_run_done, at_run_leaves, at_run_rest}
use Rattle.columnar_operators.proofs.select.filter_runs.Goals.{then-not-get+in_ok-copy_run, else-not-get}
use Rattle.columnar_operators.proofs.select.filter_runs.Goals as goal

pub loop-i-init : goal.loop-i-init
loop-i-init g c = at_run_none _ _ (omega arith) c.requires.sound

pub loop-i-preserved : goal.loop-i-preserved
loop-i-preserved g c =
    let rows = g.V.Column.format.rows (g.V.Column.content c.args.view) in
    let bits = g.B.Column.format.rows (g.B.Column.content c.args.bits.now) in
    let i = c.loop-i.i in
    let l : i < length rows = omega (arith, c.requires.same_length, c.len-count.ensures) in
    let r = get_row_at rows i l in
    elim c.if-not-get.branch [
      | then-not-get+in_ok-copy_run w ↦
          let b : c.get.result ≡ false = search rules in
          rw (w.column-is, w.start-is) (at_run_rest (chosen_not rows bits i (row_at rows i) r (rw b at c.get.ensures.row)) (at_run_new (i + 1) (omega arith) w.in_ok-copy_run.ensures.ok w.in_ok-copy_run.ensures.left c.loop-i.invariant))
      | else-not-get w ↦
          let b : c.get.result ≡ true = search rules in
          rw (w.column-is, w.start-is) (at_run_next (row_at rows i) _ r l (chosen_next rows bits i (row_at rows i) r (rw b at c.get.ensures.row)) c.loop-i.invariant)
    ]

pub returns-clause-ok : goal.returns-clause-ok
returns-clause-ok g c =
    let rows = g.V.Column.format.rows (g.V.Column.content c.args.view) in
    let bits = g.B.Column.format.rows (g.B.Column.content c.args.bits.now) in
    on_ok_weaker c.copy_run-2.result (at_run_done (chosen_end rows bits c.loop-i.i (omega (arith, c.requires.same_length, c.len-count.ensures))) c.loop-i.invariant) (search rules)

pub returns-clause-left : goal.returns-clause-left
returns-clause-left g c =
    let rows = g.V.Column.format.rows (g.V.Column.content c.args.view) in
    let bits = g.B.Column.format.rows (g.B.Column.content c.args.bits.now) in
    on_ok_weaker c.copy_run-2.result (at_run_leaves (chosen_end rows bits c.loop-i.i (omega (arith, c.requires.same_length, c.len-count.ensures))) c.loop-i.invariant) (search rules)
