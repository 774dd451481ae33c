use Rattle.std.proofs.Common.{arith, rules, ◌≡◌, ◌-◌, ◌<◌, [], take, drop, length}
use Rattle.std.proofs.lemmas.Result.{on_ok_weaker}
use Rattle.columnar_base.specs.ChangeLaws.{passed_on}
use Rattle.columnar_operators.specs.Merged.{merged}
use Rattle.columnar_operators.specs.MergedLaws.{first_ended, merge_falls}
use Rattle.columnar_operators.specs.PartlyLaws.{pending_none, pending_more, pending_next, last_taken, last_leaves, pending_refused}
use Rattle.columnar_operators.proofs.merge.merge_runs.Goals as goal

pub loop-i-init : goal.loop-i-init
loop-i-init g c = record { first = omega arith; second = omega arith; pending = pending_none c.requires.sound }

pub returns-in_err-copy_run-2-clause-err : goal.returns-in_err-copy_run-2-clause-err
returns-in_err-copy_run-2-clause-err g c =
    let first = pending_next _ _ c.loop-i.invariant.pending c.end_of_first-end.ensures.merged c.in_ok-copy_run.ensures.ok c.in_ok-copy_run.ensures.left in
    rw (passed_on c.from_residual-in_err-copy_run-2.result c.from_residual-in_err-copy_run-2.ensures.1) (pending_refused g.met.C.Truncate.lawful (pending_more _ _ first c.end_of_second-end.ensures.merged) c.in_err-copy_run-2.ensures.err c.in_err-copy_run-2.ensures.wanted)

pub loop-i-smaller : goal.loop-i-smaller
loop-i-smaller g c = merge_falls (g.V.Column.format.rows (g.V.Column.content c.args.one)) (g.V.Column.format.rows (g.V.Column.content c.args.other)) c.loop-i.i c.loop-i.j c.end_of_first-end.result c.end_of_second-end.result c.end_of_first-end.ensures.ordered c.end_of_first-end.ensures.in_range c.end_of_second-end.ensures.ordered c.end_of_second-end.ensures.in_range (omega arith) c.end_of_first-end.ensures.stops c.end_of_second-end.ensures.stops

pub loop-i-preserved : goal.loop-i-preserved
loop-i-preserved g c =
    let first = pending_next _ _ c.loop-i.invariant.pending c.end_of_first-end.ensures.merged c.in_ok-copy_run.ensures.ok c.in_ok-copy_run.ensures.left in
    record {
      first = omega arith;
      second = omega arith;
      pending = pending_next _ _ first c.end_of_second-end.ensures.merged c.in_ok-copy_run-2.ensures.ok c.in_ok-copy_run-2.ensures.left;
    }

pub returns-clause-ok : goal.returns-clause-ok
returns-clause-ok g c =
    let xs = g.V.Column.format.rows (g.V.Column.content c.args.one) in
    let ys = g.V.Column.format.rows (g.V.Column.content c.args.other) in
    let p = pending_more (take (c.len.result - c.loop-i.j) (drop c.loop-i.j ys)) [] c.loop-i.invariant.pending (first_ended xs ys c.loop-i.i c.loop-i.j c.len.result (omega arith) (omega arith)) in
    on_ok_weaker c.copy_run-2.result (λ t. last_taken p t) c.copy_run-2.ensures.ok

pub returns-clause-left : goal.returns-clause-left
returns-clause-left g c =
    let xs = g.V.Column.format.rows (g.V.Column.content c.args.one) in
    let ys = g.V.Column.format.rows (g.V.Column.content c.args.other) in
    let p = pending_more (take (c.len.result - c.loop-i.j) (drop c.loop-i.j ys)) [] c.loop-i.invariant.pending (first_ended xs ys c.loop-i.i c.loop-i.j c.len.result (omega arith) (omega arith)) in
    on_ok_weaker c.copy_run-2.result (λ t. last_leaves p t) c.copy_run-2.ensures.left
