use Rattle.std.proofs.Common.{◌<◌, ◌≤◌, length, arith}
use Rattle.columnar_base.specs.ChangeLaws.{passed_on}
use Rattle.columnar_json.specs.Refusals.{all_rows}
use Rattle.columnar_tool.specs.LineLaws.{none_printed, row_printed, stops_between}
use Rattle.columnar_tool.proofs.cat.print_rows.Goals as goal

pub loop-index-init : goal.loop-index-init
loop-index-init g c = none_printed c.args.view.now c.args.rows.now.schema.now (all_rows c.args.rows.now) c.args.from (g.O.WriteBytes.contents c.args.out.now)

pub loop-index-preserved : goal.loop-index-preserved
loop-index-preserved g c =
    let o : c.args.from ≤ c.loop-index.index = omega (arith, c.loop-index.auto.index) in
    let h : c.loop-index.index < length (all_rows c.args.rows.now) = omega (arith, c.loop-index-test.true, c.requires.within) in
    row_printed c.args.view.now c.args.rows.now.schema.now (all_rows c.args.rows.now) c.args.from c.loop-index.index (g.O.WriteBytes.contents c.args.out.now) (g.O.WriteBytes.contents c.loop-index.out) (g.O.WriteBytes.contents c.print.new.out) c.push_line.new.line.items o h c.loop-index.invariant (rw c.clear.ensures.items at c.in_ok-push_line.ensures.ok) (rw c.as_slice.ensures.value at c.in_ok-print.ensures.printed)

pub returns-in_err-push_line-clause-stopped : goal.returns-in_err-push_line-clause-stopped
returns-in_err-push_line-clause-stopped g c = rw (passed_on c.from_residual.result c.from_residual.ensures.1) (stops_between c.args.view.now c.args.rows.now.schema.now (all_rows c.args.rows.now) c.args.from c.args.to c.loop-index.index (g.O.WriteBytes.contents c.args.out.now) (g.O.WriteBytes.contents c.loop-index.out) c.in_err-push_line.field-0.0 (omega (arith, c.loop-index.auto.index)) c.loop-index-test.true c.loop-index.invariant c.in_err-push_line.ensures.stopped)
