use Rattle.std.proofs.Common.{arith, string_bytes}
use Rattle.columnar_tool.specs.TableLaws.{if_fails, row_begun, row_more, rows_begun}
use Rattle.columnar_tool.proofs.table.print_rows.Goals as goal

pub loop-i-preserved : goal.loop-i-preserved
loop-i-preserved g c = row_more c.args.bytes.now c.loop-i.i c.slice_at-begin.result.0 c.slice_at-begin.result.1 c.padding_at-padding.result.now (string_bytes c.push_row.new.line) (g.O.WriteBytes.contents c.args.out.now) (g.O.WriteBytes.contents c.loop-i.out) (g.O.WriteBytes.contents c.put.new.out) c.loop-i.invariant c.slice_at-begin.ensures.begin c.slice_at-begin.ensures.end c.padding_at-padding.ensures (rw c.clear.ensures.bytes at c.in_ok-push_row.ensures) (rw c.as_bytes.ensures.value at c.in_ok-put.ensures.printed)

pub returns-in_err-push_row-clause-begun : goal.returns-in_err-push_row-clause-begun
returns-in_err-push_row-clause-begun g c = if_fails c.from_residual.result (rows_begun c.args.bytes.now c.loop-i.i c.args.count (g.O.WriteBytes.contents c.args.out.now) (g.O.WriteBytes.contents c.loop-i.out) (omega (arith, c.loop-i-test.true)) c.loop-i.invariant)

pub returns-in_err-put-clause-begun : goal.returns-in_err-put-clause-begun
returns-in_err-put-clause-begun g c = if_fails c.from_residual-in_err-put.result (row_begun c.args.bytes.now c.loop-i.i c.args.count c.slice_at-begin.result.0 c.slice_at-begin.result.1 c.padding_at-padding.result.now (string_bytes c.push_row.new.line) (g.O.WriteBytes.contents c.args.out.now) (g.O.WriteBytes.contents c.loop-i.out) (g.O.WriteBytes.contents c.put.new.out) (omega (arith, c.loop-i-test.true)) c.loop-i.invariant c.slice_at-begin.ensures.begin c.slice_at-begin.ensures.end c.padding_at-padding.ensures (rw c.clear.ensures.bytes at c.in_ok-push_row.ensures) (rw c.as_bytes.ensures.value at c.in_err-put.ensures.begun))
