use Rattle.std.proofs.Common.{arith}
use Rattle.columnar_core.specs.ChangeLaws.{passed_on}
use Rattle.columnar_core.specs.Frame.{slice_count}
use Rattle.columnar_bytes.specs.StreamLaws.{begins_from}
use Rattle.columnar_bytes.specs.StreamFaultLaws.{flaw_none, offset_none}
use Rattle.columnar_bytes.proofs.indexed.split.first_end.Goals as goal

pub returns-in_err-table-clause-none : goal.returns-in_err-table-clause-none
returns-in_err-table-clause-none c = rw (passed_on c.from_residual.result c.from_residual.ensures.1) (offset_none c.args.bytes.now c.in_err-table.ensures.err)

pub returns-in_err-end-clause-none : goal.returns-in_err-end-clause-none
returns-in_err-end-clause-none c = rw (passed_on c.from_residual-in_err-end.result c.from_residual-in_err-end.ensures.1) (flaw_none c.args.bytes.now c.in_err-end.field-0.0 c.in_err-end.ensures.err)

pub returns-clause-begins : goal.returns-clause-begins
returns-clause-begins c = begins_from c.args.bytes.now (slice_count c.args.bytes.now) c.in_ok-end.ensures.ordered (omega (arith, c.in_ok-end.ensures.ok, c.if-end-len.false))
