use Rattle.std.proofs.Common.{arith, ◌^◌, ◌-◌}
use Rattle.columnar_core.specs.ChangeLaws.{passed_on}
use Rattle.columnar_bytes.specs.StreamFaults.{IsLengthAfter}
use Rattle.columnar_bytes.specs.StreamFaultLaws.{no_first_offset, no_slice, needed_after, known_after}
use Rattle.columnar_bytes.proofs.indexed.split.store_length.Goals as goal

pub returns-in_err-table-clause-refused : goal.returns-in_err-table-clause-refused
returns-in_err-table-clause-refused c = rw (passed_on c.from_residual.result c.from_residual.ensures.1) (no_first_offset c.args.prefix.now (omega arith) c.in_err-table.ensures.err)

pub returns-then-table-prefix-clause-needed : goal.returns-then-table-prefix-clause-needed
returns-then-table-prefix-clause-needed c = (omega arith, needed_after c.args.prefix.now c.in_ok-table.table (omega arith) c.in_ok-table.ensures.ok.0)

pub returns-in_err-end-clause-refused : goal.returns-in_err-end-clause-refused
returns-in_err-end-clause-refused c = rw (passed_on c.from_residual-in_err-end.result c.from_residual-in_err-end.ensures.1) (no_slice c.args.prefix.now c.in_err-end.field-0.0 c.in_err-end.ensures.err)

pub returns-clause-known : goal.returns-clause-known
returns-clause-known c = (c.in_ok-end.ensures.ok, rw c.in_ok-end.ensures.ok (known_after c.args.prefix.now (2 ^ 64 - 8) c.in_ok-end.ensures.ordered))
