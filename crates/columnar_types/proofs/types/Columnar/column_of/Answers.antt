use Rattle.columnar_base.specs.ChangeLaws.{passed_on}
use Rattle.columnar_types.specs.MadeLaws.{made, not_made}
use Rattle.columnar_types.proofs.types.Columnar.column_of.Goals as goal

pub returns-in_err-push_slice-clause-err : goal.returns-in_err-push_slice-clause-err
returns-in_err-push_slice-clause-err g c = rw (passed_on c.from_residual.result c.from_residual.ensures.1) (not_made c.empty-column.ensures.sound c.empty-column.ensures.rows c.in_err-push_slice.ensures.err)

pub returns-clause-ok : goal.returns-clause-ok
returns-clause-ok g c = made c.empty-column.ensures.rows c.in_ok-push_slice.ensures.ok
