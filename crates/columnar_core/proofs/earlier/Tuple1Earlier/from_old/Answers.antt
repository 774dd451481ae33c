use Rattle.columnar_base.specs.ChangeLaws.{passed_on}
use Rattle.columnar_core.specs.EarlierLaws.{solo_not}
use Rattle.columnar_core.proofs.earlier.Tuple1Earlier.from_old.Goals as goal

pub returns-in_err-first-clause-err : goal.returns-in_err-first-clause-err
returns-in_err-first-clause-err g c = rw (passed_on c.from_residual.result c.from_residual.ensures.1) (solo_not g.A.Column.format _ c.in_err-first.field-0.0 c.in_err-first.ensures.err)
