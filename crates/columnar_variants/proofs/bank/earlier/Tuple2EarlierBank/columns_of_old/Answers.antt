use Rattle.columnar_base.specs.ChangeLaws.{passed_on}
use Rattle.columnar_variants.specs.VariantLaws.{beside_parts}
use Rattle.columnar_variants.specs.BankEarlierLaws.{join_made, first_not, later_not}
use Rattle.columnar_variants.proofs.bank.earlier.Tuple2EarlierBank.columns_of_old.Goals as goal

pub from_old-requires : goal.from_old-requires
from_old-requires g c = (beside_parts g.A.Old.Column.format g.B.Old.ColumnBank.bank.sides c.requires).0

pub columns_of_old-requires : goal.columns_of_old-requires
columns_of_old-requires g c = (beside_parts g.A.Old.Column.format g.B.Old.ColumnBank.bank.sides c.requires).1

pub returns-clause-ok : goal.returns-clause-ok
returns-clause-ok g c = join_made g.A.Old.Column.format g.A.Column.format g.B.Old.ColumnBank.bank g.B.ColumnBank.bank c.in_ok-first.ensures.ok c.in_ok-others.ensures.ok

pub returns-in_err-first-clause-err : goal.returns-in_err-first-clause-err
returns-in_err-first-clause-err g c = rw (passed_on c.from_residual.result c.from_residual.ensures.1) (first_not g.A.Column.format g.B.ColumnBank.bank c.in_err-first.ensures.err)

pub returns-in_err-others-clause-err : goal.returns-in_err-others-clause-err
returns-in_err-others-clause-err g c = rw (passed_on c.from_residual-in_err-others.result c.from_residual-in_err-others.ensures.1) (later_not g.A.Column.format g.B.ColumnBank.bank c.in_err-others.ensures.err)
