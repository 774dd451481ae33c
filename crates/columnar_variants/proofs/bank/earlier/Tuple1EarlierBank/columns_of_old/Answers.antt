use Rattle.columnar_base.specs.ChangeLaws.{passed_on}
use Rattle.columnar_variants.specs.BankEarlierLaws.{leaf_made, leaf_not}
use Rattle.columnar_variants.proofs.bank.earlier.Tuple1EarlierBank.columns_of_old.Goals as goal

pub returns-clause-ok : goal.returns-clause-ok
returns-clause-ok g c = leaf_made g.A.Old.Column.format g.A.Column.format c.in_ok-first.ensures.ok

pub returns-in_err-first-clause-err : goal.returns-in_err-first-clause-err
returns-in_err-first-clause-err g c = rw (passed_on c.from_residual.result c.from_residual.ensures.1) (leaf_not g.A.Column.format c.in_err-first.ensures.err)
