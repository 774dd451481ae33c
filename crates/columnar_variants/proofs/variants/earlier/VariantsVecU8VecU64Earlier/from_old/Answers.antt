use Rattle.columnar_base.specs.ChangeLaws.{passed_on}
use Rattle.columnar_variants.specs.VariantLaws.{variants_parts}
use Rattle.columnar_variants.specs.BankEarlierLaws.{whole_made, whole_not}
use Rattle.columnar_variants.proofs.variants.earlier.VariantsVecU8VecU64Earlier.from_old.Goals as goal

pub columns_of_old-requires : goal.columns_of_old-requires
columns_of_old-requires g c = (variants_parts g.B.Old.ColumnBank.bank c.requires).parts

pub returns-clause-ok : goal.returns-clause-ok
returns-clause-ok g c = whole_made g.B.Old.ColumnBank.bank g.B.ColumnBank.bank g.met.B.Old.ColumnBank.is_bank g.met.B.ColumnBank.is_bank g.met.B.EarlierBank.level c.requires c.in_ok-columns.ensures.ok

pub returns-in_err-columns-clause-err : goal.returns-in_err-columns-clause-err
returns-in_err-columns-clause-err g c = rw (passed_on c.from_residual.result c.from_residual.ensures.1) (whole_not g.B.Old.ColumnBank.bank g.B.ColumnBank.bank g.met.B.Old.ColumnBank.is_bank g.met.B.ColumnBank.is_bank g.met.B.EarlierBank.level c.in_err-columns.field-0.0 c.requires c.in_err-columns.ensures.err)
