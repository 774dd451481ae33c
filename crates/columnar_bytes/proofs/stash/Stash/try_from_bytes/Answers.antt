use Rattle.std.proofs.Common.{ℕ, List, subst}
use Rattle.columnar_core.specs.ChangeLaws.{passed_on}
use Rattle.columnar_bytes.specs.Accepted.{IsFirstFault}
use Rattle.columnar_bytes.proofs.stash.Stash.try_from_bytes.Goals as goal

pub returns-in_err-validate-clause-fault : goal.returns-in_err-validate-clause-fault
returns-in_err-validate-clause-fault g c =
    let P : List ℕ → Type 0 = λ bs. IsFirstFault g.C.Column.format bs c.in_err-validate.field-0.0 in
    rw (passed_on c.from_residual.result c.from_residual.ensures.1) (subst P c.as_slice.ensures c.in_err-validate.ensures.fault)
