use Rattle.std.proofs.Common.{ℕ, List, ◌≡◌, true, false, subst}
use Rattle.columnar_bytes.specs.Accepted.{Accepts, IsFirstFault}
use Rattle.columnar_bytes.proofs.stash.Stash.try_from_exact.Goals as goal

pub returns-in-Err-clause-fault : goal.returns-in-Err-clause-fault
returns-in-Err-clause-fault g c =
    let f = g.C.Column.format in
    let P : List ℕ → Type 0 = λ bs. (Accepts f bs → ⊥) × IsFirstFault f bs c.in-Err.fault in
    subst P c.as_slice.ensures (λ a. let k : false ≡ true = c.in-Err.ensures.exact.1 a in cc, c.in-Err.ensures.fault)
