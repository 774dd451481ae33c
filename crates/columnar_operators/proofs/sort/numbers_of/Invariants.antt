use Rattle.std.proofs.Common.{◌≡◌, take, map}
use Rattle.columnar_operators.proofs.sort.numbers_of.Given as goal

abbrev pub invariant-loop-row : goal.invariant-loop-row
invariant-loop-row g l = l.numbers.items ≡ map (λ p. p.1) (take l.row-index l.rows)
