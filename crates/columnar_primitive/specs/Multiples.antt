-- The multiples of a stride, as rows and as offsets.
use Rattle.std.proofs.Common.{ℕ, zero, suc, ◌-◌, ◌*◌, List, [], ◌∷◌}
use Rattle.columnar_core.specs.Row.{Row, number}

-- consecutive multiples of k, after the first `from` of them
unfoldable pub multiples : ℕ → ℕ → ℕ → List Row
multiples k from zero = []
multiples k from (suc n) = number (k * suc from) ∷ multiples k (suc from) n
