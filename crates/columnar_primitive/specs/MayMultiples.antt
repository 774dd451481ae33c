-- The rows that columns of multiples deny.
use Rattle.std.specs.Prelude.{ℕ, true, ◌≡◌}
use Rattle.columnar_core.specs.May.{Limit}
use Rattle.columnar_primitive.specs.Fixed.{fixed_refuses}

-- A row is not k times its place, counted from 1; or the number of the rows, or k times it, exceeds 2^64 - 1.
abbrev pub multiples_limit : ℕ → Limit
multiples_limit k e rs = fixed_refuses k e 0 rs ≡ true
