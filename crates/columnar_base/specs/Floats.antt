-- Floats as rows: each is a number, and the numbers have the order of the floats.
use Rattle.std.specs.Prelude.{ℕ, ◌+◌, ◌-◌, ◌*◌, cond, nat_lt}
use Rattle.std.specs.Float.{binary32, binary64}
use Rattle.std.specs.Float.Ieee.{Float, Format, top, to_bits}
use Rattle.columnar_base.specs.Row.{Row, number}

-- The place of a bit pattern in the order of floats; `top f` is the sign bit. Patterns with the sign bit come first,
-- from minus infinity to -0.0, then those without, from 0.0 to infinity and the one NaN.
abbrev pub float_place : Format → ℕ → ℕ
float_place f b = cond (nat_lt b (top f)) (top f + b) (2 * top f - 1 - b)

-- the row of a float
abbrev pub float_row : Format → Float → Row
float_row f x = number (float_place f (to_bits f x))

abbrev pub single_row : Float → Row
single_row x = float_row binary32 x

abbrev pub double_row : Float → Row
double_row x = float_row binary64 x
