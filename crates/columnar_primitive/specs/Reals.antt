-- The float of a code.
use Rattle.std.specs.Float.{binary32, binary64}
use Rattle.std.specs.Float.Ieee.{Format, of_bits}
use Rattle.columnar_base.specs.Row.{Row, number_of}
use Rattle.columnar_base.specs.Floats.{float_row}

-- the row of the float with the bits of a number; every bit pattern of a NaN gives the row of the one NaN
abbrev pub as_float : Format → Row → Row
as_float f r = float_row f (of_bits f (number_of r))

abbrev pub as_single : Row → Row
as_single = as_float binary32

abbrev pub as_double : Row → Row
as_double = as_float binary64
