-- Durations: whole seconds and remaining nanoseconds.
use Rattle.std.specs.Prelude.{Bool, nat_lt}
use Rattle.columnar_base.specs.Row.{Row, duration, number_of, first_of, second_of}
use Rattle.columnar_base.specs.Format.{Format}
use Rattle.columnar_base.specs.Tuples.{pair_format}
use Rattle.columnar_primitive.specs.Mapped.{mapped_format}

-- whether a row is a number of nanoseconds below a second
abbrev pub is_part_second : Row → Bool
is_part_second r = nat_lt (number_of r) 1000000000

-- whether a tuple of seconds and nanoseconds is a duration
abbrev pub is_duration : Row → Bool
is_duration r = is_part_second (second_of r)

-- the duration of seconds and nanoseconds
abbrev pub as_duration : Row → Row
as_duration r = duration (number_of (first_of r)) (number_of (second_of r))

-- columns of seconds and of nanoseconds
abbrev pub durations_format : Format → Format → Format
durations_format a b = mapped_format (pair_format a b) as_duration is_duration
