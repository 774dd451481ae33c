-- The severity of an event, as a row: a number below 3.
use Rattle.std.specs.Prelude.{Bool, false, nat_lt}
use Rattle.columnar.specs.Row.{Row, number}
use Rattle.examples.specs.declared.level.Level.{Level}
use Rattle.examples.specs.declared.level.Level.TheVariants.{Note, Warning, Failure}

abbrev pub level_row : Level → Row
level_row Note = number 0
level_row Warning = number 1
level_row Failure = number 2

abbrev pub is_level : Row → Bool
is_level (number n) = nat_lt n 3
is_level _ = false
