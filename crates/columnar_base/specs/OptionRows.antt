-- Options as rows.
use Rattle.std.specs.Prelude.{Option, Some, None}
use Rattle.columnar_base.specs.Row.{Row, none, some}

-- the row of an option
abbrev pub option_row : {T : Type 0} → (T → Row) → Option T → Row
option_row meaning None = none
option_row meaning (Some x) = some (meaning x)

-- what its reads require: what those of its value require
abbrev pub option_valid : {T : Type 0} → (T → Type 0) → Option T → Type 0
option_valid valid None = Unit {0}
option_valid valid (Some x) = valid x
