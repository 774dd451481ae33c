-- Results as rows.
use Rattle.std.specs.Prelude.{Result, Ok, Err}
use Rattle.columnar_base.specs.Row.{Row, ok, err}

-- the row of a result
abbrev pub result_row : {T E : Type 0} → (T → Row) → (E → Row) → Result T E → Row
result_row of_value of_error (Ok x) = ok (of_value x)
result_row of_value of_error (Err e) = err (of_error e)

-- what its reads require: what those of its value or of its error require
abbrev pub result_valid : {T E : Type 0} → (T → Type 0) → (E → Type 0) → Result T E → Type 0
result_valid of_value of_error (Ok x) = of_value x
result_valid of_value of_error (Err e) = of_error e
