-- A value and its bit, pushed together or not at all.
use Rattle.std.specs.Prelude.{List, ◌⊎◌}
use Rattle.columnar_core.specs.Row.{Row}
use Rattle.columnar_core.specs.Format.{Format, Content}
use Rattle.columnar_core.specs.Change.{Stayed, Refused}
use Rattle.columnar_core.specs.declared.fault.GrowError.{GrowError}

-- One of two columns refused its rows, and the other is unchanged.
abbrev pub NeitherTook : (f g : Format) (x x' y y' : Content) (rs ss : List Row) → GrowError → Type 0
NeitherTook f g x x' y y' rs ss error = (Refused f x x' rs error × Stayed g y y') ⊎ (Stayed f x x' × Refused g y y' ss error)
