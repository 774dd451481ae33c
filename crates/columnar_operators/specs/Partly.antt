-- A call that is refused in its midst, before what it took is taken back.
use Rattle.std.specs.Prelude.{◌≡◌, ℕ, ◌-◌, ◌≤◌, ◌++◌, List, length, take, drop}
use Rattle.columnar_base.specs.Row.{Row}
use Rattle.columnar_base.specs.Format.{Format, Content}
use Rattle.columnar_base.specs.Change.{Took, IsTrueOf}
use Rattle.columnar_base.specs.Room.{WasFull, Leaves}
use Rattle.columnar_base.specs.declared.fault.GrowError.{GrowError}

-- some rows were taken, and the error is true of all that were to be added; there was no room for them if it is `Memory`
pub record Partly (f : Format) (room : List Row → Type 0) (old new : Content) (added : List Row) (error : GrowError) : Type 0 where
  pub front : List Row
  pub took : Took f old new front
  pub cause : IsTrueOf error f old added
  pub full : WasFull room added error

-- Old and some of the rows; they, the rows of a run that is still to be copied, and then `rest` are all that are to be added.
pub record Pending (f : Format) (room left : List Row → Type 0) (old new : Content) (run rest added : List Row) : Type 0 where
  pub front : List Row
  pub took : Took f old new front
  pub leaves : Leaves room left front
  pub whole : added ≡ front ++ (run ++ rest)

-- Old and some of the rows, before the rows `start` to `n` of a view are copied; `rest` is to be added after these.
pub record AtRun (f : Format) (room left : List Row → Type 0) (rows : List Row) (old new : Content) (start n : ℕ) (rest added : List Row) : Type 0 where
  pub ordered : start ≤ n
  pub within : n ≤ length rows
  pub pending : Pending f room left old new (take (n - start) (drop start rows)) rest added
