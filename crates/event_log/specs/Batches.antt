-- Batches of events, and their stores.
use Rattle.std.specs.Prelude.{ℕ, List, ◌≡◌, map}
use Rattle.std.specs.List.{All}
use Rattle.columnar_bytes.specs.Accepted.{Accepts}
use Rattle.columnar_core.specs.Format.{Format}
use Rattle.columnar_core.specs.Frame.{framed_slices}
use Rattle.columnar_core.specs.Row.{Row}
use Rattle.columnar_bytes.specs.Streams.{IsOneStore}
use Rattle.event_log.specs.Lines.{IsEvent, line_row, lines_of}

-- the rows of a store
abbrev pub store_rows : Format → List ℕ → List Row
store_rows f bytes = f.rows (f.build (framed_slices bytes))

-- The bytes are exactly one store; it is accepted, and its rows are these.
pub record IsStoreOf (f : Format) (rows : List Row) (bytes : List ℕ) : Type 0 where
  pub one : IsOneStore bytes
  pub accepted : Accepts f bytes
  pub held : store_rows f bytes ≡ rows

-- The bytes are a store of a text's lines, each of which is an event.
abbrev pub IsBatchOf : Format → List ℕ → List ℕ → Type 0
IsBatchOf f text bytes = All IsEvent (lines_of text) × IsStoreOf f (map line_row (lines_of text)) bytes
