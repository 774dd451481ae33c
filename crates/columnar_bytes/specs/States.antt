-- A stash as a state of the machine.
use Rattle.columnar_core.specs.declared.traits.Column.{Ghosts as ColumnOf}
use Rattle.columnar_bytes.specs.declared.stash.ByteStore.{Ghosts as BytesOf}
use Rattle.columnar_bytes.specs.declared.stash.Stash.{Stash}
use Rattle.columnar_bytes.specs.Stashes.{stash_content, variant_of, written_bytes}
use Rattle.columnar_bytes.specs.Machine.{State}

-- its variant, its content, and what it writes
abbrev pub state_of : {C B : Type 0} {column : ColumnOf C} {store : BytesOf B} → Stash C B column store → State
state_of s = record { variant = variant_of s; content = stash_content s; written = written_bytes s }
