-- The contents of a log: whole batches, and a tail.
use Rattle.std.specs.Prelude.{ℕ, Bool, true, false, List, [], ◌∷◌, ◌++◌, ◌≡◌, ◌+◌, ◌%◌, ◌^◌, length}
use Rattle.std.specs.List.{All, flat_map}
use Rattle.columnar_bytes.specs.Accepted.{Accepts, IsFirstFault}
use Rattle.columnar_core.specs.Format.{Format}
use Rattle.columnar_core.specs.declared.fault.StoreFault.{StoreFault}
use Rattle.columnar_core.specs.Row.{Row}
use Rattle.columnar_bytes.specs.Streams.{stores_in, rest_in}
use Rattle.event_log.specs.Batches.{store_rows}
use Rattle.event_log.specs.Counting.{AreCounted}
use Rattle.event_log.specs.Tables.{begins_with_table, table_bytes}
use Rattle.event_log.specs.declared.counts.Counts.{Counts}
use Rattle.event_log.specs.declared.survey.Found.{Found}
use Rattle.event_log.specs.declared.survey.Foreign.{Foreign}
use Rattle.event_log.specs.declared.survey.Foreign.TheVariants.{Store, Tail}

-- the rows of all stores, in order
abbrev pub rows_of_stores : Format → List (List ℕ) → List Row
rows_of_stores f stores = flat_map (store_rows f) stores

-- The first stores of the bytes were processed and give these counts; the other stores are those of the rest.
pub record AreSurveyed (f : Format) (bytes rest : List ℕ) (batches : ℕ) (counts : Counts) : Type 0 where
  pub done : List (List ℕ)
  pub stores : stores_in bytes ≡ done ++ stores_in rest
  pub tail : rest_in bytes ≡ rest_in rest
  pub accepted : All (Accepts f) done
  pub number : batches ≡ length done % 2 ^ 64
  pub counted : AreCounted (rows_of_stores f done) counts

-- Each whole store of the bytes is accepted; their number, their counts of rows, and the bytes after them are these.
pub record IsWholeLog (f : Format) (bytes : List ℕ) (batches : ℕ) (counts : Counts) (tail : List ℕ) : Type 0 where
  pub accepted : All (Accepts f) (stores_in bytes)
  pub number : batches ≡ length (stores_in bytes) % 2 ^ 64
  pub counted : AreCounted (rows_of_stores f (stores_in bytes)) counts
  pub tail_is : tail ≡ rest_in bytes

-- The whole store with this number, counted from 1, is the first that is not accepted; this is its first fault.
pub record IsForeignStore (f : Format) (bytes : List ℕ) (count : ℕ) (fault : StoreFault) : Type 0 where
  pub done : List (List ℕ)
  pub store : List ℕ
  pub later : List (List ℕ)
  pub stores : stores_in bytes ≡ done ++ store ∷ later
  pub accepted : All (Accepts f) done
  pub refused : Accepts f store → ⊥
  pub first : IsFirstFault f store fault
  pub number : count ≡ (length done + 1) % 2 ^ 64

-- The result of a survey of a log: its tail is a prefix of a batch, or empty.
pub record IsFound (f : Format) (bytes : List ℕ) (found : Found) : Type 0 where
  pub whole_log : IsWholeLog f bytes found.batches found.counts (rest_in bytes)
  pub torn : found.torn ≡ length (rest_in bytes)
  pub whole : found.whole + length (rest_in bytes) ≡ length bytes
  pub begins : begins_with_table (table_bytes f) (rest_in bytes) ≡ true

-- why bytes are not a log: a whole store is not a batch, or no batch starts with the bytes after the whole stores
abbrev pub IsForeign : Format → List ℕ → Foreign → Type 0
IsForeign f bytes (Store count fault) = IsForeignStore f bytes count fault
IsForeign f bytes (Tail at) = All (Accepts f) (stores_in bytes) × (at + length (rest_in bytes) ≡ length bytes) × (begins_with_table (table_bytes f) (rest_in bytes) ≡ false)

-- the store is not a batch, and has this number
abbrev pub IsForeignAt : Format → List ℕ → ℕ → Foreign → Type 0
IsForeignAt f store count (Store n fault) = (n ≡ count) × ((Accepts f store → ⊥) × IsFirstFault f store fault)
IsForeignAt f store count (Tail at) = ⊥
