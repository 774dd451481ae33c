-- Why bytes begin with no store, and what their beginning determines about its length.
use Rattle.std.specs.Prelude.{ℕ, List, ◌++◌, ◌≡◌, ◌≢◌, ◌⊎◌, ◌<◌, ◌≤◌, ◌+◌, ◌*◌, ◌%◌, ◌^◌, length, take, Result, Ok, Err}
use Rattle.columnar_core.specs.Bytes.{word}
use Rattle.columnar_core.specs.Frame.{start_of, end_of, slice_count}
use Rattle.columnar_core.specs.declared.fault.StoreFault.{StoreFault}
use Rattle.columnar_core.specs.declared.fault.StoreFault.TheVariants.{NotWords, Empty, FirstOffset, Table, PastEnd, Backwards}
use Rattle.columnar_bytes.specs.Streams.{IsOneStore, HasTable, store_end}
use Rattle.columnar_bytes.specs.declared.indexed.split.StoreLength.{StoreLength}
use Rattle.columnar_bytes.specs.declared.indexed.split.StoreLength.TheVariants.{Known, Needs}

-- A rule of the slices is broken: the first slice out of order ends past the limit or before its start.
abbrev pub IsSliceFlaw : List ℕ → ℕ → StoreFault → Type 0
IsSliceFlaw bytes limit (PastEnd i) = (i < slice_count bytes) × (HasTable bytes limit (slice_count bytes) i × (limit < end_of bytes i))
IsSliceFlaw bytes limit (Backwards i) = (i < slice_count bytes) × (HasTable bytes limit (slice_count bytes) i × ((end_of bytes i ≤ limit) × (end_of bytes i < start_of bytes i)))
IsSliceFlaw bytes limit fault = ⊥

-- The first broken rule of a store at the beginning of the bytes, which is to end at `limit` at most. There are no
-- bytes; there is no whole word, or a part of the last word is missing; the first offset points to no word after it;
-- the table is incomplete; slice i, the first such one, ends past the limit or before its start.
abbrev pub IsFlaw : List ℕ → ℕ → StoreFault → Type 0
IsFlaw bytes limit (Empty i) = (i ≡ 0) × (length bytes ≡ 0)
IsFlaw bytes limit (NotWords i) = (i ≡ 0) × (0 < length bytes) × ((length bytes < 8) ⊎ (HasTable bytes limit (slice_count bytes) (slice_count bytes) × (limit < store_end bytes)))
IsFlaw bytes limit (FirstOffset i) = (i ≡ 0) × (8 ≤ length bytes) × ((word bytes 0 < 8) ⊎ (word bytes 0 % 8 ≢ 0))
IsFlaw bytes limit (Table i) = (i ≡ 0) × (8 ≤ length bytes) × (word bytes 0 ≡ 8 * (slice_count bytes + 1)) × (length bytes < word bytes 0)
IsFlaw bytes limit fault = IsSliceFlaw bytes limit fault

-- if the length is known, p holds of it; if bytes are needed, p holds of their number
abbrev pub IfKnown : StoreLength → (ℕ → Type 0) → Type 0
IfKnown (Known n) p = p n
IfKnown (Needs n) p = Unit {0}

abbrev pub IfNeeded : StoreLength → (ℕ → Type 0) → Type 0
IfNeeded (Known n) p = Unit {0}
IfNeeded (Needs n) p = p n

-- whatever follows: the bytes begin with one store of this length, as soon as they are at least as many
abbrev pub IsLengthAfter : List ℕ → ℕ → Type 0
IsLengthAfter prefix n = (more : List ℕ) → n ≤ length (prefix ++ more) → IsOneStore (take n (prefix ++ more))

-- whatever follows: a store with this beginning has at least as many bytes
abbrev pub IsNeededAfter : List ℕ → ℕ → Type 0
IsNeededAfter prefix n = (more : List ℕ) → IsOneStore (prefix ++ more) → n ≤ length (prefix ++ more)

-- whatever follows: the bytes are not a store that 64 bits can count
abbrev pub IsNoStoreAfter : List ℕ → Type 0
IsNoStoreAfter prefix = (more : List ℕ) → length (prefix ++ more) < 2 ^ 64 → IsOneStore (prefix ++ more) → ⊥
