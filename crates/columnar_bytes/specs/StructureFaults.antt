-- The rules of a store that frames slices, and which of them is broken first.
use Rattle.std.specs.Prelude.{ℕ, List, ◌≡◌, ◌≢◌, ◌⊎◌, ◌<◌, ◌≤◌, ◌+◌, ◌*◌, ◌%◌, length}
use Rattle.columnar_core.specs.Bytes.{word}
use Rattle.columnar_core.specs.Frame.{end_of, start_of, IsPlaced}
use Rattle.columnar_core.specs.declared.fault.StoreFault.{StoreFault}
use Rattle.columnar_core.specs.declared.fault.StoreFault.TheVariants.{NotWords, Empty, FirstOffset, Table, SliceCount, PastEnd, Backwards}

-- The rule of the structure in the fault is broken, at its slice. The store is not whole words; it has no bytes; the
-- first offset points to no word after it; the table of offsets does not fit in the store; it has entries for more or
-- fewer slices than n; slice i extends past the end of the store; slice i ends before it starts.
abbrev pub IsBroken : List ℕ → ℕ → StoreFault → Type 0
IsBroken bytes n (NotWords i) = (i ≡ 0) × (length bytes % 8 ≢ 0)
IsBroken bytes n (Empty i) = (i ≡ 0) × (length bytes ≡ 0)
IsBroken bytes n (FirstOffset i) = (i ≡ 0) × ((word bytes 0 < 8) ⊎ (word bytes 0 % 8 ≢ 0))
IsBroken bytes n (Table i) = (i ≡ 0) × (length bytes < word bytes 0)
IsBroken bytes n (SliceCount i) = (i ≡ 0) × (word bytes 0 ≢ 8 * (n + 1))
IsBroken bytes n (PastEnd i) = (i < n) × (length bytes < end_of bytes i)
IsBroken bytes n (Backwards i) = (i < n) × (end_of bytes i < start_of bytes i)
IsBroken bytes n fault = ⊥

-- the rules that precede the fault's hold
abbrev pub HoldsBefore : List ℕ → ℕ → StoreFault → Type 0
HoldsBefore bytes n (NotWords i) = Unit {0}
HoldsBefore bytes n (Empty i) = length bytes % 8 ≡ 0
HoldsBefore bytes n (FirstOffset i) = (length bytes % 8 ≡ 0) × (8 ≤ length bytes)
HoldsBefore bytes n (Table i) = (length bytes % 8 ≡ 0) × (8 ≤ length bytes) × (8 ≤ word bytes 0) × (word bytes 0 % 8 ≡ 0)
HoldsBefore bytes n (SliceCount i) = (length bytes % 8 ≡ 0) × (8 ≤ word bytes 0) × (word bytes 0 % 8 ≡ 0) × (word bytes 0 ≤ length bytes)
HoldsBefore bytes n (PastEnd i) = (length bytes % 8 ≡ 0) × (word bytes 0 ≡ 8 * (n + 1)) × (8 * (n + 1) ≤ length bytes) × ((j : ℕ) → j < i → IsPlaced bytes j)
HoldsBefore bytes n (Backwards i) = (length bytes % 8 ≡ 0) × (word bytes 0 ≡ 8 * (n + 1)) × (8 * (n + 1) ≤ length bytes) × ((j : ℕ) → j < i → IsPlaced bytes j) × (end_of bytes i ≤ length bytes)
HoldsBefore bytes n fault = ⊥

-- the fault is the first broken rule of the structure
pub record IsFirstBroken (bytes : List ℕ) (n : ℕ) (fault : StoreFault) : Type 0 where
  pub broken : IsBroken bytes n fault
  pub before : HoldsBefore bytes n fault
