-- Stores of a type or of its earlier form, and the result of opening one.
use Rattle.std.specs.Prelude.{ℕ, List, ◌≡◌, ◌≢◌, ◌≤◌, ◌+◌, ◌*◌, ◌⊎◌, length, Result, Ok, Err}
use Rattle.columnar_core.specs.Bytes.{word}
use Rattle.columnar_core.specs.Format.{Format, IsSound}
use Rattle.columnar_core.specs.Frame.{framed_slices}
use Rattle.columnar_core.specs.declared.fault.GrowError.{GrowError}
use Rattle.columnar_core.specs.declared.fault.StoreFault.{StoreFault}
use Rattle.columnar_core.specs.declared.traits.Column.{Ghosts as ColumnOf}
use Rattle.columnar_bytes.specs.Accepted.{Accepts, IsFirstFault}
use Rattle.columnar_bytes.specs.declared.stash.ByteStore.{Ghosts as BytesOf}
use Rattle.columnar_bytes.specs.declared.stash.Stash.{Stash}
use Rattle.columnar_bytes.specs.declared.stash.Stash.TheVariants.{Typed, Bytes, Align}
use Rattle.columnar_bytes.specs.Stashes.{checked_bytes}
use Rattle.columnar_core.specs.Earlier.{IsMadeOf}
use Rattle.columnar_core.specs.declared.fault.EitherFault.{EitherFault}
use Rattle.columnar_core.specs.declared.fault.EitherFault.TheVariants.{Store, Grow}

-- the bytes are accepted for a type of this format, or for its earlier form
abbrev pub Either : Format → Format → List ℕ → Type 0
Either f old bytes = Accepts f bytes ⊎ Accepts old bytes

-- The bytes name the earlier form: their first word says where a table of its slices ends, and the type has another
-- number of slices.
abbrev pub NamesOld : Format → Format → List ℕ → Type 0
NamesOld f old bytes = (old.count ≢ f.count) × ((8 ≤ length bytes) × (word bytes 0 ≡ 8 * (old.count + 1)))

-- The fault is the first one of the form that the bytes name: the earlier form, or else the form of the type.
abbrev pub IsFaultOfNamed : Format → Format → List ℕ → StoreFault → Type 0
IsFaultOfNamed f old bytes fault = (NamesOld f old bytes × IsFirstFault old bytes fault) ⊎ ((NamesOld f old bytes → ⊥) × IsFirstFault f bytes fault)

-- if the fault is of the store, p holds of it; if it is of the growth, p holds of it
abbrev pub OfStore : EitherFault → (StoreFault → Type 0) → Type 0
OfStore (Store e) p = p e
OfStore (Grow e) p = Unit {0}

abbrev pub OfGrow : EitherFault → (GrowError → Type 0) → Type 0
OfGrow (Store e) p = Unit {0}
OfGrow (Grow e) p = p e

abbrev pub IsOfStore : EitherFault → Type 0
IsOfStore (Store e) = Unit {0}
IsOfStore (Grow e) = ⊥

abbrev pub IsStoreFault : {A : Type 0} → Result A EitherFault → Type 0
IsStoreFault (Ok x) = ⊥
IsStoreFault (Err f) = IsOfStore f

abbrev pub IfStore : {A : Type 0} → Result A EitherFault → (StoreFault → Type 0) → Type 0
IfStore (Ok x) p = Unit {0}
IfStore (Err f) p = OfStore f p

abbrev pub IfGrow : {A : Type 0} → Result A EitherFault → (GrowError → Type 0) → Type 0
IfGrow (Ok x) p = Unit {0}
IfGrow (Err f) p = OfGrow f p

-- The opened stash: the accepted bytes unchanged, or a column with the rows of bytes of the earlier form.
abbrev pub Opened : {C B : Type 0} {column : ColumnOf C} {store : BytesOf B} → Format → List ℕ → Stash C B column store → Type 0
Opened {C} {B} {column} {store} old bytes (Typed c) = Accepts old bytes × IsMadeOf old column.format (old.build (framed_slices bytes)) (column.content c)
Opened {C} {B} {column} {store} old bytes (Bytes k) = Accepts column.format bytes × (checked_bytes k ≡ bytes)
Opened {C} {B} {column} {store} old bytes (Align k) = ⊥
