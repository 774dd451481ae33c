-- The contents of a stash.
use Rattle.std.specs.Prelude.{ℕ, List, ◌≡◌}
use Rattle.columnar_core.specs.Row.{Row}
use Rattle.columnar_core.specs.Format.{Content, slices_of}
use Rattle.columnar_core.specs.Words.{store_bytes}
use Rattle.columnar_core.specs.Frame.{framed_slices}
use Rattle.columnar_core.specs.declared.traits.Column.{Ghosts as ColumnOf}
use Rattle.columnar_bytes.specs.declared.stash.ByteStore.{Ghosts as BytesOf}
use Rattle.columnar_bytes.specs.declared.stash.Checked.{Checked}
use Rattle.columnar_bytes.specs.declared.stash.Stash.{Stash}
use Rattle.columnar_bytes.specs.declared.stash.Stash.TheVariants.{Typed, Bytes, Align}

-- the variants of a stash
pub data Variant : Type 0 where
  typed : Variant
  bytes : Variant
  aligned : Variant

-- the accepted bytes
abbrev pub checked_bytes : {C B : Type 0} {column : ColumnOf C} {store : BytesOf B} → Checked C B column store → List ℕ
checked_bytes {C} {B} {column} {store} k = store.bytes k.store

-- the content of a column, or of the slices of accepted bytes
abbrev pub stash_content : {C B : Type 0} {column : ColumnOf C} {store : BytesOf B} → Stash C B column store → Content
stash_content {C} {B} {column} {store} (Typed c) = column.content c
stash_content {C} {B} {column} {store} (Bytes k) = column.format.build (framed_slices (checked_bytes k))
stash_content {C} {B} {column} {store} (Align k) = column.format.build (framed_slices (checked_bytes k))

-- the room of a column; bytes have none
abbrev pub stash_room : {C B : Type 0} {column : ColumnOf C} {store : BytesOf B} → Stash C B column store → List Row → Type 0
stash_room {C} {B} {column} {store} (Typed c) rs = column.room c rs
stash_room {C} {B} {column} {store} (Bytes k) rs = ⊥
stash_room {C} {B} {column} {store} (Align k) rs = ⊥

-- the variant of a stash
abbrev pub variant_of : {C B : Type 0} {column : ColumnOf C} {store : BytesOf B} → Stash C B column store → Variant
variant_of (Typed c) = typed
variant_of (Bytes k) = bytes
variant_of (Align k) = aligned

-- the stash is bytes, and these
abbrev pub HoldsBytes : {C B : Type 0} {column : ColumnOf C} {store : BytesOf B} → Stash C B column store → List ℕ → Type 0
HoldsBytes (Typed c) bs = ⊥
HoldsBytes (Bytes k) bs = checked_bytes k ≡ bs
HoldsBytes (Align k) bs = checked_bytes k ≡ bs

-- what a stash writes: the encoding of a column, or its bytes unchanged
abbrev pub written_bytes : {C B : Type 0} {column : ColumnOf C} {store : BytesOf B} → Stash C B column store → List ℕ
written_bytes {C} {B} {column} {store} (Typed c) = store_bytes (slices_of (column.content c))
written_bytes {C} {B} {column} {store} (Bytes k) = checked_bytes k
written_bytes {C} {B} {column} {store} (Align k) = checked_bytes k

-- a clone of a stash: the same variant, with a clone of the column, or the same bytes
abbrev pub IsStashClone : {C B : Type 0} {column : ColumnOf C} {store : BytesOf B} → (C → C → Type 0) → Stash C B column store → Stash C B column store → Type 0
IsStashClone is_clone (Typed c) (Typed d) = is_clone c d
IsStashClone is_clone (Bytes k) (Bytes l) = checked_bytes l ≡ checked_bytes k
IsStashClone is_clone (Align k) (Align l) = checked_bytes l ≡ checked_bytes k
IsStashClone is_clone _ _ = ⊥
