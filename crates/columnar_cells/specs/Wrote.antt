-- The result of a write to a row, and which items can replace a row.
use Rattle.std.specs.Prelude.{ℕ, ◌≡◌, ◌<◌, List, length, slice_get, slice_set, Option, Some, None, Result, Ok, Err}
use Rattle.columnar_base.specs.Row.{Row, unit, none, some, ok, err, list, items_of}
use Rattle.columnar_base.specs.Format.{Format, Content, IsSound, lengths}
use Rattle.std.proofs.Common.{ℕ, ◌≡◌, ◌<◌, ◌-◌, Bool}
use Rattle.columnar_core.specs.Row.{truth}
use Rattle.columnar_bits.specs.Bits.{bit}

-- Row i is r. All other rows and the lengths of all parts stay the same.
pub record Wrote (f : Format) (old new : Content) (i : ℕ) (r : Row) : Type 0 where
  pub sound : IsSound f new
  pub rows : f.rows new ≡ slice_set (f.rows old) i r
  pub lengths_same : lengths new ≡ lengths old

-- a row that was read; unit if there was none
abbrev pub row_in : Option Row → Row
row_in (Some r) = r
row_in None = unit

-- row i
abbrev pub row_at : List Row → ℕ → Row
row_at rs i = row_in (slice_get rs i)

-- An option replaces only one of the same variant.
abbrev pub option_fits : {T : Type 0} → (Row → T → Type 0) → Row → Option T → Type 0
option_fits fits (some r) (Some v) = fits r v
option_fits fits none None = Unit {0}
option_fits fits _ _ = ⊥

-- A result replaces only one of the same variant.
abbrev pub result_fits : {S T : Type 0} → (Row → S → Type 0) → (Row → T → Type 0) → Row → Result S T → Type 0
result_fits ok_fits err_fits (ok r) (Ok v) = ok_fits r v
result_fits ok_fits err_fits (err r) (Err v) = err_fits r v
result_fits ok_fits err_fits _ _ = ⊥

-- the list r with s as item k
abbrev pub with_item : Row → ℕ → Row → Row
with_item r k s = list (slice_set (items_of r) k s)

-- There is an item k, and the new one can replace it.
abbrev pub item_fits : {T : Type 0} → (Row → T → Type 0) → Row → ℕ → T → Type 0
item_fits fits r k v = (k < length (items_of r)) × fits (row_at (items_of r) k) v

-- applies a function to the value of an option, if there is one
abbrev pub in_some : (Row → Row) → Row → Row
in_some to (some r) = some (to r)
in_some to r = r

-- u is the word w with bit k set to v
abbrev pub HasBit : ℕ → ℕ → ℕ → Bool → Type 0
HasBit u w k v = (bit u k ≡ v) × ((j : ℕ) → j < 64 → (j ≡ k → ⊥) → bit u j ≡ bit w j)
