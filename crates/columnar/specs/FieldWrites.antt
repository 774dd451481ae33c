-- Writes of a field of a row that is a tuple.
use Rattle.std.specs.Prelude.{ℕ, zero, suc}
use Rattle.columnar_core.specs.Row.{Row, tuple, solo, first_of, second_of}
use Rattle.columnar_core.specs.Format.{Format, Content}
use Rattle.columnar_base.specs.Solos.{only_of}
use Rattle.columnar_cells.specs.Wrote.{Wrote, row_at}

-- field k of a row, if it is not the last
abbrev pub field_of : ℕ → Row → Row
field_of zero r = first_of r
field_of (suc k) r = field_of k (second_of r)

-- field k of a row, if it is the last
abbrev pub last_of : ℕ → Row → Row
last_of zero r = r
last_of (suc k) r = last_of k (second_of r)

-- the tuple of the fields of a row that has one more than n
abbrev pub fields_of : ℕ → Row → Row
fields_of zero r = r
fields_of (suc n) r = tuple (first_of r) (fields_of n (second_of r))

-- the row with s as field k, which has n fields after it
abbrev pub with_field : ℕ → ℕ → Row → Row → Row
with_field zero zero r s = s
with_field zero (suc n) r s = tuple s (fields_of n (second_of r))
with_field (suc k) n r s = tuple (first_of r) (with_field k n (second_of r) s)

-- a field of row i of a column: field k, the last field k, or the only one
abbrev pub field_at : Format → Content → ℕ → ℕ → Row
field_at f c i k = field_of k (row_at (f.rows c) i)

abbrev pub last_at : Format → Content → ℕ → ℕ → Row
last_at f c i k = last_of k (row_at (f.rows c) i)

abbrev pub only_at : Format → Content → ℕ → Row
only_at f c i = only_of (row_at (f.rows c) i)

-- Row i got s as field k, which has n fields after it; everything else is as before.
abbrev pub WroteField : Format → Content → Content → ℕ → ℕ → ℕ → Row → Type 0
WroteField f old new i k n s = Wrote f old new i (with_field k n (row_at (f.rows old) i) s)

-- Row i got s as its only field; everything else is as before.
abbrev pub WroteOnly : Format → Content → Content → ℕ → Row → Type 0
WroteOnly f old new i s = Wrote f old new i (solo s)
