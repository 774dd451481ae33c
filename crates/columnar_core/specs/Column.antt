-- Iterating over the slices of a column.
use Rattle.std.specs.Prelude.{ℕ, List, [], ◌∷◌, ◌≡◌, drop, Option, MatchOption}
use Rattle.columnar_base.specs.Format.{slices_of}
use Rattle.columnar_core.specs.Slices.{bytes_in, alignment}
use Rattle.columnar_core.specs.declared.byte_slice.ByteSlice.{ByteSlice}
use Rattle.columnar_core.specs.declared.bytes.ByteSlices.{ByteSlices}

-- the remaining slices of the column
abbrev pub byte_slices_left : {V : Type 0} {column : _} → ByteSlices V column → List (List ℕ)
byte_slices_left {column = column} s = drop s.index (slices_of (column.content s.column.now))

-- the alignments of the remaining slices
abbrev pub aligns_left : {V : Type 0} {column : _} → ByteSlices V column → List ℕ
aligns_left {column = column} s = drop s.index column.format.aligns

-- A call from s returned the bytes of the first remaining slice with the type's alignment, and left the others; or no
-- slice remained, it returned `None`, and none remains.
abbrev pub GivesSlice : {S : Type 0} → (S → List (List ℕ)) → (S → List ℕ) → S → Option (ℕ × ByteSlice) → S → Type 0
GivesSlice left aligns s given t = MatchOption given ((left s ≡ []) × (left t ≡ [])) (λ p. (left s ≡ bytes_in p.1 ∷ left t) × (p.0 ≡ alignment p.1) × (aligns s ≡ p.0 ∷ aligns t))
