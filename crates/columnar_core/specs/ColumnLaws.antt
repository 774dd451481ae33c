-- Consequences of the slices that a column returns.
use Rattle.std.proofs.Common.{ℕ, List, [], ◌∷◌, length, ◌∙◌, ap}
use Rattle.std.proofs.lemmas.Iterator.{YieldsList}
use Rattle.std.proofs.lemmas.Iterator.Consumers.{YieldsList-from_shown}
use Rattle.columnar_core.specs.Column.{GivesSlice}
use Rattle.columnar_core.specs.Slices.{bytes_in}
use Rattle.columnar_core.specs.declared.byte_slice.ByteSlice.{ByteSlice}

-- a loop over an iterator of slices receives the bytes of the remaining slices, in order
pub slices_given : {S : Type 0} (left : S → List (List ℕ)) (aligns : S → List ℕ) (s : S) → YieldsList (GivesSlice left aligns) (λ (p : ℕ × ByteSlice). bytes_in p.1) s (left s)
slices_given left aligns s = YieldsList-from_shown (GivesSlice left aligns) (λ (p : ℕ × ByteSlice). bytes_in p.1) left (λ a b h. ap length h.0) (λ a x b h. h.0) s
