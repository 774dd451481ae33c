-- Which stores are accepted for a type of column.
use Rattle.std.specs.Prelude.{ℕ, List, ◌≡◌, ◌%◌, ◌⊎◌, length, Some}
use Rattle.columnar_core.specs.Format.{Format, IsSound, first}
use Rattle.columnar_core.specs.Faults.{fault_of}
use Rattle.columnar_core.specs.Frame.{Frame, IsLegal, IsStore, framed_slices}
use Rattle.columnar_core.specs.declared.fault.StoreFault.{StoreFault}
use Rattle.columnar_bytes.specs.StructureFaults.{IsFirstBroken}

-- The bytes are whole words that frame as many slices as the type has, and these make a well-formed column.
pub record Accepts (f : Format) (bytes : List ℕ) : Type 0 where
  pub whole : length bytes % 8 ≡ 0
  pub slices : List (List ℕ)
  pub framed : Frame bytes slices
  pub count : length slices ≡ f.count
  pub sound : IsSound f (f.build slices)

-- the same for the only slices that the bytes can frame
pub record Accepted (f : Format) (bytes : List ℕ) : Type 0 where
  pub store : IsStore bytes
  pub count : length (framed_slices bytes) ≡ f.count
  pub sound : IsSound f (f.build (framed_slices bytes))

-- The fault is the first broken rule: of the structure, or, if that is legal, of the column in its slices.
abbrev pub IsFirstFault : Format → List ℕ → StoreFault → Type 0
IsFirstFault f bytes fault = IsFirstBroken bytes f.count fault ⊎ (IsLegal bytes f.count × (Some (fault_of fault) ≡ first (f.broken (f.build (framed_slices bytes)))))
