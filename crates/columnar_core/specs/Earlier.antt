-- Formats with an earlier form, and the laws of a column that is built from one.
use Rattle.std.specs.Prelude.{ℕ, zero, suc, List, [], ◌∷◌, ◌+◌, ◌≡◌, ◌<◌, ◌⊎◌}
use Rattle.columnar_base.specs.Row.{Row}
use Rattle.columnar_base.specs.Format.{Format, Content, IsSound}
use Rattle.columnar_base.specs.Change.{IsTrueOf}
use Rattle.columnar_base.specs.declared.fault.GrowError.{GrowError}

-- The format `old` is an earlier form of `new`: it has fewer slices, or it is the same.
abbrev pub IsEarlier : Format → Format → Type 0
IsEarlier old new = (old.count < new.count) ⊎ (old ≡ new)

-- the number of slices of all formats together
abbrev pub counts : List Format → ℕ
counts [] = 0
counts (f ∷ fs) = f.count + counts fs

-- The formats `olds` are earlier forms of `news`, part by part.
abbrev pub AreEarlier : List Format → List Format → Type 0
AreEarlier olds news = (counts olds < counts news) ⊎ (olds ≡ news)

-- The error has a true cause at every empty column for these rows.
abbrev pub IsTrueOfNew : GrowError → Format → List Row → Type 0
IsTrueOfNew e f rs = (c : Content) → IsSound f c → f.rows c ≡ [] → IsTrueOf e f c rs

-- a column that was built from an earlier one: sound, with the same rows
pub record IsMadeOf (old new : Format) (c d : Content) : Type 0 where
  pub sound : IsSound new d
  pub rows : new.rows d ≡ old.rows c
