-- Columns of variants without rows, and numbers of rows of a variant.
use Rattle.std.proofs.Common.{◌≡◌, ℕ, ◌<◌, length}
use Rattle.columnar_core.specs.Format.{Content}
use Rattle.columnar_variants.specs.Variants.{Bank}

-- no column has a row
abbrev pub IsBare : Bank → Content → Type 0
IsBare b x = (v : ℕ) → v < b.size → length (b.table x v) ≡ 0
