-- Columns whose rows have one of two variants.
use Rattle.std.specs.Prelude.{ℕ, List}
use Rattle.std.specs.Borrow.{Bor}
use Rattle.columnar_core.specs.Format.{Format, Content, both}
use Rattle.columnar_variants.specs.Variants.{Bank, join, leaf, variants_format}

abbrev pub dual_bank : Format → Format → Bank
dual_bank a b = join a (leaf b)

-- a column for each variant, and the variants
abbrev pub dual_format : Format → Format → Format
dual_format a b = variants_format (dual_bank a b)

abbrev pub dual_content : Content → Content → Content → Content
dual_content x y z = both (both x y) z

-- the bytes of a borrowed slice
abbrev pub slice_bytes : Bor (List ℕ) → List ℕ
slice_bytes s = s.now
