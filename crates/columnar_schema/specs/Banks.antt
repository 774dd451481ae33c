-- The columns of the values of an enum.
use Rattle.std.specs.Prelude.{List, [], ◌∷◌}
use Rattle.columnar_base.specs.Format.{Format}
use Rattle.columnar_variants.specs.Variants.{Bank, leaf, join}

-- one column for each variant: the first, and those of the later variants
abbrev pub bank : Format → List Format → Bank
bank a [] = leaf a
bank a (b ∷ fs) = join a (bank b fs)
