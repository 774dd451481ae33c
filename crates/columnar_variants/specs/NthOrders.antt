-- The writes that feed rows of variants to a hasher.
use Rattle.std.specs.Prelude.{ℕ, zero, suc, pos, List, [], ◌++◌}
use Rattle.std.specs.Hash as fed
use Rattle.columnar_core.specs.Row.{Row, tuple, number, second_of}
use Rattle.columnar_variants.specs.Variants.{case}

-- the row of the one variant feeds its value
abbrev pub last_input : (Row → List (List ℕ)) → Row → List (List ℕ)
last_input feed r = feed (second_of r)

-- a row of the first variant feeds 0 and its value; another one feeds 1, and then what it feeds as one of the others
abbrev pub nth_input : (Row → List (List ℕ)) → (Row → List (List ℕ)) → Row → List (List ℕ)
nth_input feed others (tuple (number zero) r) = fed.isize (pos 0) ++ feed r
nth_input feed others (tuple (number (suc v)) r) = fed.isize (pos 1) ++ others (case v r)
nth_input feed others _ = []
