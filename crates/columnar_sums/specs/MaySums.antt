-- Limits of columns of options, of results and of offsets in unary.
use Rattle.std.specs.Prelude.{true, ◌≡◌, ◌⊎◌, ◌&&◌, map}
use Rattle.columnar_core.specs.Row.{truth}
use Rattle.columnar_core.specs.Bounds.{numbers}
use Rattle.columnar_core.specs.May.{Limit, count_limit}
use Rattle.columnar_sums.specs.Options.{somes}
use Rattle.columnar_sums.specs.Results.{oks, errs}
use Rattle.columnar_sums.specs.Unary.{runs, falls, is_misplaced}

-- There are too many rows, or the column of values cannot hold the values.
abbrev pub options_limit : Limit → Limit
options_limit t e rs = count_limit e rs ⊎ t e (somes rs)

-- There are too many rows, or the columns cannot hold the values of the Ok rows or the errors of the Err rows.
abbrev pub results_limit : Limit → Limit → Limit
results_limit a b e rs = count_limit e rs ⊎ (a e (oks rs) ⊎ b e (errs rs))

-- There are too many bits: one for each offset, and one for each number below the last of them. Or an offset is below
-- the one before it.
abbrev pub unary_limit : Limit
unary_limit e rs = count_limit e (map truth (runs 0 (numbers rs))) ⊎ ((is_misplaced e && falls 0 (numbers rs)) ≡ true)
