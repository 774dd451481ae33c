-- Columns that store a run of rows once: an option for each row, with a value at the start of a run, and none for each
-- repeat.
use Rattle.std.specs.Prelude.{ℕ, Bool, true, false, List, [], ◌∷◌, Vec, length, take, drop, ◌-◌}
use Rattle.std.specs.Global.{Global}
use Rattle.columnar_base.specs.Row.{Row, none, some}
use Rattle.columnar_base.specs.Format.{Format, Content, both}
use Rattle.columnar_sums.specs.Options.{value_of, somes, options_format}
use Rattle.columnar_base.specs.WordViews.{view_bytes}
use Rattle.columnar_base.specs.declared.view.View.{View}
use Rattle.columnar_sums.specs.RankColumns.{owned_ranks, ranks_content}
use Rattle.columnar_sums.specs.declared.option.Options.{Options}
use Rattle.columnar_lookback.specs.Recall.{Code, recalled}

-- a row is stored as a value, or as none
abbrev pub repeats_code : Code
repeats_code = record { value = value_of; back = λ u. 0; forms = λ r. some r ∷ none ∷ [] }

abbrev pub repeats_format : Format → Format
repeats_format t = recalled repeats_code t.kin (options_format t)

-- the content of a column that owns its parts
abbrev pub owned_repeats : {T : Type 0} → (T → Content) → Options T (Vec ℕ Global) (Vec ℕ Global) (List ℕ) → Content
owned_repeats of_somes o = both (owned_ranks o.indexes) (of_somes o.somes)

-- the content of a view
abbrev pub viewed_repeats : {T : Type 0} → (T → Content) → Options T (View ℕ) (View ℕ) (View ℕ) → Content
viewed_repeats of_somes o = both (ranks_content view_bytes view_bytes view_bytes o.indexes) (of_somes o.somes)

-- the first bit, if any, is set
abbrev pub starts_set : List Bool → Bool
starts_set [] = true
starts_set (x ∷ b) = x

-- the last of the rows is kin to r
abbrev pub last_is : (Row → Row → Bool) → List Row → Row → Bool
last_is same [] r = false
last_is same (x ∷ []) r = same x r
last_is same (x ∷ y ∷ xs) r = last_is same (y ∷ xs) r

-- the number of values in the options of a range
abbrev pub values_between : List Row → ℕ → ℕ → ℕ
values_between us start end = length (somes (take (end - start) (drop start us)))
