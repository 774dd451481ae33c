-- Columns whose rows refer to one of the last values: a result for each row, Ok with a value, or Err with the distance
-- back to the value it reads as.
use Rattle.std.specs.Prelude.{ℕ, zero, suc, Bool, List, [], ◌∷◌, ◌≡◌, length, map, Option, Some, None, Vec, cond, option_map}
use Rattle.columnar_base.specs.Row.{Row, number, number_of, none, some, ok, err}
use Rattle.columnar_base.specs.Format.{Format, Content, both, IsExact, Excess}
use Rattle.std.specs.Global.{Global}
use Rattle.std.specs.Int.{to_le_bytes, w8}
use Rattle.columnar_base.specs.Elements.{elements, bytes_format}
use Rattle.columnar_sums.specs.Options.{value_of, inner_of}
use Rattle.columnar_base.specs.WordViews.{view_bytes}
use Rattle.columnar_base.specs.declared.view.View.{View}
use Rattle.columnar_sums.specs.RankColumns.{owned_ranks, ranks_content}
use Rattle.columnar_sums.specs.declared.rank_select.RankSelect.{RankSelect}
use Rattle.columnar_sums.specs.declared.result.Results.{Results}
use Rattle.columnar_sums.specs.Results.{ok_part, err_part, results_format}
use Rattle.columnar_lookback.specs.Recall.{Code, latest, recalled}

-- the distance of an error
abbrev pub distance : Row → ℕ
distance u = number_of (inner_of (err_part u))

-- A row is stored as a value or as a distance; limits do not depend on the distance.
abbrev pub lookbacks_code : Code
lookbacks_code = record { value = λ u. value_of (ok_part u); back = distance; forms = λ r. ok r ∷ err (number 0) ∷ [] }

-- values of the format t, and distances of the format d
abbrev pub lookbacks_format : Format → Format → Format
lookbacks_format t d = recalled lookbacks_code t.kin (results_format t d)

-- the least distance below n at which one of the values, the last one first, is kin to r
abbrev pub nearest : (Row → Row → Bool) → ℕ → List Row → Row → Option ℕ
nearest same zero vs r = None
nearest same (suc n) [] r = None
nearest same (suc n) (v ∷ vs) r = cond (same v r) (Some 0) (option_map suc (nearest same n vs r))

-- Requirements of a column of distances: its stored rows equal the pushed ones, its limits depend only on their number,
-- and its test takes no step.
pub record IsPlain (d : Format) : Type 0 where
  pub exact : IsExact d.alike
  pub counts : (e : Excess) (c : Content) (n : ℕ) (rs ss : List Row) → length rs ≡ length ss → d.refuses e c n rs ≡ d.refuses e c n ss
  pub still : d.turns ≡ 0

-- the content of a column that owns its parts
abbrev pub owned_lookbacks : {S : Type 0} → (S → Content) → Results S (Vec ℕ Global) (Vec ℕ Global) (Vec ℕ Global) (List ℕ) → Content
owned_lookbacks of_oks r = both (owned_ranks r.indexes) (both (of_oks r.oks) (elements (to_le_bytes w8) r.errs.items))

-- the content of a view
abbrev pub viewed_lookbacks : {S : Type 0} → (S → Content) → RankSelect (View ℕ) (View ℕ) (View ℕ) → S → List ℕ → Content
viewed_lookbacks of_oks ranks values distances = both (ranks_content view_bytes view_bytes view_bytes ranks) (both (of_oks values) (elements (to_le_bytes w8) distances))

-- the values that it has, the last one first
abbrev pub values_back : Format → Content → List Row
values_back t c = latest lookbacks_code [] ((results_format t bytes_format).rows c)

-- the distance of an error; None for a value
abbrev pub back_of : Row → Option ℕ
back_of (some w) = Some (number_of w)
back_of _ = None

-- the distance at which an inner row is stored; None if it is stored as a value
abbrev pub kept_back : Row → Option ℕ
kept_back u = back_of (err_part u)

-- the same for each row of a column
abbrev pub kept_rows : Format → Content → List (Option ℕ)
kept_rows t c = map kept_back ((results_format t bytes_format).rows c)

-- the values up to a row, the last one first; the row is one of them if it is stored without a distance
abbrev pub with_value : Option ℕ → Row → List Row → List Row
with_value None r vs = r ∷ vs
with_value (Some m) r vs = vs

-- For each row, in order, the least distance below n at which one of the values is kin to it. If there is none, the row
-- becomes a new value; the list of values has the last one first.
abbrev pub nearest_each : (Row → Row → Bool) → ℕ → List Row → List Row → List (Option ℕ)
nearest_each same n vs [] = []
nearest_each same n vs (r ∷ rs) = nearest same n vs r ∷ nearest_each same n (with_value (nearest same n vs r) r vs) rs
