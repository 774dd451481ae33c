-- The invariant of the loop that pushes a tree level by level.
use Rattle.std.specs.Prelude.{ℕ, List, [], ◌∷◌, ◌++◌, All, length, take, ◌≡◌, ◌≤◌}
use Rattle.columnar_base.specs.Row.{Row}
use Rattle.columnar_base.specs.Format.{Format, Content}
use Rattle.columnar_base.specs.Change.{Took}
use Rattle.columnar_base.specs.WordViews.{words_in, le_bytes}
use Rattle.columnar_nested.specs.TreeValues.{added_values, added_bounds}
use Rattle.columnar_nested.specs.declared.tree.Tree.{Tree}

-- Some values were taken, and the pending trees would add the others; the same holds for the bounds.
pub record Laid {T : Type 0} (m : T → Row) (valid : T → Type 0) (v : Format) (old now : Content) (before bounds : List ℕ) (root : Tree T) (waiting : List (Tree T)) : Type 0 where
  pub taken : List Row
  pub took : Took v old now taken
  pub values : taken ++ added_values m waiting ≡ added_values m (root ∷ [])
  pub ends : words_in (le_bytes bounds) ++ added_bounds m (length (v.rows now)) waiting ≡ words_in (le_bytes before) ++ added_bounds m (length (v.rows old)) (root ∷ [])
  pub kept : take (length before) bounds ≡ before
  pub longer : length before ≤ length bounds
  pub valid_left : All valid (added_values (λ x. x) waiting)
