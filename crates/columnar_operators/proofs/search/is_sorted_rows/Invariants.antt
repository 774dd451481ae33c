use Rattle.std.proofs.Common.{◌≤◌}
use Rattle.std.specs.List.Sorted.{IsSortedWithin}
use Rattle.std.specs.Ordering.{is_lt}
use Rattle.columnar_rows.specs.RowOrder.{row_cmp}
use Rattle.columnar_operators.proofs.search.is_sorted_rows.Given as goal

abbrev pub invariant-loop-i : goal.invariant-loop-i
invariant-loop-i g l = record {
  first : 1 ≤ l.i;
  sorted : IsSortedWithin (λ r s. is_lt (row_cmp r s)) (g.S.Column.format.rows (g.S.Column.content l.column)) 0 l.i;
}
