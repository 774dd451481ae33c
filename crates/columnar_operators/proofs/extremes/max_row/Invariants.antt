use Rattle.std.proofs.Common.{◌≡◌, ◌≤◌, false}
use Rattle.std.specs.List.{AllWithin, Contains}
use Rattle.std.specs.Ordering.{is_gt}
use Rattle.columnar_rows.specs.RowOrder.{row_cmp}
use Rattle.columnar_operators.proofs.extremes.max_row.Given as goal

abbrev pub invariant-loop-i : goal.invariant-loop-i
invariant-loop-i g l =
    let rows = g.S.Column.format.rows (g.S.Column.content l.column) in
    record {
      among : Contains rows (g.S.Ref.Item.meaning l.greatest);
      greatest : AllWithin (λ row. is_gt (row_cmp row (g.S.Ref.Item.meaning l.greatest)) ≡ false) rows 0 l.i;
      valid : g.S.Ref.Item.valid l.greatest;
    }
