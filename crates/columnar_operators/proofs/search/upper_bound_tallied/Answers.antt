use Rattle.std.proofs.Common.{rules, ◌≡◌}
use Rattle.std.specs.Prelude.{not}
use Rattle.std.specs.Ordering.{is_gt}
use Rattle.std.proofs.lemmas.Fn.{always_returns_same}
use Rattle.columnar_rows.specs.RowOrder.{row_cmp}
use Rattle.columnar_operators.specs.SearchLaws.{upto_first, partition_point_not}
use Rattle.columnar_operators.proofs.search.upper_bound_tallied.Goals as goal

pub returns-clause-found : goal.returns-clause-found
returns-clause-found g c =
    let rows = g.S.Column.format.rows (g.S.Column.content c.args.column.now) in
    let key = g.S.Ref.Item.meaning c.args.key.now in
    λ up. partition_point_not (λ r. is_gt (row_cmp r key)) rows _ (c.partition_point_tallied.ensures.partitioned (λ r. not (is_gt (row_cmp r key))) (always_returns_same _ (λ a r. r ≡ not (is_gt (row_cmp (g.S.Ref.Item.meaning a.0) key))) _ (λ a r f' k. search rules)) (upto_first rows key up))
