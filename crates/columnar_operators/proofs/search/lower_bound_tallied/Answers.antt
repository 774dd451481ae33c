use Rattle.std.proofs.Common.{rules, ◌≡◌}
use Rattle.std.specs.Ordering.{is_lt}
use Rattle.std.proofs.lemmas.Fn.{always_returns_same}
use Rattle.columnar_rows.specs.RowOrder.{row_cmp}
use Rattle.columnar_operators.specs.SearchLaws.{below_first}
use Rattle.columnar_operators.proofs.search.lower_bound_tallied.Goals as goal

pub returns-clause-found : goal.returns-clause-found
returns-clause-found g c =
    let rows = g.S.Column.format.rows (g.S.Column.content c.args.column.now) in
    let key = g.S.Ref.Item.meaning c.args.key.now in
    λ up. c.partition_point_tallied.ensures.partitioned (λ r. is_lt (row_cmp r key)) (always_returns_same _ (λ a r. r ≡ is_lt (row_cmp (g.S.Ref.Item.meaning a.0) key)) _ (λ a r f' k. search rules)) (below_first rows key up)
