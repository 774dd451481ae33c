use Rattle.std.proofs.Common.{arith}
use Rattle.columnar_base.specs.ChangeLaws.{passed_on}
use Rattle.columnar_base.specs.Format.{part, part_rows}
use Rattle.columnar_types.specs.OwnedLaws.{owned_more, owned_fit, list_why}
use Rattle.columnar_types.proofs.list.SmallVecFromRowSlice.from_row.Goals as goal

pub returns-in_err-value-clause-why : goal.returns-in_err-value-clause-why
returns-in_err-value-clause-why g c = rw (passed_on c.from_residual.result c.from_residual.ensures.1) (list_why g.T.Columnar.unfit c.in_err-value.field-0.0 (part_rows g.V.Column.format (part c.args.row.lower c.args.row.upper (g.V.Column.content c.args.row.slice))) c.loop-index.index (g.V.Ref.Item.meaning c.get.result) c.get.ensures.row c.in_err-value.ensures.why)

pub loop-index-preserved : goal.loop-index-preserved
loop-index-preserved g c = rw c.in-Ok.ensures.ok (owned_more (part_rows g.V.Column.format (part c.args.row.lower c.args.row.upper (g.V.Column.content c.args.row.slice))) c.loop-index.index c.in_ok-value.value (g.V.Ref.Item.meaning c.get.result) c.loop-index.invariant c.get.ensures.row c.in_ok-value.ensures.value c.in_ok-value.ensures.valid c.in_ok-value.ensures.fit)

pub returns-clause-fit : goal.returns-clause-fit
returns-clause-fit g c = owned_fit (part_rows g.V.Column.format (part c.args.row.lower c.args.row.upper (g.V.Column.content c.args.row.slice))) c.loop-index.index (let e = c.len-index-end.ensures in omega (arith, e)) c.loop-index.invariant
