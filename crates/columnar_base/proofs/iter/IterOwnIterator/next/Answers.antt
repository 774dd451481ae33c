use Rattle.columnar_base.specs.RowsLeftLaws.{drop_next}
use Rattle.columnar_base.proofs.iter.IterOwnIterator.next.Goals as goal

pub returns-clause-steps : goal.returns-clause-steps
returns-clause-steps g c = (
  drop_next (g.S.Column.format.rows (g.S.Column.content c.args.self.now.slice)) c.args.self.now.index (g.S.Ref.Item.meaning c.get-row.result) c.get-row.ensures.row,
  c.get-row.ensures.valid,
)
