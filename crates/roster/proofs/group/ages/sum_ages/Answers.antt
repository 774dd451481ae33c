use Rattle.roster.proofs.Lines.{wraps_more}
use Rattle.roster.proofs.group.ages.sum_ages.Goals as goal

pub loop-index-preserved : goal.loop-index-preserved
loop-index-preserved g c =
    let rows = g.V.Column.format.rows (g.V.Column.content c.args.rows.now) in
    let row = g.V.Ref.Item.meaning c.get.result in
    wraps_more g.V.Ref.Aged.ages rows c.loop-index.index row 0 c.loop-index.sum c.add_ages-sum.result c.get.ensures.row c.add_ages-sum.ensures c.loop-index.invariant
