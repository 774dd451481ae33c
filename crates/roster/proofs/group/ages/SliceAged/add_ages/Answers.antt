use Rattle.std.proofs.Common.{arith}
use Rattle.columnar.specs.Format.{part, part_rows}
use Rattle.roster.proofs.Lines.{items_again, wraps_more, wraps_all}
use Rattle.roster.proofs.group.ages.SliceAged.add_ages.Goals as goal

pub loop-index-preserved : goal.loop-index-preserved
loop-index-preserved g c =
    let team = c.args.self.now in
    let rows = part_rows g.W.Column.format (part team.lower team.upper (g.W.Column.content team.slice)) in
    let row = g.W.Ref.Item.meaning c.get.result in
    wraps_more g.W.Ref.Aged.ages rows c.loop-index.index row c.args.before c.loop-index.sum c.add_ages-sum.result c.get.ensures.row c.add_ages-sum.ensures c.loop-index.invariant

pub returns : goal.returns
returns g c =
    let team = c.args.self.now in
    let rows = part_rows g.W.Column.format (part team.lower team.upper (g.W.Column.content team.slice)) in
    wraps_all g.W.Ref.Aged.ages rows _ _ c.args.before c.loop-index.sum (omega (arith, c.len-index-end.ensures)) (items_again rows) c.loop-index.invariant
