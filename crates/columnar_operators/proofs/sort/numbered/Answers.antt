use Rattle.columnar_operators.specs.SortLaws.{pairs_more}
use Rattle.columnar_operators.proofs.sort.numbered.Goals as goal

pub loop-i-preserved : goal.loop-i-preserved
loop-i-preserved g c =
    let rows = g.S.Column.format.rows (g.S.Column.content c.args.column.now) in
    let more = pairs_more g.S.Ref.Item.meaning rows _ _ c.loop-i.i c.get.result c.in_ok-push.ensures.items c.get.ensures.row c.loop-i.invariant.numbers c.loop-i.invariant.named in
    record { numbers = more.0; named = more.1 }
