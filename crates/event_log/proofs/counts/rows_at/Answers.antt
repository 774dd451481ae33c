use Rattle.event_log.specs.Counting.{at_level}
use Rattle.event_log.specs.Levels.{level_number}
use Rattle.event_log.proofs.Counting.{wraps_more}
use Rattle.event_log.proofs.counts.rows_at.Goals as goal

pub loop-index-preserved : goal.loop-index-preserved
loop-index-preserved g c =
    let rows = g.V.Column.format.rows (g.V.Column.content c.args.rows.now) in
    let row = g.V.Ref.Item.meaning c.get.result in
    wraps_more (at_level (level_number c.args.level)) rows c.loop-index.index row c.loop-index.count c.count_at-count.result c.get.ensures.row c.count_at-count.ensures c.loop-index.invariant
