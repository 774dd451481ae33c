use Rattle.std.proofs.Common.{map, rules}
use Rattle.columnar_rows.specs.ItemLaws.{item_row}
use Rattle.columnar_rows.specs.RowHashLaws.{feed_more}
use Rattle.columnar_rows.proofs.ordered.slices.hash_items.Goals as goal

pub loop-i-preserved : goal.loop-i-preserved
loop-i-preserved g c =
    feed_more g.H.Hasher.write g.T.OrderedRow.row_input (map g.T.Item.meaning c.args.items.now) c.write_usize.new.self c.loop-i.i c.loop-i.state c.hash_row.new.state (g.T.Item.meaning c.index-items-i.result)
    (item_row g.T.Item.meaning c.args.items.now c.loop-i.i c.index-items-i.result (search rules) c.index-items-i.is) c.hash_row.ensures c.loop-i.invariant
