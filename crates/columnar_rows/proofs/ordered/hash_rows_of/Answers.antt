use Rattle.std.proofs.Common.{refl, rules}
use Rattle.columnar_rows.specs.RowHashLaws.{feed_more, feed_end}
use Rattle.columnar_rows.proofs.ordered.hash_rows_of.Goals as goal

pub loop-i-init : goal.loop-i-init
loop-i-init g c = refl

pub loop-i-preserved : goal.loop-i-preserved
loop-i-preserved g c = feed_more g.H.Hasher.write g.S.Ref.OrderedRow.row_input (g.S.Column.format.rows (g.S.Column.content c.args.column.now)) c.write_usize.new.self c.loop-i.i c.loop-i.state c.hash_row.new.state (g.S.Ref.Item.meaning c.get.result) c.get.ensures.row c.hash_row.ensures c.loop-i.invariant

pub returns : goal.returns
returns g c = feed_end g.H.Hasher.write g.S.Ref.OrderedRow.row_input (g.S.Column.format.rows (g.S.Column.content c.args.column.now)) c.args.state.now c.write_usize.new.self c.loop-i.i c.len-count.result c.loop-i.state c.len-count.ensures (search rules) c.write_usize.ensures c.loop-i.invariant
