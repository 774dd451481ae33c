use Rattle.std.proofs.Common.{take}
use Rattle.columnar_base.specs.Format.{part, part_rows}
use Rattle.columnar_types.specs.Owned.{AreOwned}
use Rattle.columnar_types.proofs.list.VecFromRowSlice.from_row.Given as goal

abbrev pub invariant-loop-index : goal.invariant-loop-index
invariant-loop-index g l = AreOwned g.T.Item.meaning g.T.Item.valid g.T.Columnar.unfit l.values.items (take l.index (part_rows g.V.Column.format (part l.row.lower l.row.upper (g.V.Column.content l.row.slice))))
