use Rattle.std.proofs.Common.{◌-◌, arith}
use Rattle.columnar_base.specs.TwoPartsLaws.{representable_left, representable_right, flat_right, align_right}
use Rattle.columnar_base.specs.Format.{slices_of}
use Rattle.columnar_core.specs.Slices.{bytes_in, alignment}
use Rattle.columnar_variants.specs.BankByteLaws.{beside_parts_two}
use Rattle.columnar_variants.proofs.bank.bytes.Tuple2BytesBank.column_slice.Goals as goal

pub slice_count-count-requires : goal.slice_count-count-requires
slice_count-count-requires g c = representable_left (beside_parts_two g.A.Column.format g.B.ColumnBank.bank.sides) c.requires.representable

pub byte_slice-requires-clause-representable : goal.byte_slice-requires-clause-representable
byte_slice-requires-clause-representable g c = representable_left (beside_parts_two g.A.Column.format g.B.ColumnBank.bank.sides) c.requires.representable

pub column_slice-requires-clause-representable : goal.column_slice-requires-clause-representable
column_slice-requires-clause-representable g c = representable_right (beside_parts_two g.A.Column.format g.B.ColumnBank.bank.sides) c.requires.representable

pub returns-else-index-count-clause-slice : goal.returns-else-index-count-clause-slice
returns-else-index-count-clause-slice g c = flat_right (slices_of (g.A.Column.content c.args.self.now.0)) (slices_of (g.B.ColumnBank.contents c.args.self.now.1)) c.args.index (c.args.index - c.slice_count-count.result) (bytes_in c.column_slice.result) (omega (arith, g.met.A.Stored.counted c.args.self.now.0, c.slice_count-count.ensures, c.if-index-count.false)) c.column_slice.ensures.slice

pub returns-else-index-count-clause-aligned : goal.returns-else-index-count-clause-aligned
returns-else-index-count-clause-aligned g c = align_right g.A.Column.format.aligns g.B.ColumnBank.bank.sides.aligns c.args.index (c.args.index - c.slice_count-count.result) (alignment c.column_slice.result) (omega (arith, g.met.A.Stored.storable.aligned, c.slice_count-count.ensures, c.if-index-count.false)) c.column_slice.ensures.aligned
