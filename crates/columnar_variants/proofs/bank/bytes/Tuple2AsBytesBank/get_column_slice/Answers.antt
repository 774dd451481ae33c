use Rattle.std.proofs.Common.{◌-◌, refl, arith}
use Rattle.columnar_base.specs.TwoPartsLaws.{representable_left, representable_right, flat_left, flat_right, align_left, align_right}
use Rattle.columnar_base.specs.Format.{slices_of}
use Rattle.columnar_core.specs.Slices.{bytes_in}
use Rattle.columnar_variants.specs.BankByteLaws.{beside_parts_two}
use Rattle.columnar_variants.proofs.bank.bytes.Tuple2AsBytesBank.get_column_slice.Goals as goal

pub slice_count-count-requires : goal.slice_count-count-requires
slice_count-count-requires g c = representable_left (beside_parts_two g.A.Column.format g.B.ColumnBank.bank.sides) c.requires.representable

pub get_byte_slice-requires : goal.get_byte_slice-requires
get_byte_slice-requires g c = let l = c.if-index-count.true in let p = c.slice_count-count.ensures in λ k. ((refl, tt), (representable_left (beside_parts_two g.A.Column.format g.B.ColumnBank.bank.sides) c.requires.representable, omega (arith, l, p)))

pub get_column_slice-requires : goal.get_column_slice-requires
get_column_slice-requires g c = let l = c.if-index-count.false in let p = c.slice_count-count.ensures in let r = c.requires.in_range in λ k. ((refl, tt), (representable_right (beside_parts_two g.A.Column.format g.B.ColumnBank.bank.sides) c.requires.representable, omega (arith, l, p, r)))

pub returns-then-index-count-clause-slice : goal.returns-then-index-count-clause-slice
returns-then-index-count-clause-slice g c = flat_left (slices_of (g.A.Column.content c.args.self.now.0)) (slices_of (g.B.ColumnBank.contents c.args.self.now.1)) c.args.index (bytes_in c.get_byte_slice.result.1) c.get_byte_slice.ensures.slice

pub returns-then-index-count-clause-aligned : goal.returns-then-index-count-clause-aligned
returns-then-index-count-clause-aligned g c = align_left g.A.Column.format.aligns g.B.ColumnBank.bank.sides.aligns c.args.index c.get_byte_slice.result.0 c.get_byte_slice.ensures.aligned

pub returns-else-index-count-clause-slice : goal.returns-else-index-count-clause-slice
returns-else-index-count-clause-slice g c = flat_right (slices_of (g.A.Column.content c.args.self.now.0)) (slices_of (g.B.ColumnBank.contents c.args.self.now.1)) c.args.index (c.args.index - c.slice_count-count.result) (bytes_in c.get_column_slice.result.1) (omega (arith, g.met.A.Stored.counted c.args.self.now.0, c.slice_count-count.ensures, c.if-index-count.false)) c.get_column_slice.ensures.slice

pub returns-else-index-count-clause-aligned : goal.returns-else-index-count-clause-aligned
returns-else-index-count-clause-aligned g c = align_right g.A.Column.format.aligns g.B.ColumnBank.bank.sides.aligns c.args.index (c.args.index - c.slice_count-count.result) c.get_column_slice.result.0 (omega (arith, g.met.A.Stored.storable.aligned, c.slice_count-count.ensures, c.if-index-count.false)) c.get_column_slice.ensures.aligned
