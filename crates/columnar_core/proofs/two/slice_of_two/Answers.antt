use Rattle.std.proofs.Common.{◌-◌, arith}
use Rattle.columnar_base.specs.TwoPartsLaws.{flat_right, align_right}
use Rattle.columnar_base.specs.Format.{slices_of}
use Rattle.columnar_core.specs.Slices.{bytes_in}
use Rattle.columnar_core.proofs.two.slice_of_two.Goals as goal

pub returns-else-index-count-clause-slice : goal.returns-else-index-count-clause-slice
returns-else-index-count-clause-slice g c = flat_right (slices_of (g.A.Column.content c.args.left.now)) (slices_of (g.B.Column.content c.args.right.now)) c.args.index (c.args.index - c.slice_count-count.result) (bytes_in c.get_byte_slice-else-index-count.result.1) (omega (arith, g.met.A.Stored.counted c.args.left.now, c.slice_count-count.ensures, c.if-index-count.false)) c.get_byte_slice-else-index-count.ensures.slice

pub returns-else-index-count-clause-aligned : goal.returns-else-index-count-clause-aligned
returns-else-index-count-clause-aligned g c = align_right g.A.Column.format.aligns g.B.Column.format.aligns c.args.index (c.args.index - c.slice_count-count.result) c.get_byte_slice-else-index-count.result.0 (omega (arith, g.met.A.Stored.storable.aligned, c.slice_count-count.ensures, c.if-index-count.false)) c.get_byte_slice-else-index-count.ensures.aligned
