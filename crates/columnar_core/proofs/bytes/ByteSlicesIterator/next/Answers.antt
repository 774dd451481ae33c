use Rattle.columnar_base.specs.Format.{slices_of}
use Rattle.columnar_core.specs.Slices.{bytes_in}
use Rattle.columnar_base.specs.RowsLeftLaws.{drop_next}
use Rattle.columnar_core.proofs.bytes.ByteSlicesIterator.next.Goals as goal

pub returns-clause-steps : goal.returns-clause-steps
returns-clause-steps g c = (
  drop_next (slices_of (g.V.Column.content c.args.self.now.column.now)) c.args.self.now.index (bytes_in c.get_byte_slice-slice.result.1) c.get_byte_slice-slice.ensures.slice,
  c.get_byte_slice-slice.ensures.align,
  drop_next g.V.Column.format.aligns c.args.self.now.index c.get_byte_slice-slice.result.0 c.get_byte_slice-slice.ensures.aligned,
)
