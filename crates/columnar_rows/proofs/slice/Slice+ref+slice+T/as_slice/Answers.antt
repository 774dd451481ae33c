use Rattle.columnar_base.specs.PartLaws.{piece_typed}
use Rattle.columnar_rows.proofs.slice.Slice+ref+slice+T.as_slice.Goals as goal

pub offset_bounds-self-self : goal.offset_bounds-self-self
offset_bounds-self-self g c = (piece_typed g.T.Element.align g.met.T.Element.element c.args.self.now.slice.now c.args.self.now.sound).1

pub slice_bounds-result-end : goal.slice_bounds-result-end
slice_bounds-result-end g c = (piece_typed g.T.Element.align g.met.T.Element.element c.args.self.now.slice.now c.args.self.now.sound).2
