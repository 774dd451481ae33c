use Rattle.std.proofs.Common.{arith}
use Rattle.columnar_base.specs.Elements.{elements_format}
use Rattle.columnar_base.specs.RoomLaws.{counts_add}
use Rattle.columnar_core.proofs.vector.VecExtendFromView.add_room.Goals as goal

pub returns : goal.returns
returns g c = counts_add (elements_format g.T.Element.size g.T.Element.align g.T.Element.row_of) _ c.args.room c.len.result c.saturating_add.result (λ s. omega (arith, c.len.ensures)) c.saturating_add.ensures
