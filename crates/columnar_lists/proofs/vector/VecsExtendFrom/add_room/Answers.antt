use Rattle.columnar_lists.specs.RoomLaws.{lists_add_room}
use Rattle.columnar_lists.proofs.vector.VecsExtendFrom.add_room.Goals as goal

pub returns : goal.returns
returns g c = lists_add_room g.W.Column.format g.V.Column.format (g.BC.Reserve.covers c.args.room.0) (g.BC.Reserve.covers c.add_room.result) (g.TC.Reserve.covers c.args.room.1) (g.TC.Reserve.covers c.add_room-2.result) (λ s os h. g.met.BC.ReserveOffsets.add c.args.room.0 c.add_room.result os (g.W.Column.format.rows (g.W.Column.content c.args.view.bounds)) (c.add_room.ensures.adds s) h) c.add_room-2.ensures
