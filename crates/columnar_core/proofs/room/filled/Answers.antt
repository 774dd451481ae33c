use Rattle.columnar_core.specs.RoomViews.{one_view}
use Rattle.columnar_core.proofs.room.filled.Goals as goal

pub push_rows-pushed-requires-clause-room : goal.push_rows-pushed-requires-clause-room
push_rows-pushed-requires-clause-room g c = one_view g.V.Column.format g.V.Column.content (g.C.Column.room c.in_ok-column.column) g.C.Reserve.reserves c.once.result c.args.view c.once.ensures.item c.requires.reserves c.requires.view_sound c.in_ok-column.ensures.room
