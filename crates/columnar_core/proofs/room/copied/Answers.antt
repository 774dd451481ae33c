use Rattle.columnar_core.specs.RoomViews.{one_view, if_never_wanted}
use Rattle.columnar_core.proofs.room.copied.Goals as goal

pub returns-clause-no_memory : goal.returns-clause-no_memory
returns-clause-no_memory g c =
    let r = one_view g.V.Column.format g.V.Column.content (g.C.Column.room c.in_ok-column.column) g.C.Reserve.reserves c.once.result c.args.view c.once.ensures.item c.requires.reserves c.requires.view_sound c.in_ok-column.ensures.room in
    if_never_wanted (g.C.Column.room c.in_ok-column.column) c.extend_from_self-pushed.result (g.V.Column.format.rows (g.V.Column.content c.args.view)) c.len.result c.len.ensures c.extend_from_self-pushed.ensures.wanted r
