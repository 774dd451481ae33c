use Rattle.columnar_base.specs.RoomLaws.{counted_more}
use Rattle.columnar_core.proofs.container.ExtendFrom.reserve_for.Goals as goal

pub loop-view-init : goal.loop-view-init
loop-view-init g c = λ p s. c.no_room-room.ensures p

pub loop-view-preserved : goal.loop-view-preserved
loop-view-preserved g c = λ p s. counted_more _ _ g.V.Column.format g.V.Column.content c.loop-view.yielded c.in-Some.view (c.loop-view.invariant p) c.add_room-room.ensures s
