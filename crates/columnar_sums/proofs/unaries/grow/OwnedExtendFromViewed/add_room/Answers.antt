use Rattle.columnar_core.specs.WordViews.{view_bytes}
use Rattle.columnar_sums.specs.UnaryColumns.{unaries_content}
use Rattle.columnar_sums.specs.UnaryRoomLaws.{offsets_added}
use Rattle.columnar_sums.proofs.unaries.grow.OwnedExtendFromViewed.add_room.Goals as goal

pub returns : goal.returns
returns c = offsets_added {c = unaries_content view_bytes view_bytes view_bytes c.args.view} c.args.room c.add_room.result c.add_room.ensures
