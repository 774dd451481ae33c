use Rattle.std.proofs.lemmas.Result.{on_ok_weaker}
use Rattle.columnar_sums.specs.RankColumns.{ranks_format}
use Rattle.columnar_sums.specs.Rooms.{held_top}
use Rattle.columnar_sums.specs.UnaryLaws.{unary_stayed}
use Rattle.columnar_sums.specs.UnaryColumns.{owned_unaries}
use Rattle.columnar_sums.specs.UnaryRoomLaws.{offsets_kept}
use Rattle.columnar_sums.proofs.unaries.grow.OwnedReserve.reserve_room.Goals as goal

pub returns-clause-room : goal.returns-clause-room
returns-clause-room c = on_ok_weaker c.reserve_room.result (λ f u. offsets_kept {c = owned_unaries (record { bits = c.reserve_room.new.self })} c.args.room (held_top c.reserve_room.new.self) (unary_stayed ranks_format c.requires c.reserve_room.ensures.stayed).sound (f u)) c.reserve_room.ensures.room
