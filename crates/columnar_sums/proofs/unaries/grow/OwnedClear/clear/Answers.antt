use Rattle.columnar_sums.specs.Rooms.{held_top}
use Rattle.columnar_sums.specs.UnaryColumns.{owned_unaries}
use Rattle.columnar_sums.specs.UnaryRoomLaws.{none_left, offsets_freed}
use Rattle.columnar_sums.proofs.unaries.grow.OwnedClear.clear.Goals as goal

pub returns-clause-freed : goal.returns-clause-freed
returns-clause-freed c = offsets_freed (owned_unaries c.args.self.now) (owned_unaries (record { bits = c.clear.new.self })) 0 0 (held_top c.args.self.now.bits) (held_top c.clear.new.self) (none_left (owned_unaries (record { bits = c.clear.new.self })) c.clear.ensures.rows) c.clear.ensures.rows c.clear.ensures.freed
