use Rattle.columnar_core.specs.WordViews.{le_bytes}
use Rattle.columnar_sums.specs.UnaryChangeLaws.{unaries_cut, cut_within}
use Rattle.columnar_sums.specs.Rooms.{held_top}
use Rattle.columnar_sums.specs.UnaryColumns.{owned_unaries}
use Rattle.columnar_sums.specs.UnaryRoomLaws.{offsets_freed}
use Rattle.columnar_sums.proofs.unaries.grow.OwnedTruncate.truncate.Goals as goal

pub truncate-requires-clause-in_range : goal.truncate-requires-clause-in_range
truncate-requires-clause-in_range c = rw c.cut_end-end.ensures (cut_within (le_bytes c.args.self.now.bits.counts.items) (le_bytes c.args.self.now.bits.values.values.items) (le_bytes c.args.self.now.bits.values.tail) c.args.n)

pub returns-clause-cut : goal.returns-clause-cut
returns-clause-cut c = unaries_cut {c = le_bytes c.args.self.now.bits.counts.items} {a = le_bytes c.args.self.now.bits.values.values.items} {b = le_bytes c.args.self.now.bits.values.tail} c.args.n c.cut_end-end.result c.requires.sound c.requires.in_range c.cut_end-end.ensures c.truncate.ensures.cut

pub returns-clause-freed : goal.returns-clause-freed
returns-clause-freed c = offsets_freed (owned_unaries c.args.self.now) (owned_unaries (record { bits = c.truncate.new.self })) c.args.n c.cut_end-end.result (held_top c.args.self.now.bits) (held_top c.truncate.new.self) (returns-clause-cut c).rows c.truncate.ensures.cut.rows c.truncate.ensures.freed
