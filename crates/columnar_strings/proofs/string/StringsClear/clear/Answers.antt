use Rattle.std.proofs.Common.{length, refl, ap}
use Rattle.columnar_lists.specs.RoomLaws.{lists_free}
use Rattle.columnar_strings.proofs.string.StringsClear.clear.Goals as goal

pub returns-clause-freed : goal.returns-clause-freed
returns-clause-freed g c = lists_free g.BC.Column.format g.VC.Column.format 0 0 _ g.met.BC.Offsets.bounds.are_numbers refl (ap length c.clear-2.ensures.rows) c.clear.ensures.freed c.clear-2.ensures.freed
