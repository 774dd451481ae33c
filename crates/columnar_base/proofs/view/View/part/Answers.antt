use Rattle.std.proofs.Common.{◌-◌}
use Rattle.columnar_base.specs.ElementLaws.{length-typed, elements_sound}
use Rattle.columnar_base.specs.ViewLaws.{part_within, view_part_rows, part_sound, part_typed}
use Rattle.columnar_base.proofs.view.View.part.Goals as goal

pub between-requires-clause-in_range : goal.between-requires-clause-in_range
between-requires-clause-in_range g c = rw (length-typed g.met.T.Element.element c.in-Typed.items.now) at (rw c.in-Typed.is at c.requires.in_range)

pub bytes_between-requires-clause-in_range : goal.bytes_between-requires-clause-in_range
bytes_between-requires-clause-in_range g c = part_within g.T.Element.size g.T.Element.row_of c.in-Bytes.bytes.now c.args.upper (rw c.in-Bytes.is at c.requires.in_range)

pub returns-in-Typed-clause-sound : goal.returns-in-Typed-clause-sound
returns-in-Typed-clause-sound g c = rw c.from_slice.ensures.content (elements_sound g.T.Element.row_of g.met.T.Element.element c.between.result.now)

pub returns-in-Typed-clause-rows : goal.returns-in-Typed-clause-rows
returns-in-Typed-clause-rows g c = rw (c.from_slice.ensures.content, c.in-Typed.is) (part_typed g.met.T.Element.element c.in-Typed.items.now c.between.result.now (c.args.upper - c.args.lower) c.args.lower c.between.ensures)

pub returns-in-Bytes-clause-sound : goal.returns-in-Bytes-clause-sound
returns-in-Bytes-clause-sound g c = rw (c.from_le_bytes.ensures, c.bytes_between.ensures) (part_sound g.T.Element.size g.T.Element.row_of c.in-Bytes.bytes.now c.args.lower c.args.upper c.requires.ordered (rw c.in-Bytes.is at c.requires.in_range))

pub returns-in-Bytes-clause-rows : goal.returns-in-Bytes-clause-rows
returns-in-Bytes-clause-rows g c = rw (c.from_le_bytes.ensures, c.bytes_between.ensures, c.in-Bytes.is) (view_part_rows g.T.Element.size g.T.Element.row_of c.in-Bytes.bytes.now c.args.lower c.args.upper g.met.T.Element.element.positive c.requires.ordered (rw c.in-Bytes.is at c.requires.in_range))
