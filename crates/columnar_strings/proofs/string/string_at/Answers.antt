use Rattle.std.specs.Int.{to_le_bytes, w8}
use Rattle.columnar_base.specs.Elements.{elements, bytes_format}
use Rattle.columnar_lists.specs.ListLaws.{lists_within}
use Rattle.columnar_strings.specs.StringLaws.{string_read, string_within}
use Rattle.columnar_strings.proofs.string.string_at.Goals as goal

pub range_of-lower-requires-clause-in_range : goal.range_of-lower-requires-clause-in_range
range_of-lower-requires-clause-in_range g c = lists_within g.BC.Column.format bytes_format (g.BC.Column.content c.args.bounds.now) (elements (to_le_bytes w8) c.args.values.now) c.args.index c.requires.in_range

pub elements_between-requires-clause-ordered : goal.elements_between-requires-clause-ordered
elements_between-requires-clause-ordered g c = (string_within g.BC.Column.format c.args.values.now c.args.index c.requires.sound c.range_of-lower.ensures.lower c.range_of-lower.ensures.upper).0

pub elements_between-requires-clause-in_range : goal.elements_between-requires-clause-in_range
elements_between-requires-clause-in_range g c = (string_within g.BC.Column.format c.args.values.now c.args.index c.requires.sound c.range_of-lower.ensures.lower c.range_of-lower.ensures.upper).1

pub returns : goal.returns
returns g c = rw c.elements_between.ensures (string_read g.BC.Column.format (g.BC.Column.content c.args.bounds.now) c.args.values.now c.args.index c.range_of-lower.ensures.lower c.range_of-lower.ensures.upper)
