use Rattle.std.proofs.Common.{sym, ◌∙◌}
use Rattle.std.specs.Int.{to_le_bytes, w8}
use Rattle.columnar_base.specs.Elements.{elements, bytes_format}
use Rattle.columnar_lists.specs.WalkLaws.{length-left}
use Rattle.columnar_strings.proofs.string.walk.StringIterExactSizeIterator.len.Goals as goal

pub returns-clause-value : goal.returns-clause-value
returns-clause-value g c = c.left.ensures ∙ sym (length-left g.W.Column.format bytes_format (g.W.Column.content c.args.self.now.bounds) (elements (to_le_bytes w8) c.args.self.now.values.now) c.args.self.now.ranges.index c.args.self.now.ranges.count c.args.self.now.stands.count)
