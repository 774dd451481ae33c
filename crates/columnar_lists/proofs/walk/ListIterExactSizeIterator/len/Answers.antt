use Rattle.std.proofs.Common.{sym, ◌∙◌}
use Rattle.columnar_lists.specs.WalkLaws.{length-left}
use Rattle.columnar_lists.proofs.walk.ListIterExactSizeIterator.len.Goals as goal

pub returns-clause-value : goal.returns-clause-value
returns-clause-value g c = c.left.ensures ∙ sym (length-left g.W.Column.format g.V.Column.format (g.W.Column.content c.args.self.now.bounds) (g.V.Column.content c.args.self.now.values) c.args.self.now.ranges.index c.args.self.now.ranges.count c.args.self.now.stands.count)
