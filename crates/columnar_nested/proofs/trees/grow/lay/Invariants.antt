use Rattle.std.proofs.Common.{[], ◌∷◌, length}
use Rattle.columnar_nested.specs.TreeValues.{in_order}
use Rattle.columnar_nested.specs.PushTurns.{Laid}
use Rattle.columnar_nested.proofs.trees.grow.lay.Given as goal

abbrev pub invariant-loop-node : goal.invariant-loop-node
invariant-loop-node g l = Laid g.T.Item.meaning g.T.Item.valid g.TC.Column.format (g.TC.Column.content l.fn.values) (g.TC.Column.content l.values) l.fn.bounds.items l.bounds.items l.fn.root l.waiting.items

abbrev pub decreases-loop-node : goal.decreases-loop-node
decreases-loop-node g l = length (in_order g.T.Item.meaning l.waiting.items)
