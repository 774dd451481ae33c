use Rattle.std.proofs.Common.{◌+◌, length}
use Rattle.columnar_nested.specs.Weights.{total, uncopied}
use Rattle.columnar_nested.specs.declared.tree.Tree.TheViews.{out-Tree}
use Rattle.columnar_nested.proofs.tree.TreeClone.clone.Given as goal

abbrev pub decreases-loop-kid : goal.decreases-loop-kid
decreases-loop-kid g l =
    (uncopied (out-Tree g.row.T.Denot l.source).kids.items (length (out-Tree g.row.T.Denot l.copy).kids.items) + total (λ p. uncopied (out-Tree g.row.T.Denot p.0.now).kids.items (length (out-Tree g.row.T.Denot p.1).kids.items + 1)) l.above.items)
    + ((uncopied (out-Tree g.row.T.Denot l.source).kids.items (length (out-Tree g.row.T.Denot l.copy).kids.items) + total (λ p. uncopied (out-Tree g.row.T.Denot p.0.now).kids.items (length (out-Tree g.row.T.Denot p.1).kids.items + 1)) l.above.items) + length l.above.items)
