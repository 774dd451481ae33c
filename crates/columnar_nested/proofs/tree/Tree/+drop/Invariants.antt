use Rattle.std.proofs.Common.{[], ◌∷◌, ◌<◌, ◌≤◌}
use Rattle.columnar_nested.specs.Weights.{count}
use Rattle.columnar_nested.proofs.tree.Tree.+drop.Given as goal

abbrev pub decreases-drop : goal.decreases-drop
decreases-drop g l = count (l.self ∷ [])

abbrev pub invariant-loop-kid : goal.invariant-loop-kid
invariant-loop-kid g l = count l.next.items < count (l.fn.self ∷ [])

abbrev pub decreases-loop-kid : goal.decreases-loop-kid
decreases-loop-kid g l = count l.next.items

abbrev pub invariant-loop-next : goal.invariant-loop-next
invariant-loop-next g l = count (l.self ∷ l.waiting.items) ≤ count (l.fn.self ∷ [])

abbrev pub decreases-loop-next : goal.decreases-loop-next
decreases-loop-next g l = count (l.self ∷ l.waiting.items)
