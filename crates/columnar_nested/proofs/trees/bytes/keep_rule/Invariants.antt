use Rattle.std.proofs.Common.{◌≡◌, ◌≤◌, ◌+◌, length, drop}
use Rattle.columnar_base.specs.WordViews.{view_words}
use Rattle.columnar_nested.specs.Pass.{accepts, follow}
use Rattle.columnar_nested.proofs.trees.bytes.keep_rule.Given as goal

abbrev pub invariant-loop-j : goal.invariant-loop-j
invariant-loop-j g l =
    (accepts (view_words l.fn.groups) (view_words l.fn.bounds) l.fn.nodes ≡ follow l.j l.last (drop l.j (view_words l.fn.bounds)) (drop l.met (view_words l.fn.groups)) l.fn.nodes)
    × (l.met ≤ length (view_words l.fn.groups))
    × (l.tally.turns ≤ l.initial.tally.turns + l.j)
