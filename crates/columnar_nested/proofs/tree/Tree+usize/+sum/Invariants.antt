use Rattle.std.proofs.Common.{[], ◌∷◌, ◌+◌, length}
use Rattle.columnar_nested.specs.Weights.{total, count, value_sum}
use Rattle.columnar_nested.specs.WeightLaws.{IsSummed}
use Rattle.columnar_nested.proofs.tree.Tree+usize.+sum.Given as goal

abbrev pub decreases-sum : goal.decreases-sum
decreases-sum l = count (l.self.now ∷ [])

abbrev pub invariant-loop-waiting : goal.invariant-loop-waiting
invariant-loop-waiting l = IsSummed l.fn.self l.sum l.rest (total (λ ts. value_sum ts.now) l.waiting.items) (total (λ ts. count ts.now) l.waiting.items)

abbrev pub decreases-loop-waiting : goal.decreases-loop-waiting
decreases-loop-waiting l = (count l.rest + total (λ ts. count ts.now) l.waiting.items) + ((count l.rest + total (λ ts. count ts.now) l.waiting.items) + length l.waiting.items)
