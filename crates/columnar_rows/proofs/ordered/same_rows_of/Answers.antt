use Rattle.std.proofs.Common.{◌∙◌, sym, rules}
use Rattle.columnar_base.specs.SameRowsLaws.{rest_more, rest_differs, other_length}
use Rattle.columnar_rows.proofs.ordered.same_rows_of.Goals as goal

pub returns-then-count-len : goal.returns-then-count-len
returns-then-count-len g c = other_length (g.S.Column.format.rows (g.S.Column.content c.args.left.now)) (g.S.Column.format.rows (g.S.Column.content c.args.right.now)) (λ e. c.if-count-len.true (c.len-count.ensures ∙ e ∙ sym c.len.ensures))

pub returns-then-not-same_row : goal.returns-then-not-same_row
returns-then-not-same_row g c = rest_differs _ _ c.loop-i.i _ _ c.get.ensures.row c.get-in-loop-i.ensures.row (search rules) c.loop-i.invariant

pub loop-i-preserved : goal.loop-i-preserved
loop-i-preserved g c = rest_more _ _ c.loop-i.i _ _ c.get.ensures.row c.get-in-loop-i.ensures.row (search rules) c.loop-i.invariant
