use Rattle.std.proofs.Common.{arith, rules, ◌≡◌, ◌<◌, length, true, false}
use Rattle.std.specs.Ordering.{is_lt}
use Rattle.columnar_operators.specs.MergedLaws.{up_to_none, first_more, first_alone, compared}
use Rattle.columnar_operators.proofs.merge.end_of_first.Goals as goal

pub returns-then-j-len-clause-merged : goal.returns-then-j-len-clause-merged
returns-then-j-len-clause-merged g c = first_alone (g.V.Column.format.rows (g.V.Column.content c.args.one.now)) (g.V.Column.format.rows (g.V.Column.content c.args.other.now)) c.args.i c.args.j c.len-count.result (omega arith) (omega arith)

pub returns-then-is_lt-clause-stops : goal.returns-then-is_lt-clause-stops
returns-then-is_lt-clause-stops g c =
    let xs = g.V.Column.format.rows (g.V.Column.content c.args.one.now) in
    let ys = g.V.Column.format.rows (g.V.Column.content c.args.other.now) in
    let h : is_lt c.compare_row.result ≡ true = search rules in
    λ _. (omega arith, compared xs ys c.loop-end.end c.args.j _ _ c.compare_row.result true c.get-bound.ensures.row c.get.ensures.row c.compare_row.ensures h)

pub loop-end-preserved : goal.loop-end-preserved
loop-end-preserved g c =
    let xs = g.V.Column.format.rows (g.V.Column.content c.args.one.now) in
    let ys = g.V.Column.format.rows (g.V.Column.content c.args.other.now) in
    let h : is_lt c.compare_row.result ≡ false = search rules in
    first_more xs ys c.args.i c.loop-end.end c.args.j _ (omega arith) (omega arith) (compared xs ys c.loop-end.end c.args.j _ _ c.compare_row.result false c.get-bound.ensures.row c.get.ensures.row c.compare_row.ensures h) c.loop-end.invariant
