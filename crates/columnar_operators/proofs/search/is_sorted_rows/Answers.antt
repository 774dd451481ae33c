use Rattle.std.proofs.Common.{arith, rules, ◌≡◌, ◌<◌, ◌-◌, true, false, length, sym, ap, ◌∙◌}
use Rattle.std.specs.Ordering.{is_lt}
use Rattle.columnar_rows.specs.RowOrder.{row_cmp}
use Rattle.columnar_operators.specs.SearchLaws.{sorted_none, sorted_more, sorted_broken, sorted_all}
use Rattle.columnar_operators.proofs.search.is_sorted_rows.Goals as goal

pub loop-i-init : goal.loop-i-init
loop-i-init g c = record { first = omega arith; sorted = sorted_none (λ r s. is_lt (row_cmp r s)) _ }

pub returns-then-is_lt : goal.returns-then-is_lt
returns-then-is_lt g c =
    let rows = g.S.Column.format.rows (g.S.Column.content c.args.column.now) in
    let h : is_lt c.compare_row.result ≡ true = search rules in
    sorted_broken (λ r s. is_lt (row_cmp r s)) rows c.loop-i.i _ _ c.loop-i.invariant.first (omega arith) c.get.ensures.row c.get-in-loop-i.ensures.row (ap is_lt (sym c.compare_row.ensures) ∙ h)

pub loop-i-preserved : goal.loop-i-preserved
loop-i-preserved g c =
    let rows = g.S.Column.format.rows (g.S.Column.content c.args.column.now) in
    let h : is_lt c.compare_row.result ≡ false = search rules in
    record {
      first = omega arith;
      sorted = sorted_more (λ r s. is_lt (row_cmp r s)) rows c.loop-i.i _ _ c.loop-i.invariant.first (omega arith) c.get.ensures.row c.get-in-loop-i.ensures.row (ap is_lt (sym c.compare_row.ensures) ∙ h) c.loop-i.invariant.sorted;
    }

pub returns : goal.returns
returns g c = sorted_all (λ r s. is_lt (row_cmp r s)) (g.S.Column.format.rows (g.S.Column.content c.args.column.now)) c.loop-i.i (omega arith) c.loop-i.invariant.sorted
