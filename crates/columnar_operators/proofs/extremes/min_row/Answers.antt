use Rattle.std.proofs.Common.{rules, ◌≡◌, true, false, sym, ap, ◌∙◌}
use Rattle.std.specs.Ordering.{is_lt}
use Rattle.columnar_operators.specs.ExtremeLaws.{row_among, least_first, least_taken, least_kept}
use Rattle.columnar_operators.proofs.extremes.min_row.Goals.{then-is_lt, else-is_lt}
use Rattle.columnar_operators.proofs.extremes.min_row.Goals as goal

pub loop-i-init : goal.loop-i-init
loop-i-init g c =
    let rows = g.S.Column.format.rows (g.S.Column.content c.args.column.now) in
    record { among = row_among rows 0 _ c.get-least.ensures.row; least = least_first rows _ c.get-least.ensures.row; valid = c.get-least.ensures.valid }

pub loop-i-preserved : goal.loop-i-preserved
loop-i-preserved g c =
    let rows = g.S.Column.format.rows (g.S.Column.content c.args.column.now) in
    let row = g.S.Ref.Item.meaning c.get-row.result in
    let best = g.S.Ref.Item.meaning c.loop-i.least in
    elim c.if-is_lt.branch [
      | then-is_lt w ↦
          let h : is_lt c.compare_row.result ≡ true = search rules in
          rw w.least-is record { among = row_among rows c.loop-i.i row c.get-row.ensures.row; least = least_taken rows c.loop-i.i row best c.get-row.ensures.row (ap is_lt (sym c.compare_row.ensures) ∙ h) c.loop-i.invariant.least; valid = c.get-row.ensures.valid }
      | else-is_lt w ↦
          let h : is_lt c.compare_row.result ≡ false = search rules in
          rw w.least-is record { among = c.loop-i.invariant.among; least = least_kept rows c.loop-i.i row best c.get-row.ensures.row (ap is_lt (sym c.compare_row.ensures) ∙ h) c.loop-i.invariant.least; valid = c.loop-i.invariant.valid }
    ]
