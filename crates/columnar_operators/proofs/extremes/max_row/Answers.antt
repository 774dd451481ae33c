use Rattle.std.proofs.Common.{rules, ◌≡◌, true, false, sym, ap, ◌∙◌}
use Rattle.std.specs.Ordering.{is_lt}
use Rattle.columnar_operators.specs.ExtremeLaws.{row_among, greatest_first, greatest_taken, greatest_kept}
use Rattle.columnar_operators.proofs.extremes.max_row.Goals.{then-not-is_lt, else-not-is_lt}
use Rattle.columnar_operators.proofs.extremes.max_row.Goals as goal

pub loop-i-init : goal.loop-i-init
loop-i-init g c =
    let rows = g.S.Column.format.rows (g.S.Column.content c.args.column.now) in
    record { among = row_among rows 0 _ c.get-greatest.ensures.row; greatest = greatest_first rows _ c.get-greatest.ensures.row; valid = c.get-greatest.ensures.valid }

pub loop-i-preserved : goal.loop-i-preserved
loop-i-preserved g c =
    let rows = g.S.Column.format.rows (g.S.Column.content c.args.column.now) in
    let row = g.S.Ref.Item.meaning c.get-row.result in
    let best = g.S.Ref.Item.meaning c.loop-i.greatest in
    elim c.if-not-is_lt.branch [
      | then-not-is_lt w ↦
          let h : is_lt c.compare_row.result ≡ false = search rules in
          rw w.greatest-is record { among = row_among rows c.loop-i.i row c.get-row.ensures.row; greatest = greatest_taken rows c.loop-i.i row best c.get-row.ensures.row (ap is_lt (sym c.compare_row.ensures) ∙ h) c.loop-i.invariant.greatest; valid = c.get-row.ensures.valid }
      | else-not-is_lt w ↦
          let h : is_lt c.compare_row.result ≡ true = search rules in
          rw w.greatest-is record { among = c.loop-i.invariant.among; greatest = greatest_kept rows c.loop-i.i row best c.get-row.ensures.row (ap is_lt (sym c.compare_row.ensures) ∙ h) c.loop-i.invariant.greatest; valid = c.loop-i.invariant.valid }
    ]
