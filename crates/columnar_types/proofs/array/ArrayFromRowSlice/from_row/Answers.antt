use Rattle.std.proofs.Common.{arith, ◌∙◌, sym}
use Rattle.columnar_base.specs.Format.{part, part_rows}
use Rattle.columnar_types.specs.OwnedLaws.{array_answered, array_fit, array_length_why, lists_level}
use Rattle.columnar_types.proofs.array.ArrayFromRowSlice.from_row.Goals as goal

pub returns-then-len-clause-why : goal.returns-then-len-clause-why
returns-then-len-clause-why g c = array_length_why g.row.N g.T.Columnar.unfit (part_rows g.V.Column.format (part c.args.row.lower c.args.row.upper (g.V.Column.content c.args.row.slice))) (λ e. c.if-len.true (c.len.ensures ∙ e))

pub returns-in-Ok-clause-value : goal.returns-in-Ok-clause-value
returns-in-Ok-clause-value g c =
    let rs = part_rows g.V.Column.format (part c.args.row.lower c.args.row.upper (g.V.Column.content c.args.row.slice)) in
    rw c.in-Ok.ensures.0 (g.met.T.ArrayItem.is_list g.row.N c.in_ok-values.values.items (lists_level g.T.Item.meaning c.in_ok-values.values.items rs c.in_ok-values.ensures.value ∙ (sym c.len.ensures ∙ c.if-len.false)) ∙ c.in_ok-values.ensures.value)

pub returns-in-Ok-clause-fit : goal.returns-in-Ok-clause-fit
returns-in-Ok-clause-fit g c = array_fit g.row.N g.T.Columnar.unfit (part_rows g.V.Column.format (part c.args.row.lower c.args.row.upper (g.V.Column.content c.args.row.slice))) (sym c.len.ensures ∙ c.if-len.false) c.in_ok-values.ensures.fit

pub returns-in-Err-clause-why : goal.returns-in-Err-clause-why
returns-in-Err-clause-why g c =
    let l = lists_level g.T.Item.meaning c.in_ok-values.values.items (part_rows g.V.Column.format (part c.args.row.lower c.args.row.upper (g.V.Column.content c.args.row.slice))) c.in_ok-values.ensures.value in
    absurd (c.in-Err.ensures.1 (omega (arith, l, c.in_ok-values.values.ok, c.len.ensures, c.if-len.false)))

pub returns-in_err-values-clause-at_once : goal.returns-in_err-values-clause-at_once
returns-in_err-values-clause-at_once g c = array_answered g.row.N (part_rows g.V.Column.format (part c.args.row.lower c.args.row.upper (g.V.Column.content c.args.row.slice))) (sym c.len.ensures ∙ c.if-len.false) _

pub returns-in-Ok-clause-at_once : goal.returns-in-Ok-clause-at_once
returns-in-Ok-clause-at_once g c = array_answered g.row.N (part_rows g.V.Column.format (part c.args.row.lower c.args.row.upper (g.V.Column.content c.args.row.slice))) (sym c.len.ensures ∙ c.if-len.false) _
