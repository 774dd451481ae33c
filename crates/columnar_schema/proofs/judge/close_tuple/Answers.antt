use Rattle.std.proofs.Common.{sym, ◌∙◌}
use Rattle.columnar_core.specs.Store.{slices_in}
use Rattle.columnar_schema.specs.JudgeLaws.{tuple_closed, tuple_unclosed}
use Rattle.columnar_schema.proofs.judge.close_tuple.Goals as goal

pub returns-then-rows_agree : goal.returns-then-rows_agree
returns-then-rows_agree c = tuple_closed c.args.field.now c.args.others.now c.args.offset c.args.after _ (slices_in c.args.store.now) c.requires.after c.requires.field_fits c.requires.others_fit c.rows_of.ensures (sym c.if-rows_agree.true ∙ c.rows_agree.ensures)

pub returns-else-rows_agree : goal.returns-else-rows_agree
returns-else-rows_agree c = tuple_unclosed c.args.field.now c.args.others.now c.args.offset c.args.after _ (slices_in c.args.store.now) c.requires.after c.requires.field_fits c.requires.others_fit c.rows_of.ensures (sym c.if-rows_agree.false ∙ c.rows_agree.ensures)
