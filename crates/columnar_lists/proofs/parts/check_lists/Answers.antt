use Rattle.std.proofs.Common.{◌∙◌, sym}
use Rattle.columnar_base.specs.TwoPartsLaws.{representable_left, representable_right, judged_part, judged_fine, judged_own}
use Rattle.columnar_base.specs.Faults.{fault_of}
use Rattle.columnar_lists.specs.ListLaws.{lists_two}
use Rattle.columnar_base.specs.ChangeLaws.{passed_on}
use Rattle.columnar_lists.proofs.parts.check_lists.Goals as goal

pub check_two-requires-clause-left : goal.check_two-requires-clause-left
check_two-requires-clause-left g c = representable_left (lists_two g.BC.Column.format g.TC.Column.format) c.requires.representable

pub check_two-requires-clause-right : goal.check_two-requires-clause-right
check_two-requires-clause-right g c = representable_right (lists_two g.BC.Column.format g.TC.Column.format) c.requires.representable

pub returns-in_err-check_two-clause-exact : goal.returns-in_err-check_two-clause-exact
returns-in_err-check_two-clause-exact g c = rw (passed_on c.from_residual.result c.from_residual.ensures.1) (judged_part (lists_two g.BC.Column.format g.TC.Column.format) (g.BC.Column.content c.args.bounds.now) (g.TC.Column.content c.args.values.now) c.args.from (fault_of c.in_err-check_two.field-0.0) c.in_err-check_two.ensures.exact)

pub returns-then-rises_to_tallied-clause-exact : goal.returns-then-rises_to_tallied-clause-exact
returns-then-rises_to_tallied-clause-exact g c = judged_fine (lists_two g.BC.Column.format g.TC.Column.format) (g.BC.Column.content c.args.bounds.now) (g.TC.Column.content c.args.values.now) c.args.from c.in_ok-check_two.ensures.exact (rw c.len-count.ensures at (sym c.rises_to_tallied.ensures.value ∙ c.if-rises_to_tallied.true))

pub returns-else-rises_to_tallied-clause-exact : goal.returns-else-rises_to_tallied-clause-exact
returns-else-rises_to_tallied-clause-exact g c = judged_own (lists_two g.BC.Column.format g.TC.Column.format) (g.BC.Column.content c.args.bounds.now) (g.TC.Column.content c.args.values.now) c.args.from c.in_ok-check_two.ensures.exact (rw c.len-count.ensures at (sym c.rises_to_tallied.ensures.value ∙ c.if-rises_to_tallied.false))
