use Rattle.std.proofs.Common.{sym, ◌∙◌, ◌∷◌}
use Rattle.columnar_base.specs.Faults.{fault_of}
use Rattle.columnar_base.specs.FaultLaws.{sound_from}
use Rattle.columnar_base.specs.ChangeLaws.{passed_on}
use Rattle.columnar_base.specs.Format.{both}
use Rattle.columnar_base.specs.TwoPartsLaws.{two_parts}
use Rattle.columnar_base.specs.LongTuples.{sides}
use Rattle.columnar_base.specs.LongTupleLaws.{sides_two, tuple_two}
use Rattle.columnar_core.specs.SidesLaws.{checked_parts, checked_level, checked_uneven}
use Rattle.columnar_core.proofs.sides.check_tuple.Goals as goal

pub check_parts-requires-clause-representable : goal.check_parts-requires-clause-representable
check_parts-requires-clause-representable g c = c.requires.representable

pub check_parts-requires-clause-counted : goal.check_parts-requires-clause-counted
check_parts-requires-clause-counted g c = c.requires.counted

pub returns-in_err-check_parts-clause-exact : goal.returns-in_err-check_parts-clause-exact
returns-in_err-check_parts-clause-exact g c = rw (passed_on c.from_residual.result c.from_residual.ensures.1) (checked_parts (tuple_two g.A.Column.format g.R.LentSides.head g.R.LentSides.others) (sides_two g.A.Column.format g.R.LentSides.head g.R.LentSides.others) (g.A.Column.content c.args.parts.now.0.now) (g.R.LentSides.content c.args.parts.now.1) c.args.from (fault_of c.in_err-check_parts.field-0.0) c.in_err-check_parts.ensures.exact)

pub len-requires : goal.len-requires
len-requires g c = (two_parts (sides_two g.A.Column.format g.R.LentSides.head g.R.LentSides.others) (g.A.Column.content c.args.parts.now.0.now) (g.R.LentSides.content c.args.parts.now.1) (sound_from (sides g.A.Column.format (g.R.LentSides.head ∷ g.R.LentSides.others)) (both (g.A.Column.content c.args.parts.now.0.now) (g.R.LentSides.content c.args.parts.now.1)) c.args.from c.in_ok-check_parts.ensures.exact)).left

pub have_rows-requires : goal.have_rows-requires
have_rows-requires g c = (two_parts (sides_two g.A.Column.format g.R.LentSides.head g.R.LentSides.others) (g.A.Column.content c.args.parts.now.0.now) (g.R.LentSides.content c.args.parts.now.1) (sound_from (sides g.A.Column.format (g.R.LentSides.head ∷ g.R.LentSides.others)) (both (g.A.Column.content c.args.parts.now.0.now) (g.R.LentSides.content c.args.parts.now.1)) c.args.from c.in_ok-check_parts.ensures.exact)).right

pub returns-then-have_rows-clause-exact : goal.returns-then-have_rows-clause-exact
returns-then-have_rows-clause-exact g c = checked_level (tuple_two g.A.Column.format g.R.LentSides.head g.R.LentSides.others) (sides_two g.A.Column.format g.R.LentSides.head g.R.LentSides.others) (g.A.Column.content c.args.parts.now.0.now) (g.R.LentSides.content c.args.parts.now.1) c.args.from c.in_ok-check_parts.ensures.exact (rw c.len.ensures at (sym c.have_rows.ensures ∙ c.if-have_rows.true))

pub returns-else-have_rows-clause-exact : goal.returns-else-have_rows-clause-exact
returns-else-have_rows-clause-exact g c = checked_uneven (tuple_two g.A.Column.format g.R.LentSides.head g.R.LentSides.others) (sides_two g.A.Column.format g.R.LentSides.head g.R.LentSides.others) (g.A.Column.content c.args.parts.now.0.now) (g.R.LentSides.content c.args.parts.now.1) c.args.from c.in_ok-check_parts.ensures.exact (rw c.len.ensures at (sym c.have_rows.ensures ∙ c.if-have_rows.false))
