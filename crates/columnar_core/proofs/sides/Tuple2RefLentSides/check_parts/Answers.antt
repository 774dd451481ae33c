use Rattle.std.proofs.Common.{arith}
use Rattle.columnar_base.specs.Faults.{verdict}
use Rattle.columnar_base.specs.TwoPartsLaws.{representable_left, representable_right}
use Rattle.columnar_base.specs.LongTupleLaws.{sides_two}
use Rattle.columnar_core.specs.SidesLaws.{checked_others}
use Rattle.columnar_core.proofs.sides.Tuple2RefLentSides.check_parts.Goals as goal

pub check_from_tallied-requires-clause-representable : goal.check_from_tallied-requires-clause-representable
check_from_tallied-requires-clause-representable g c = representable_left (sides_two g.A.Column.format g.R.LentSides.head g.R.LentSides.others) c.requires.representable

pub slice_count-requires : goal.slice_count-requires
slice_count-requires g c = representable_left (sides_two g.A.Column.format g.R.LentSides.head g.R.LentSides.others) c.requires.representable

pub check_parts-requires-clause-representable : goal.check_parts-requires-clause-representable
check_parts-requires-clause-representable g c = representable_right (sides_two g.A.Column.format g.R.LentSides.head g.R.LentSides.others) c.requires.representable

pub check_parts-requires-clause-counted : goal.check_parts-requires-clause-counted
check_parts-requires-clause-counted g c = omega (arith, c.requires.counted, c.slice_count.ensures, (sides_two g.A.Column.format g.R.LentSides.head g.R.LentSides.others).count)

pub returns-clause-exact : goal.returns-clause-exact
returns-clause-exact g c = checked_others (sides_two g.A.Column.format g.R.LentSides.head g.R.LentSides.others) (g.A.Column.content c.args.self.now.0.now) (g.R.LentSides.content c.args.self.now.1) c.args.from c.slice_count.result (verdict c.check_parts.result) c.slice_count.ensures c.in_ok-check_from_tallied.ensures.exact c.check_parts.ensures.exact
