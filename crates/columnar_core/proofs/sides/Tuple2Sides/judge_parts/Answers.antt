use Rattle.std.proofs.Common.{arith}
use Rattle.columnar_base.specs.Faults.{verdict}
use Rattle.columnar_base.specs.TwoPartsLaws.{representable_left, representable_right}
use Rattle.columnar_base.specs.LongTupleLaws.{sides_two}
use Rattle.columnar_core.specs.Store.{slices_in}
use Rattle.columnar_core.specs.SidesLaws.{judged_others, turns_others}
use Rattle.columnar_core.proofs.sides.Tuple2Sides.judge_parts.Goals as goal

pub judge_tallied-requires-clause-representable : goal.judge_tallied-requires-clause-representable
judge_tallied-requires-clause-representable g c = representable_left (sides_two g.A.Column.format g.R.Sides.head g.R.Sides.others) c.requires.representable

pub slice_count-requires : goal.slice_count-requires
slice_count-requires g c = representable_left (sides_two g.A.Column.format g.R.Sides.head g.R.Sides.others) c.requires.representable

pub judge_parts-requires-clause-representable : goal.judge_parts-requires-clause-representable
judge_parts-requires-clause-representable g c = representable_right (sides_two g.A.Column.format g.R.Sides.head g.R.Sides.others) c.requires.representable

pub judge_parts-requires-clause-room : goal.judge_parts-requires-clause-room
judge_parts-requires-clause-room g c = omega (arith, c.requires.room, c.slice_count.ensures, (sides_two g.A.Column.format g.R.Sides.head g.R.Sides.others).count)

pub returns-clause-exact : goal.returns-clause-exact
returns-clause-exact g c = judged_others (sides_two g.A.Column.format g.R.Sides.head g.R.Sides.others) (slices_in c.args.store.now) c.args.offset c.slice_count.result (verdict c.judge_parts.result) c.slice_count.ensures c.in_ok-judge_tallied.ensures.exact c.judge_parts.ensures.exact

pub returns-clause-turns : goal.returns-clause-turns
returns-clause-turns g c = turns_others (sides_two g.A.Column.format g.R.Sides.head g.R.Sides.others) g.met.A.Stored.storable.swift (slices_in c.args.store.now) c.args.offset c.slice_count.result _ _ _ c.slice_count.ensures c.judge_tallied.ensures.turns c.judge_parts.ensures.turns
