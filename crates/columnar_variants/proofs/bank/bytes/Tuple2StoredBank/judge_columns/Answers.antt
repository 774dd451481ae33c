use Rattle.columnar_base.specs.Faults.{verdict}
use Rattle.columnar_base.specs.TwoPartsLaws.{representable_left, representable_right}
use Rattle.columnar_core.specs.Store.{slices_in}
use Rattle.columnar_core.specs.SidesLaws.{judged_others, turns_others}
use Rattle.columnar_variants.specs.BankByteLaws.{beside_parts_two}
use Rattle.columnar_variants.proofs.bank.bytes.Tuple2StoredBank.judge_columns.Goals as goal

pub judge_tallied-requires-clause-representable : goal.judge_tallied-requires-clause-representable
judge_tallied-requires-clause-representable g c = representable_left (beside_parts_two g.A.Column.format g.B.ColumnBank.bank.sides) c.requires.representable

pub slice_count-requires : goal.slice_count-requires
slice_count-requires g c = representable_left (beside_parts_two g.A.Column.format g.B.ColumnBank.bank.sides) c.requires.representable

pub judge_columns-requires-clause-representable : goal.judge_columns-requires-clause-representable
judge_columns-requires-clause-representable g c = representable_right (beside_parts_two g.A.Column.format g.B.ColumnBank.bank.sides) c.requires.representable

pub returns-clause-exact : goal.returns-clause-exact
returns-clause-exact g c = judged_others (beside_parts_two g.A.Column.format g.B.ColumnBank.bank.sides) (slices_in c.args.store.now) c.args.offset c.slice_count.result (verdict c.judge_columns.result) c.slice_count.ensures c.in_ok-judge_tallied.ensures.exact c.judge_columns.ensures.exact

pub returns-clause-turns : goal.returns-clause-turns
returns-clause-turns g c = turns_others (beside_parts_two g.A.Column.format g.B.ColumnBank.bank.sides) g.met.A.Stored.storable.swift (slices_in c.args.store.now) c.args.offset c.slice_count.result _ _ _ c.slice_count.ensures c.judge_tallied.ensures.turns c.judge_columns.ensures.turns
