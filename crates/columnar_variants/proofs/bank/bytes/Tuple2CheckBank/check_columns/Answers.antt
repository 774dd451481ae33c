use Rattle.columnar_base.specs.Faults.{verdict}
use Rattle.columnar_base.specs.TwoPartsLaws.{representable_left, representable_right}
use Rattle.columnar_core.specs.SidesLaws.{checked_others}
use Rattle.columnar_variants.specs.BankByteLaws.{beside_parts_two}
use Rattle.columnar_variants.proofs.bank.bytes.Tuple2CheckBank.check_columns.Goals as goal

pub check_from_tallied-requires-clause-representable : goal.check_from_tallied-requires-clause-representable
check_from_tallied-requires-clause-representable g c = representable_left (beside_parts_two g.A.Column.format g.B.ColumnBank.bank.sides) c.requires.representable

pub slice_count-requires : goal.slice_count-requires
slice_count-requires g c = representable_left (beside_parts_two g.A.Column.format g.B.ColumnBank.bank.sides) c.requires.representable

pub check_columns-requires-clause-representable : goal.check_columns-requires-clause-representable
check_columns-requires-clause-representable g c = representable_right (beside_parts_two g.A.Column.format g.B.ColumnBank.bank.sides) c.requires.representable

pub returns-clause-exact : goal.returns-clause-exact
returns-clause-exact g c = checked_others (beside_parts_two g.A.Column.format g.B.ColumnBank.bank.sides) (g.A.Column.content c.args.self.now.0) (g.B.ColumnBank.contents c.args.self.now.1) c.args.from c.slice_count.result (verdict c.check_columns.result) c.slice_count.ensures c.in_ok-check_from_tallied.ensures.exact c.check_columns.ensures.exact
