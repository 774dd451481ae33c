use Rattle.std.proofs.Common.{ap, ◌+◌}
use Rattle.columnar_base.specs.TwoPartsLaws.{representable_left, representable_right}
use Rattle.columnar_core.specs.Store.{slices_in}
use Rattle.columnar_variants.specs.VariantByteLaws.{beside_first, beside_second, beside_content}
use Rattle.columnar_variants.specs.BankByteLaws.{beside_parts_two}
use Rattle.columnar_variants.proofs.bank.bytes.Tuple2BytesBank.load_columns.Goals as goal

pub load-requires-clause-representable : goal.load-requires-clause-representable
load-requires-clause-representable g c = representable_left (beside_parts_two g.A.Column.format g.B.ColumnBank.bank.sides) c.requires.representable

pub load-requires-clause-fits : goal.load-requires-clause-fits
load-requires-clause-fits g c = beside_first g.A.Column.format g.B.ColumnBank.bank.sides c.args.offset (slices_in c.args.store.now) c.requires.fits

pub slice_count-requires : goal.slice_count-requires
slice_count-requires g c = representable_left (beside_parts_two g.A.Column.format g.B.ColumnBank.bank.sides) c.requires.representable

pub load_columns-requires-clause-representable : goal.load_columns-requires-clause-representable
load_columns-requires-clause-representable g c = representable_right (beside_parts_two g.A.Column.format g.B.ColumnBank.bank.sides) c.requires.representable

pub load_columns-requires-clause-fits : goal.load_columns-requires-clause-fits
load_columns-requires-clause-fits g c = rw c.slice_count.ensures (beside_second g.A.Column.format g.B.ColumnBank.bank.sides c.args.offset (slices_in c.args.store.now) c.requires.fits)

pub returns-clause-contents : goal.returns-clause-contents
returns-clause-contents g c = beside_content g.A.Column.format g.B.ColumnBank.bank.sides (slices_in c.args.store.now) c.args.offset (c.args.offset + c.slice_count.result) c.in_ok-first.ensures.content c.in_ok-others.ensures.contents (ap (λ k. c.args.offset + k) c.slice_count.ensures)
