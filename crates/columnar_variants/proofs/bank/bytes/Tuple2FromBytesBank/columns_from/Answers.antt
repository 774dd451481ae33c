use Rattle.std.proofs.Common.{refl, arith}
use Rattle.columnar_base.specs.TwoPartsLaws.{representable_left, representable_right}
use Rattle.columnar_core.specs.Store.{slices_in}
use Rattle.columnar_variants.specs.VariantByteLaws.{beside_content}
use Rattle.columnar_variants.specs.BankByteLaws.{beside_parts_two}
use Rattle.columnar_variants.proofs.bank.bytes.Tuple2FromBytesBank.columns_from.Goals as goal

pub from_store-first-requires : goal.from_store-first-requires
from_store-first-requires g c = let r = c.requires.room in λ k. ((refl, tt), (representable_left (beside_parts_two g.A.Column.format g.B.ColumnBank.bank.sides) c.requires.representable, omega (arith, r)))

pub columns_from-others-requires : goal.columns_from-others-requires
columns_from-others-requires g c = let r = c.requires.room in λ k. ((refl, tt), (representable_right (beside_parts_two g.A.Column.format g.B.ColumnBank.bank.sides) c.requires.representable, omega (arith, r, c.from_store-first.ensures.next)))

pub returns-clause-contents : goal.returns-clause-contents
returns-clause-contents g c = beside_content g.A.Column.format g.B.ColumnBank.bank.sides (slices_in c.args.store.now) c.args.offset.now c.from_store-first.new.offset c.from_store-first.ensures.content c.columns_from-others.ensures.contents c.from_store-first.ensures.next
