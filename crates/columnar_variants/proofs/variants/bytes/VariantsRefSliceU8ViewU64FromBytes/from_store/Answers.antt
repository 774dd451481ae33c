use Rattle.std.proofs.Common.{refl, arith}
use Rattle.columnar_core.specs.Store.{slices_in}
use Rattle.columnar_variants.specs.VariantByteLaws.{sides_representable, variants_content}
use Rattle.columnar_variants.proofs.variants.bytes.VariantsRefSliceU8ViewU64FromBytes.from_store.Goals as goal

pub columns_from-columns-requires : goal.columns_from-columns-requires
columns_from-columns-requires g c = let r = c.requires.room in λ k. ((refl, tt), (sides_representable g.B.ColumnBank.bank c.requires.representable, omega (arith, r)))

pub returns-clause-content : goal.returns-clause-content
returns-clause-content g c = variants_content g.B.ColumnBank.bank (slices_in c.args.store.now) c.args.offset.now c.columns_from-columns.new.offset c.columns_from-columns.ensures.contents c.from_store-indexes.ensures.content c.columns_from-columns.ensures.next
