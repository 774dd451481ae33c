use Rattle.std.proofs.Common.{◌-◌, ◌∷◌, [], arith}
use Rattle.columnar_base.specs.TwoPartsLaws.{flat_left, flat_right, align_left, align_right}
use Rattle.columnar_base.specs.Format.{slices_of}
use Rattle.columnar_core.specs.Slices.{bytes_in, alignment}
use Rattle.columnar_sums.specs.Discriminants.{owned_forms}
use Rattle.columnar_variants.specs.VariantByteLaws.{sides_representable}
use Rattle.columnar_variants.proofs.variants.bytes.VariantsVecU8VecU64ContainerBytes.byte_slice.Goals as goal

pub count_slices-count-requires : goal.count_slices-count-requires
count_slices-count-requires g c = sides_representable g.B.ColumnBank.bank c.requires.representable

pub column_slice-requires-clause-representable : goal.column_slice-requires-clause-representable
column_slice-requires-clause-representable g c = sides_representable g.B.ColumnBank.bank c.requires.representable

pub returns-then-index-count-clause-slice : goal.returns-then-index-count-clause-slice
returns-then-index-count-clause-slice g c = flat_left (slices_of (g.B.ColumnBank.contents c.args.self.now.columns)) (slices_of (owned_forms c.args.self.now.indexes.variant.items c.args.self.now.indexes.offset.items)) c.args.index (bytes_in c.column_slice.result) c.column_slice.ensures.slice

pub returns-then-index-count-clause-aligned : goal.returns-then-index-count-clause-aligned
returns-then-index-count-clause-aligned g c = align_left g.B.ColumnBank.bank.sides.aligns (1 ∷ 8 ∷ []) c.args.index (alignment c.column_slice.result) c.column_slice.ensures.aligned

pub returns-else-index-count-clause-slice : goal.returns-else-index-count-clause-slice
returns-else-index-count-clause-slice g c = flat_right (slices_of (g.B.ColumnBank.contents c.args.self.now.columns)) (slices_of (owned_forms c.args.self.now.indexes.variant.items c.args.self.now.indexes.offset.items)) c.args.index (c.args.index - c.count_slices-count.result) (bytes_in c.byte_slice.result) (omega (arith, g.met.B.StoredBank.counted c.args.self.now.columns, c.count_slices-count.ensures, c.if-index-count.false)) c.byte_slice.ensures.slice

pub returns-else-index-count-clause-aligned : goal.returns-else-index-count-clause-aligned
returns-else-index-count-clause-aligned g c = align_right g.B.ColumnBank.bank.sides.aligns (1 ∷ 8 ∷ []) c.args.index (c.args.index - c.count_slices-count.result) (alignment c.byte_slice.result) (omega (arith, g.met.B.StoredBank.storable.aligned, c.count_slices-count.ensures, c.if-index-count.false)) c.byte_slice.ensures.aligned
