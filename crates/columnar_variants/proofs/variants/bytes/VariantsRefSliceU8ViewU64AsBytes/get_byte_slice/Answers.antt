use Rattle.std.proofs.Common.{◌-◌, ◌∷◌, [], refl, arith}
use Rattle.columnar_base.specs.TwoPartsLaws.{flat_left, flat_right, align_left, align_right}
use Rattle.columnar_base.specs.Format.{slices_of}
use Rattle.columnar_core.specs.Slices.{bytes_in}
use Rattle.columnar_core.specs.WordViews.{view_bytes}
use Rattle.columnar_sums.specs.Discriminants.{forms_content}
use Rattle.columnar_variants.specs.Duals.{slice_bytes}
use Rattle.columnar_variants.specs.VariantByteLaws.{sides_representable}
use Rattle.columnar_variants.proofs.variants.bytes.VariantsRefSliceU8ViewU64AsBytes.get_byte_slice.Goals as goal

pub count_slices-count-requires : goal.count_slices-count-requires
count_slices-count-requires g c = sides_representable g.B.ColumnBank.bank c.requires.representable

pub get_column_slice-requires : goal.get_column_slice-requires
get_column_slice-requires g c = let l = c.if-index-count.true in let p = c.count_slices-count.ensures in λ k. ((refl, tt), (sides_representable g.B.ColumnBank.bank c.requires.representable, omega (arith, l, p)))

pub returns-then-index-count-clause-slice : goal.returns-then-index-count-clause-slice
returns-then-index-count-clause-slice g c = flat_left (slices_of (g.B.ColumnBank.contents c.args.self.now.columns)) (slices_of (forms_content slice_bytes view_bytes c.args.self.now.indexes)) c.args.index (bytes_in c.get_column_slice.result.1) c.get_column_slice.ensures.slice

pub returns-then-index-count-clause-aligned : goal.returns-then-index-count-clause-aligned
returns-then-index-count-clause-aligned g c = align_left g.B.ColumnBank.bank.sides.aligns (1 ∷ 8 ∷ []) c.args.index c.get_column_slice.result.0 c.get_column_slice.ensures.aligned

pub returns-else-index-count-clause-slice : goal.returns-else-index-count-clause-slice
returns-else-index-count-clause-slice g c = flat_right (slices_of (g.B.ColumnBank.contents c.args.self.now.columns)) (slices_of (forms_content slice_bytes view_bytes c.args.self.now.indexes)) c.args.index (c.args.index - c.count_slices-count.result) (bytes_in c.get_byte_slice.result.1) (omega (arith, g.met.B.StoredBank.counted c.args.self.now.columns, c.count_slices-count.ensures, c.if-index-count.false)) c.get_byte_slice.ensures.slice

pub returns-else-index-count-clause-aligned : goal.returns-else-index-count-clause-aligned
returns-else-index-count-clause-aligned g c = align_right g.B.ColumnBank.bank.sides.aligns (1 ∷ 8 ∷ []) c.args.index (c.args.index - c.count_slices-count.result) c.get_byte_slice.result.0 (omega (arith, g.met.B.StoredBank.storable.aligned, c.count_slices-count.ensures, c.if-index-count.false)) c.get_byte_slice.ensures.aligned
