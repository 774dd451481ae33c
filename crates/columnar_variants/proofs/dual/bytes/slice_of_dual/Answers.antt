use Rattle.std.proofs.Common.{◌-◌, ◌+◌, ◌++◌, ◌∷◌, [], refl, arith, length-append}
use Rattle.columnar_base.specs.TwoPartsLaws.{two_counted, flat_left, flat_right, align_left, align_right}
use Rattle.columnar_core.specs.Format.{slices_of}
use Rattle.columnar_core.specs.Slices.{bytes_in}
use Rattle.columnar_core.specs.WordViews.{view_bytes}
use Rattle.columnar_sums.specs.Discriminants.{forms_content}
use Rattle.columnar_variants.specs.Duals.{slice_bytes}
use Rattle.columnar_variants.specs.DualLaws.{firsts_representable, seconds_representable}
use Rattle.columnar_variants.proofs.dual.bytes.slice_of_dual.Goals as goal

pub slice_count-requires : goal.slice_count-requires
slice_count-requires g c = firsts_representable g.SC.Column.format g.TC.Column.format c.requires.representable

pub slice_count-requires-2 : goal.slice_count-requires-2
slice_count-requires-2 g c = seconds_representable g.SC.Column.format g.TC.Column.format c.requires.representable

pub slice_of_two-requires : goal.slice_of_two-requires
slice_of_two-requires g c =
    let l = c.if-index-count.true in
    let p = c.slice_count.ensures in
    let q = c.slice_count-2.ensures in
    λ k. ((refl, tt), (firsts_representable g.SC.Column.format g.TC.Column.format c.requires.representable, (seconds_representable g.SC.Column.format g.TC.Column.format c.requires.representable, omega (arith, l, p, q))))

pub returns-then-index-count-clause-slice : goal.returns-then-index-count-clause-slice
returns-then-index-count-clause-slice g c = flat_left (slices_of (g.SC.Column.content c.args.firsts.now) ++ slices_of (g.TC.Column.content c.args.seconds.now)) (slices_of (forms_content slice_bytes view_bytes c.args.indexes.now)) c.args.index (bytes_in c.slice_of_two.result.1) c.slice_of_two.ensures.slice

pub returns-then-index-count-clause-aligned : goal.returns-then-index-count-clause-aligned
returns-then-index-count-clause-aligned g c = align_left (g.SC.Column.format.aligns ++ g.TC.Column.format.aligns) (1 ∷ 8 ∷ []) c.args.index c.slice_of_two.result.0 c.slice_of_two.ensures.aligned

pub returns-else-index-count-clause-slice : goal.returns-else-index-count-clause-slice
returns-else-index-count-clause-slice g c = flat_right (slices_of (g.SC.Column.content c.args.firsts.now) ++ slices_of (g.TC.Column.content c.args.seconds.now)) (slices_of (forms_content slice_bytes view_bytes c.args.indexes.now)) c.args.index (c.args.index - (c.slice_count.result + c.slice_count-2.result)) (bytes_in c.get_byte_slice.result.1) (omega (arith, two_counted (slices_of (g.SC.Column.content c.args.firsts.now)) (slices_of (g.TC.Column.content c.args.seconds.now)) (g.met.SC.Stored.counted c.args.firsts.now) (g.met.TC.Stored.counted c.args.seconds.now), c.slice_count.ensures, c.slice_count-2.ensures, c.if-index-count.false)) c.get_byte_slice.ensures.slice

pub returns-else-index-count-clause-aligned : goal.returns-else-index-count-clause-aligned
returns-else-index-count-clause-aligned g c = align_right (g.SC.Column.format.aligns ++ g.TC.Column.format.aligns) (1 ∷ 8 ∷ []) c.args.index (c.args.index - (c.slice_count.result + c.slice_count-2.result)) c.get_byte_slice.result.0 (omega (arith, length-append g.SC.Column.format.aligns g.TC.Column.format.aligns, g.met.SC.Stored.storable.aligned, g.met.TC.Stored.storable.aligned, c.slice_count.ensures, c.slice_count-2.ensures, c.if-index-count.false)) c.get_byte_slice.ensures.aligned
