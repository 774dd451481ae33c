use Rattle.std.proofs.Common.{◌-◌, ◌++◌, refl, arith}
use Rattle.columnar_core.specs.Format.{slices_of}
use Rattle.columnar_core.specs.Slices.{bytes_in}
use Rattle.columnar_core.specs.TwoPartsLaws.{flat_right}
use Rattle.columnar_core.specs.WordViews.{view_bytes}
use Rattle.columnar_sums.specs.RankColumns.{ranks_content}
use Rattle.columnar_sums.specs.ResultLaws.{oks_representable, errs_representable}
use Rattle.columnar_sums.proofs.result.bytes.ResultsViewU64ViewU64ViewU64AsBytes.get_byte_slice.Goals as goal

pub slice_of_two-requires : goal.slice_of_two-requires
slice_of_two-requires g c =
    let l = c.if-index-lt3.false in
    let m = c.requires.in_range in
    λ k. ((refl, tt), (oks_representable g.SC.Column.format g.TC.Column.format c.requires.representable, (errs_representable g.SC.Column.format g.TC.Column.format c.requires.representable, omega arith)))

pub returns-else-index-lt3-clause-slice : goal.returns-else-index-lt3-clause-slice
returns-else-index-lt3-clause-slice g c =
    let l = c.if-index-lt3.false in
    flat_right (slices_of (ranks_content view_bytes view_bytes view_bytes c.args.self.now.indexes)) (slices_of (g.SC.Column.content c.args.self.now.oks) ++ slices_of (g.TC.Column.content c.args.self.now.errs)) c.args.index (c.args.index - 3) (bytes_in c.slice_of_two.result.1) (omega arith) c.slice_of_two.ensures.slice
