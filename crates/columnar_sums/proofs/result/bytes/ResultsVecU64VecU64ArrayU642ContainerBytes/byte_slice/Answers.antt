use Rattle.std.proofs.Common.{◌-◌, ◌++◌, arith}
use Rattle.columnar_core.specs.Format.{slices_of}
use Rattle.columnar_core.specs.Slices.{bytes_in}
use Rattle.columnar_core.specs.TwoPartsLaws.{flat_right}
use Rattle.columnar_sums.specs.RankColumns.{owned_ranks}
use Rattle.columnar_sums.specs.ResultLaws.{oks_representable, errs_representable}
use Rattle.columnar_sums.proofs.result.bytes.ResultsVecU64VecU64ArrayU642ContainerBytes.byte_slice.Goals as goal

pub byte_slice_of_two-requires-clause-left : goal.byte_slice_of_two-requires-clause-left
byte_slice_of_two-requires-clause-left g c = oks_representable g.SC.Column.format g.TC.Column.format c.requires.representable

pub byte_slice_of_two-requires-clause-right : goal.byte_slice_of_two-requires-clause-right
byte_slice_of_two-requires-clause-right g c = errs_representable g.SC.Column.format g.TC.Column.format c.requires.representable

pub returns-else-index-lt3-clause-slice : goal.returns-else-index-lt3-clause-slice
returns-else-index-lt3-clause-slice g c =
    let l = c.if-index-lt3.false in
    flat_right (slices_of (owned_ranks c.args.self.now.indexes)) (slices_of (g.SC.Column.content c.args.self.now.oks) ++ slices_of (g.TC.Column.content c.args.self.now.errs)) c.args.index (c.args.index - 3) (bytes_in c.byte_slice_of_two.result) (omega arith) c.byte_slice_of_two.ensures.slice
