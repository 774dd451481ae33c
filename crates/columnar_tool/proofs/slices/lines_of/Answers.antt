use Rattle.columnar_tool.specs.SliceLaws.{slice_told}
use Rattle.columnar_tool.proofs.slices.lines_of.Goals as goal

pub loop-index-preserved : goal.loop-index-preserved
loop-index-preserved c = slice_told c.args.sizes.now c.loop-index.index _ _ c.as_str.result.now c.loop-index-test.true c.loop-index.invariant c.in_ok-push_line.ensures
