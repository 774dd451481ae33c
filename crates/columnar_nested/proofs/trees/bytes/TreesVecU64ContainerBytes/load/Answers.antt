use Rattle.std.proofs.Common.{refl, arith, ◌+◌}
use Rattle.columnar_core.specs.Store.{slices_in}
use Rattle.columnar_nested.specs.JudgeLaws.{trees_fit, trees_viewed}
use Rattle.columnar_nested.proofs.trees.bytes.TreesVecU64ContainerBytes.load.Goals as goal

pub load-requires-2-clause-fits : goal.load-requires-2-clause-fits
load-requires-2-clause-fits g c = (trees_fit g.TC.Column.format c.args.offset (slices_in c.args.store.now) c.requires.fits).1.0

pub load-requires-3-clause-fits : goal.load-requires-3-clause-fits
load-requires-3-clause-fits g c = (trees_fit g.TC.Column.format c.args.offset (slices_in c.args.store.now) c.requires.fits).1.1

pub returns-clause-content : goal.returns-clause-content
returns-clause-content g c = trees_viewed g.TC.Column.format (slices_in c.args.store.now) c.args.offset (c.args.offset + 1) (c.args.offset + 2) refl (omega arith) c.in_ok-groups.ensures.content c.in_ok-bounds.ensures.content c.in_ok-values.ensures.content
