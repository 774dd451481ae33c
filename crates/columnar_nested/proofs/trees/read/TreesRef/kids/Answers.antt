use Rattle.std.proofs.Common.{arith}
use Rattle.columnar_base.specs.WordViews.{words_in}
use Rattle.columnar_nested.specs.Refs.{node_at}
use Rattle.columnar_nested.specs.RefLaws.{seen_kids}
use Rattle.columnar_nested.specs.TreeRowLaws.{length-kids}
use Rattle.columnar_nested.proofs.trees.read.TreesRef.kids.Goals as goal

pub returns : goal.returns
returns g c =
    let vs = g.V.Column.format.rows (g.V.Column.content c.args.self.now.values) in
    let k = seen_kids vs c.requires.stands in
    let l = length-kids (node_at (words_in (g.B.NodeBounds.bytes c.args.self.now.bounds)) vs c.args.self.now.index) in
    omega (arith, k, l)
