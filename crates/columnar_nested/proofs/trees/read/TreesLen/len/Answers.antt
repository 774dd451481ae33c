use Rattle.std.proofs.Common.{◌∙◌, ap, length}
use Rattle.columnar_base.specs.Format.{slice}
use Rattle.columnar_base.specs.WordViews.{words_in}
use Rattle.columnar_nested.specs.TreesLaws.{len_trees}
use Rattle.columnar_nested.proofs.trees.read.TreesLen.len.Goals as goal

pub returns : goal.returns
returns g c =
    let x = slice (g.BC.NodeBounds.bytes c.args.self.now.groups) in
    let y = slice (g.BC.NodeBounds.bytes c.args.self.now.bounds) in
    let z = g.TC.Column.content c.args.self.now.values in
    len_trees g.TC.Column.format x y z c.requires (c.word_count.ensures.count ∙ ap (λ bs. length (words_in bs)) c.words.ensures)
