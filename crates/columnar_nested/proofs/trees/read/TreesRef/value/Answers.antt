use Rattle.std.proofs.Common.{◌∙◌}
use Rattle.columnar_nested.specs.RefLaws.{seen_value}
use Rattle.columnar_nested.proofs.trees.read.TreesRef.value.Goals as goal

pub returns-clause-row : goal.returns-clause-row
returns-clause-row g c =
    let v = seen_value (g.V.Column.format.rows (g.V.Column.content c.args.self.now.values)) c.requires.stands in
    let e = c.get.ensures.row in
    cc
