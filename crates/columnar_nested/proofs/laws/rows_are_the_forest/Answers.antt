use Rattle.columnar_base.specs.Format.{slice}
use Rattle.columnar_nested.specs.TreesLaws.{rows_laid}
use Rattle.columnar_nested.proofs.laws.rows_are_the_forest.Goals as goal

pub returns : goal.returns
returns g c = λ groups bounds values s. rows_laid g.TC.Column.format (slice (g.BC.NodeBounds.bytes groups)) (slice (g.BC.NodeBounds.bytes bounds)) (g.TC.Column.content values) s
