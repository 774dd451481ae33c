use Rattle.columnar_lists.specs.PieceLaws.{rows_cut}
use Rattle.columnar_lists.proofs.laws.rows_are_the_cut.Goals as goal

pub returns : goal.returns
returns g c = λ bounds values s. rows_cut g.BC.Column.format g.TC.Column.format (g.BC.Column.content bounds) (g.TC.Column.content values) s
