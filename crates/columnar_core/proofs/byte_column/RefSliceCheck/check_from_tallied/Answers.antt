use Rattle.columnar_base.specs.ElementLaws.{typed_fine}
use Rattle.columnar_core.proofs.byte_column.RefSliceCheck.check_from_tallied.Goals as goal

pub returns-clause-exact : goal.returns-clause-exact
returns-clause-exact g c = typed_fine g.T.Element.row_of g.met.T.Element.element c.args.self.now.now c.args._from
