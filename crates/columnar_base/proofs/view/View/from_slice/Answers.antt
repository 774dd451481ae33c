use Rattle.columnar_base.specs.ElementLaws.{elements_sound}
use Rattle.columnar_base.proofs.view.View.from_slice.Goals as goal

pub returns-clause-sound : goal.returns-clause-sound
returns-clause-sound g c = elements_sound g.T.Element.row_of g.met.T.Element.element c.args.items.now
