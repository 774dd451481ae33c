use Rattle.columnar_lists.specs.ListLaws.{lists_joined, lists_parts}
use Rattle.columnar_lists.proofs.vector.Vecs.into_values.Goals as goal

pub returns-clause-sound : goal.returns-clause-sound
returns-clause-sound g c = (lists_parts g.BC.Column.format g.TC.Column.format c.requires).values

pub returns-clause-rows : goal.returns-clause-rows
returns-clause-rows g c = lists_joined g.BC.Column.format g.TC.Column.format c.requires
