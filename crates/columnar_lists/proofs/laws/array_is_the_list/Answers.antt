use Rattle.columnar_lists.proofs.laws.array_is_the_list.Goals as goal

pub returns : goal.returns
returns g c = g.met.T.ArrayItem.is_list g.row.N c.args._array.now c.type_inv._array
