use Rattle.columnar_lists.proofs.vector.push.ArrayPushRefIntoVecs.push_ref_into.Goals as goal

pub returns-clause-ok : goal.returns-clause-ok
returns-clause-ok g c = rw (g.met.T.ArrayItem.is_list g.row.N c.args.self.now c.type_inv.self) (rw c.as_slice-items.ensures at c.push_list.ensures.ok)

pub returns-clause-err : goal.returns-clause-err
returns-clause-err g c = rw (g.met.T.ArrayItem.is_list g.row.N c.args.self.now c.type_inv.self) (rw c.as_slice-items.ensures at c.push_list.ensures.err)

pub returns-clause-wanted : goal.returns-clause-wanted
returns-clause-wanted g c = λ k. rw (g.met.T.ArrayItem.is_list g.row.N c.args.self.now c.type_inv.self) (rw c.as_slice-items.ensures at (c.push_list.ensures.wanted k))

pub returns-clause-left : goal.returns-clause-left
returns-clause-left g c = rw (g.met.T.ArrayItem.is_list g.row.N c.args.self.now c.type_inv.self) (rw c.as_slice-items.ensures at c.push_list.ensures.left)
