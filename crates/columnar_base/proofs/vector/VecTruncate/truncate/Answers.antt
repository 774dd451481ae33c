use Rattle.std.proofs.Common.{arith, ◌∙◌, sym}
use Rattle.std.specs.Vec.{vec_len, vec_capacity}
use Rattle.columnar_base.specs.RoomLaws.{elements_freed}
use Rattle.columnar_base.specs.ElementLaws.{elements_cut, length-typed}
use Rattle.columnar_base.proofs.vector.VecTruncate.truncate.Goals as goal

pub returns-clause-cut : goal.returns-clause-cut
returns-clause-cut g c = rw c.truncate.ensures.items (elements_cut g.met.T.Element.element c.args.self.now.items c.args.n (rw (length-typed g.met.T.Element.element c.args.self.now.items) at c.requires.in_range))

pub returns-clause-freed : goal.returns-clause-freed
returns-clause-freed g c =
    let e = length-typed g.met.T.Element.element c.args.self.now.items ∙ sym c.args.self.now.ok.0 in
    elements_freed _ _ c.args.n (vec_len c.args.self.now) (vec_len c.truncate.new.self) (vec_capacity c.args.self.now) (vec_capacity c.truncate.new.self) e (omega (arith, e, c.requires.in_range)) (omega (arith, c.truncate.ensures.len, e, c.requires.in_range)) (omega (arith, c.truncate.ensures.capacity))
