use Rattle.std.proofs.Common.{arith, ◌∙◌, sym}
use Rattle.std.specs.Vec.{vec_len, vec_capacity}
use Rattle.columnar_base.specs.ElementLaws.{length-typed}
use Rattle.columnar_base.specs.RoomLaws.{elements_freed}
use Rattle.columnar_base.proofs.vector.VecClear.clear.Goals as goal

pub returns-clause-freed : goal.returns-clause-freed
returns-clause-freed g c = elements_freed _ _ 0 (vec_len c.args.self.now) (vec_len c.clear.new.self) (vec_capacity c.args.self.now) (vec_capacity c.clear.new.self) (length-typed g.met.T.Element.element c.args.self.now.items ∙ sym c.args.self.now.ok.0) (omega arith) c.clear.ensures.len (omega (arith, c.clear.ensures.capacity))
