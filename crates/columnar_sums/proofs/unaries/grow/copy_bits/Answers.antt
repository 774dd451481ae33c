use Rattle.std.specs.Vec.{vec_capacity}
use Rattle.std.proofs.lemmas.Result.{on_ok_weaker}
use Rattle.columnar_sums.specs.RoomLaws.{ranks_more}
use Rattle.columnar_sums.proofs.unaries.grow.copy_bits.Goals as goal

pub returns-clause-capacity : goal.returns-clause-capacity
returns-clause-capacity c = on_ok_weaker c.extend_ranked_tallied.result (λ h. ranks_more (vec_capacity c.args.bits.now.values.values) (vec_capacity c.args.bits.now.counts) (vec_capacity c.extend_ranked_tallied.new.self.values.values) (vec_capacity c.extend_ranked_tallied.new.self.counts) h.0 h.1) c.extend_ranked_tallied.ensures.capacity
