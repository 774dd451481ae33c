use Rattle.columnar_sums.specs.RankChangeLaws.{none_ranked}
use Rattle.std.proofs.Common.{ap, arith, length}
use Rattle.std.specs.Vec.{vec_capacity}
use Rattle.std.proofs.lemmas.List.{length-map}
use Rattle.columnar_core.specs.Row.{truth}
use Rattle.columnar_bits.specs.BoolColumns.{owned_bits}
use Rattle.columnar_bits.specs.RoomLaws.{bits_freed}
use Rattle.columnar_sums.specs.RankColumns.{ranks_format, owned_ranks, ranked_bits}
use Rattle.columnar_sums.specs.RoomLaws.{ranks_more}
use Rattle.columnar_sums.proofs.rank_select.grow.HeldClear.clear.Goals as goal

pub returns-clause-sound : goal.returns-clause-sound
returns-clause-sound c = none_ranked c.clear.new.self.items c.clear.ensures.items c.clear-2.ensures.sound c.clear-2.ensures.rows

pub returns-clause-freed : goal.returns-clause-freed
returns-clause-freed c =
    let z = ap length c.clear-2.ensures.rows in
    let m = length-map (owned_bits c.clear-2.new.self) truth in
    bits_freed ranks_format (owned_ranks c.args.self.now) 0 (length (ranked_bits c.args.self.now)) _ _ _ (length-map (ranked_bits c.args.self.now) truth) (omega arith) (omega (arith, z, m)) (ranks_more (vec_capacity c.args.self.now.values.values) (vec_capacity c.args.self.now.counts) (vec_capacity c.clear-2.new.self.values) (vec_capacity c.clear.new.self) c.clear-2.ensures.capacity (omega (arith, c.clear.ensures.capacity)))
