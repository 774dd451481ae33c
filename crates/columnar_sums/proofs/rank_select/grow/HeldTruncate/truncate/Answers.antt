use Rattle.columnar_sums.specs.RankChangeLaws.{held_cut}
use Rattle.std.proofs.Common.{ap, arith, length, length-take, map}
use Rattle.std.specs.Vec.{vec_capacity}
use Rattle.std.proofs.lemmas.List.{length-map}
use Rattle.columnar_core.specs.Row.{truth}
use Rattle.columnar_bits.specs.BoolColumns.{owned_bits}
use Rattle.columnar_bits.specs.RoomLaws.{bits_freed}
use Rattle.columnar_sums.specs.RankColumns.{ranks_format, owned_ranks, ranked_bits}
use Rattle.columnar_sums.specs.RoomLaws.{ranks_more}
use Rattle.columnar_sums.proofs.rank_select.grow.HeldTruncate.truncate.Goals as goal

pub returns-clause-cut : goal.returns-clause-cut
returns-clause-cut c = held_cut c.args.self.now.counts.items c.truncate.new.self.items c.requires.sound c.truncate.ensures.items c.truncate-2.ensures.cut c.requires.in_range

pub returns-clause-freed : goal.returns-clause-freed
returns-clause-freed c =
    let l = length-map (ranked_bits c.args.self.now) truth in
    let e = ap length c.truncate-2.ensures.cut.rows in
    let n = length-take c.args.n (map truth (ranked_bits c.args.self.now)) in
    let m = length-map (owned_bits c.truncate-2.new.self) truth in
    bits_freed ranks_format (owned_ranks c.args.self.now) c.args.n (length (ranked_bits c.args.self.now)) _ _ _ l (omega (arith, l, c.requires.in_range)) (omega (arith, m, e, n, c.requires.in_range)) (ranks_more (vec_capacity c.args.self.now.values.values) (vec_capacity c.args.self.now.counts) (vec_capacity c.truncate-2.new.self.values) (vec_capacity c.truncate.new.self) c.truncate-2.ensures.capacity (omega (arith, c.truncate.ensures.capacity)))
