use Rattle.std.proofs.Common.{◌+◌, ◌∙◌, ap, length, length-append, map, arith}
use Rattle.columnar_core.specs.Row.{truth}
use Rattle.columnar_sums.specs.RankColumns.{owned_ranks, ranks_bits, ranked_bits}
use Rattle.columnar_sums.specs.RankLaws.{ranks_parts}
use Rattle.columnar_sums.specs.RankChangeLaws.{ranks_grew}
use Rattle.columnar_sums.specs.Unary.{all_false}
use Rattle.columnar_sums.specs.UnaryChangeLaws.{run_undone}
use Rattle.std.specs.Prelude.{Err}
use Rattle.std.specs.Vec.{vec_capacity}
use Rattle.columnar_core.specs.ChangeLaws.{passed_on}
use Rattle.columnar_core.specs.Format.{Content}
use Rattle.columnar_core.specs.WordViews.{le_bytes}
use Rattle.columnar_sums.specs.RankChangeLaws.{length-truths_rows}
use Rattle.columnar_sums.specs.RoomLaws.{ranks_more}
use Rattle.columnar_sums.specs.UnaryBitLaws.{length-zeros}
use Rattle.columnar_sums.specs.UnaryRoomLaws.{wanted_few}
use Rattle.columnar_sums.proofs.unaries.grow.push_long.Goals as goal
use Rattle.columnar_sums.proofs.unaries.grow.push_long.Goals.{in-Ok, in-Err}

pub returns-clause-err : goal.returns-clause-err
returns-clause-err c =
    let g = ranks_grew (record { sound = ranks_parts c.extend_falses.ensures.sound; bits = c.in_ok-extend_falses.ensures.ok }) in
    elim c.match-push_bit.branch [
      | in-Ok w ↦ rw w.result-is tt
      | in-Err w ↦ rw (w.result-is, w.bits-is) (run_undone (owned_ranks c.args.bits.now) (owned_ranks c.make_room.new.bits) (owned_ranks c.extend_falses.new.bits) (owned_ranks c.push_bit.new.self) (owned_ranks w.truncate.new.self) (map truth (all_false c.args.count)) c.len-before.result c.make_room.ensures.same c.requires.sound g w.in-Err.ensures.err c.len-before.ensures w.truncate.ensures.cut)
    ]

pub returns-in_err-make_room-clause-wanted : goal.returns-in_err-make_room-clause-wanted
returns-in_err-make_room-clause-wanted c =
    let l = length-truths_rows (le_bytes c.args.bits.now.values.values.items) (le_bytes c.args.bits.now.values.tail) in
    rw (passed_on c.from_residual.result c.from_residual.ensures.1) (omega (arith, c.in_err-make_room.ensures.wanted, c.len-before.ensures, l))

pub returns-in_err-extend_falses-clause-wanted : goal.returns-in_err-extend_falses-clause-wanted
returns-in_err-extend_falses-clause-wanted c =
    let e = ap (λ (x : Content). length (ranks_bits x)) c.make_room.ensures.same in
    rw (passed_on c.from_residual-in_err-extend_falses.result c.from_residual-in_err-extend_falses.ensures.1) (omega (arith, c.in_err-extend_falses.ensures.wanted, c.make_room.ensures.capacity, e))

pub returns-clause-wanted : goal.returns-clause-wanted
returns-clause-wanted c =
    let e = ap (λ (x : Content). length (ranks_bits x)) c.make_room.ensures.same in
    let l = ap length c.in_ok-extend_falses.ensures.ok ∙ length-append (ranked_bits c.make_room.new.bits) (all_false c.args.count) in
    let z = length-zeros c.args.count in
    elim c.match-push_bit.branch [
      | in-Ok w ↦ rw w.result-is tt
      | in-Err w ↦ rw w.result-is (
          let h = wanted_few (length (ranked_bits c.extend_falses.new.bits) + 1) _ w.in-Err.ensures.kinds (λ x. w.in-Err.ensures.length (ap Err x)) (λ x. w.in-Err.ensures.wanted (ap Err x)) (omega (arith, e, l, z, c.requires.short)) in
          omega (arith, h, e, l, z, c.make_room.ensures.capacity, c.extend_falses.ensures.capacity)
          )
    ]

pub returns-clause-capacity : goal.returns-clause-capacity
returns-clause-capacity c =
    elim c.match-push_bit.branch [
      | in-Ok w ↦ rw (w.result-is, w.bits-is) (omega (arith, c.make_room.ensures.capacity, c.extend_falses.ensures.capacity, ranks_more (vec_capacity c.extend_falses.new.bits.values.values) (vec_capacity c.extend_falses.new.bits.counts) (vec_capacity c.push_bit.new.self.values.values) (vec_capacity c.push_bit.new.self.counts) c.push_bit.ensures.capacity.0 c.push_bit.ensures.capacity.1))
      | in-Err w ↦ rw w.result-is tt
    ]
