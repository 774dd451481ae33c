use Rattle.std.proofs.Common.{◌≡◌, ◌-◌, ◌≤◌, arith}
use Rattle.columnar_sums.specs.UnaryBitLaws.{rank_next, ends_next, ends_done}
use Rattle.columnar_sums.proofs.unaries.ends.UnaryEnds.next_tallied.Goals as goal
use Rattle.columnar_sums.proofs.unaries.ends.UnaryEnds.next_tallied.Goals.{in-Some, in-None}

pub overflow_sub-result : goal.overflow_sub-result
overflow_sub-result g c = (rank_next c.self.inside.cursor c.next_one_tallied.new.self c.in-Some.place c.trues_before.result c.in-Some.ensures.bits.0 c.in-Some.ensures.found.0 c.in-Some.ensures.found.1 c.trues_before.ensures).0

pub overflow_sub-result-in-Some : goal.overflow_sub-result-in-Some
overflow_sub-result-in-Some g c = (rank_next c.self.inside.cursor c.next_one_tallied.new.self c.in-Some.place c.trues_before.result c.in-Some.ensures.bits.0 c.in-Some.ensures.found.0 c.in-Some.ensures.found.1 c.trues_before.ensures).1

pub returns-clause-some : goal.returns-clause-some
returns-clause-some g c =
    elim c.match-next_one_tallied.branch [
      | in-Some w ↦ rw (w.result-is, ← c.self.view_is) (ends_next c.self.inside.cursor c.next_one_tallied.new.self w.in-Some.place w.trues_before.result w.in-Some.ensures.bits.0 w.in-Some.ensures.found.0 w.in-Some.ensures.found.1 w.trues_before.ensures)
      | in-None w ↦ rw w.result-is tt
    ]

pub returns-clause-none : goal.returns-clause-none
returns-clause-none g c =
    elim c.match-next_one_tallied.branch [
      | in-Some w ↦ rw w.result-is tt
      | in-None w ↦ rw (w.result-is, ← c.self.view_is) (ends_done c.self.inside.cursor c.next_one_tallied.new.self w.in-None.ensures.bits.0 w.in-None.ensures.none.0 (omega (arith, w.in-None.ensures.none.1)))
    ]
