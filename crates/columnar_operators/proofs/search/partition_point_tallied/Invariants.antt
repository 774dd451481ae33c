use Rattle.std.proofs.Common.{◌≡◌, ◌+◌, ◌-◌, ◌≤◌, Bool, true, false, length}
use Rattle.std.specs.List.{AllWithin}
use Rattle.std.specs.List.Sorted.{IsPartitionedBy}
use Rattle.columnar_base.specs.Digits.{digits}
use Rattle.columnar_base.specs.Row.{Row}
use Rattle.columnar_operators.specs.Searches.{AnswersBy}
use Rattle.columnar_operators.specs.SearchLaws.{Narrowed}
use Rattle.columnar_operators.proofs.search.partition_point_tallied.Given as goal

abbrev pub invariant-loop-start : goal.invariant-loop-start
invariant-loop-start g l =
    let rows = g.S.Column.format.rows (g.S.Column.content l.column) in
    record {
      ordered : l.start ≤ l.«end»;
      within : l.«end» ≤ length rows;
      turns : l.tally.turns + digits (l.«end» - l.start) ≤ l.initial.tally.turns + digits (length rows);
      narrowed : (p : Row → Bool) → AnswersBy g.P.FnMut g.S.Ref.Item.meaning p l.initial.pred → AnswersBy g.P.FnMut g.S.Ref.Item.meaning p l.pred × (IsPartitionedBy p rows → Narrowed p rows l.start l.«end»);
    }

abbrev pub decreases-loop-start : goal.decreases-loop-start
decreases-loop-start g l = l.«end» - l.start
