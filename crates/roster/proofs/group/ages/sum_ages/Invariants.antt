use Rattle.std.proofs.Common.{◌≡◌, ◌+◌, ◌%◌, ◌^◌, take, sum_by}
use Rattle.roster.proofs.group.ages.sum_ages.Given as goal

abbrev pub invariant-loop-index : goal.invariant-loop-index
invariant-loop-index g l = l.sum ≡ (0 + sum_by g.V.Ref.Aged.ages (take l.index (g.V.Column.format.rows (g.V.Column.content l.rows)))) % 2 ^ 64
