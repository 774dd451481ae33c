use Rattle.std.proofs.Common.{◌≡◌, ◌%◌, ◌^◌, take, sum_by}
use Rattle.event_log.specs.Counting.{at_level}
use Rattle.event_log.specs.Levels.{level_number}
use Rattle.event_log.proofs.counts.rows_at.Given as goal

abbrev pub invariant-loop-index : goal.invariant-loop-index
invariant-loop-index g l = l.count ≡ sum_by (at_level (level_number l.level)) (take l.index (g.V.Column.format.rows (g.V.Column.content l.rows))) % 2 ^ 64
