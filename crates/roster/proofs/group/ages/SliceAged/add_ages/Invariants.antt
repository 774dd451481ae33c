use Rattle.std.proofs.Common.{◌≡◌, ◌+◌, ◌%◌, ◌^◌, take, sum_by}
use Rattle.columnar.specs.Format.{part, part_rows}
use Rattle.roster.proofs.group.ages.SliceAged.add_ages.Given as goal

abbrev pub invariant-loop-index : goal.invariant-loop-index
invariant-loop-index g l = l.sum ≡ (l.before + sum_by g.W.Ref.Aged.ages (take l.index (part_rows g.W.Column.format (part l.self.lower l.self.upper (g.W.Column.content l.self.slice))))) % 2 ^ 64
