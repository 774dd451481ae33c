use Rattle.std.proofs.Common.{◌≡◌, string_bytes, take}
use Rattle.columnar.specs.Format.{slices_of}
use Rattle.roster.specs.Told.{slice_lines}
use Rattle.roster.proofs.roster.tell_slices.Given as goal

abbrev pub invariant-loop-index : goal.invariant-loop-index
invariant-loop-index g l = string_bytes l.text ≡ slice_lines (take l.index g.V.Column.format.aligns) (take l.index (slices_of (g.V.Column.content l.view)))
