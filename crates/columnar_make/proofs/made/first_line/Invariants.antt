use Rattle.std.proofs.Common.{ℕ, ◌≢◌, ◌<◌, slice_index_or}
use Rattle.columnar_make.proofs.made.first_line.Given as goal

-- no end of a line so far
abbrev pub invariant-loop-index : goal.invariant-loop-index
invariant-loop-index l = (k : ℕ) (d : ℕ) → k < l.index → slice_index_or l.text k d ≢ 10
