use Rattle.std.proofs.Common.{◌≡◌, ◌+◌, ◌<◌, ◌≤◌, ℕ}
use Rattle.columnar_core.specs.Frame.{start_of, IsPlaced}
use Rattle.columnar_bytes.proofs.indexed.structure.validate_structure_tallied.Given as goal

abbrev pub invariant-loop-i : goal.invariant-loop-i
invariant-loop-i g l = record {
  here : l.start ≡ start_of l.bytes l.i;
  before : (j : ℕ) → j < l.i → IsPlaced l.bytes j;
  turns : l.tally.turns ≤ l.initial.tally.turns + l.i;
}
