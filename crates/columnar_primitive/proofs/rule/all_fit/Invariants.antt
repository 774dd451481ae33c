use Rattle.std.proofs.Common.{◌≡◌, ◌≤◌, ◌+◌, true, take}
use Rattle.columnar_primitive.specs.Mapped.{all_pass}
use Rattle.columnar_primitive.proofs.rule.all_fit.Given as goal

abbrev pub invariant-loop-i : goal.invariant-loop-i
invariant-loop-i g l = record {
  pass : all_pass g.T.Rule.is_code (take l.i (g.CV.Column.format.rows (g.CV.Column.content l.values))) ≡ true;
  turns : l.tally.turns ≤ l.initial.tally.turns + l.i;
}
