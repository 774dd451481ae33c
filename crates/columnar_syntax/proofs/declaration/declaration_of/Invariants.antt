use Rattle.std.proofs.Common.{◌≡◌, ◌≤◌, ◌-◌, length, drop}
use Rattle.columnar_syntax.specs.Declarations.{declared_in}
use Rattle.columnar_syntax.specs.Tokens.{tokens}
use Rattle.columnar_syntax.proofs.declaration.declaration_of.Given as goal

abbrev pub invariant-loop-at : goal.invariant-loop-at
invariant-loop-at l = record {
  within : l.at ≤ length l.text;
  same : declared_in l.name (tokens l.text) ≡ declared_in l.name (tokens (drop l.at l.text));
}

abbrev pub decreases-loop-at : goal.decreases-loop-at
decreases-loop-at l = length l.text - l.at
