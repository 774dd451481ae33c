use Rattle.std.proofs.Common.{◌≤◌}
use Rattle.columnar_tool.proofs.cli.test_files.Given as goal

abbrev pub invariant-loop-path : goal.invariant-loop-path
invariant-loop-path g l = l.status ≤ 1
