use Rattle.std.specs.Io.KnownBytes.{Appends}
use Rattle.columnar_tool.specs.Tables.{rows_text}
use Rattle.columnar_tool.proofs.table.print_rows.Given as goal

abbrev pub invariant-loop-i : goal.invariant-loop-i
invariant-loop-i g l = Appends (g.O.WriteBytes.contents l.fn.out) (g.O.WriteBytes.contents l.out) (rows_text l.bytes l.i)
