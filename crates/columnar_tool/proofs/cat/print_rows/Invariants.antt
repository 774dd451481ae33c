use Rattle.std.specs.Prelude.{slice_range}
use Rattle.columnar_json.specs.Refusals.{all_rows}
use Rattle.columnar_tool.specs.Lines.{Prints, lines_of}
use Rattle.columnar_tool.proofs.cat.print_rows.Given as goal

abbrev pub invariant-loop-index : goal.invariant-loop-index
invariant-loop-index g l = Prints (g.O.WriteBytes.contents l.fn.out) (g.O.WriteBytes.contents l.out) (lines_of l.view l.rows.schema.now (slice_range (all_rows l.rows) l.fn.from l.index))
