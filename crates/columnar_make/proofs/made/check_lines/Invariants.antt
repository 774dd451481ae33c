use Rattle.std.proofs.Common.{drop}
use Rattle.columnar_json.specs.Refusals.{all_rows}
use Rattle.columnar_make.specs.Lines.{HasLines}
use Rattle.columnar_make.proofs.made.check_lines.Given as goal

-- if the rows from here on have the lines that are left, all rows have all lines
abbrev pub invariant-loop-index : goal.invariant-loop-index
invariant-loop-index l = HasLines l.rows.schema.now (drop l.index (all_rows l.rows)) l.rest → HasLines l.rows.schema.now (all_rows l.rows) l.fn.text
