use Rattle.std.proofs.Common.{◌≡◌, ◌<◌, length, rules}
use Rattle.columnar_json.specs.Refusals.{all_rows}
use Rattle.columnar_make.specs.LineLaws.{line_taken, lines_ended}
use Rattle.columnar_make.proofs.made.check_lines.Goals as goal

pub loop-index-preserved : goal.loop-index-preserved
loop-index-preserved c = λ h.
    let within : c.loop-index.index < length (all_rows c.in-Ok.rows) = search rules in
    let some : 0 < length c.loop-index.rest.now = search rules in
    c.loop-index.invariant (line_taken c.in-Ok.rows.schema.now (all_rows c.in-Ok.rows) c.loop-index.index c.loop-index.rest.now c.first_line.result.0.now c.first_line.result.1.now within some c.first_line.ensures.line c.first_line.ensures.parts c.in-Ok-check_line.ensures h)

pub returns-then-is_empty-2-clause-lines : goal.returns-then-is_empty-2-clause-lines
returns-then-is_empty-2-clause-lines c =
    let at_end : c.loop-index.index ≡ length (all_rows c.in-Ok.rows) = search rules in
    let none : length c.loop-index.rest.now ≡ 0 = search rules in
    let lines = c.loop-index.invariant (lines_ended c.in-Ok.rows.schema.now (all_rows c.in-Ok.rows) c.loop-index.index c.loop-index.rest.now at_end none) in
    rw (c.in-Ok.ensures.same.0, c.in-Ok.ensures.same.1) at lines
