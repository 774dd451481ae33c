use Rattle.columnar_json.specs.Views.{head_by}
use Rattle.columnar_tool.specs.LineLaws.{head_printed}
use Rattle.columnar_tool.proofs.cat.print_head.Goals as goal

pub returns-in-Ok : goal.returns-in-Ok
returns-in-Ok g c = record { printed = head_printed (g.O.WriteBytes.contents c.args.out.now) (g.O.WriteBytes.contents c.put.new.out) c.in_ok-line.line.items (head_by c.args.view.now c.args.kind.now.schema) c.in_ok-line.ensures (rw c.as_slice.ensures.value at c.in-Ok.ensures.printed) }
