use Rattle.columnar_json.specs.Json.{row_at}
use Rattle.columnar_json.specs.Refusals.{all_rows}
use Rattle.columnar_json.specs.Views.{text_by}
use Rattle.columnar_tool.specs.LineLaws.{line_done}
use Rattle.columnar_tool.proofs.cat.push_line.Goals as goal

pub returns-in-Ok-push-clause-ok : goal.returns-in-Ok-push-clause-ok
returns-in-Ok-push-clause-ok c = line_done c.args.line.now.items c.write_view.new.out.items c.push.new.self.items (text_by c.args.view.now c.args.rows.now.schema.now (row_at (all_rows c.args.rows.now) c.args.index)) c.in-Ok.ensures.exact c.in-Ok-push.ensures.items
