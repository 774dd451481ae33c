use Rattle.columnar_tool.specs.LineLaws.{appended_none}
use Rattle.columnar_tool.proofs.cat.push_line_before.Goals as goal

pub returns-in-Json : goal.returns-in-Json
returns-in-Json c = rw c.in-Json.is (appended_none c.args.line.now.items)
