use Rattle.std.proofs.Common.{length, map, sym, ◌∙◌}
use Rattle.std.proofs.lemmas.Bool.{eqb-true}
use Rattle.columnar_json.specs.Csv.{head_of}
use Rattle.columnar_tool.specs.LineLaws.{appended_none, line_done, no_names, not_empty, some_names}
use Rattle.columnar_tool.proofs.cat.push_names.Goals as goal

pub returns-then-is_empty : goal.returns-then-is_empty
returns-then-is_empty c = rw (no_names c.args.names.now (λ n. n.now) (eqb-true (length c.args.names.now) 0 (sym c.is_empty.ensures ∙ c.if-is_empty.true))) (appended_none c.args.head.now.items)

pub returns-in-Ok : goal.returns-in-Ok
returns-in-Ok c = rw (some_names c.args.names.now (λ n. n.now) (not_empty (length c.args.names.now) c.is_empty.result c.is_empty.ensures c.if-is_empty.false)) (line_done c.args.head.now.items c.push_head.new.out.items c.push.new.self.items (head_of (map (λ n. n.now) c.args.names.now)) c.in_ok-push_head.ensures.0 c.in-Ok.ensures.items)
