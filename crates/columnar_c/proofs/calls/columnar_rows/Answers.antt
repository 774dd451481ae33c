use Rattle.std.proofs.Common.{refl}
use Rattle.columnar_c.specs.AnswerLaws.{counted_accepted, unread_text}
use Rattle.columnar_c.proofs.calls.columnar_rows.Goals as goal

pub returns-in-Ok-count_rows-clause-counted : goal.returns-in-Ok-count_rows-clause-counted
returns-in-Ok-count_rows-clause-counted c = λ _. counted_accepted c.in-Some.lists c.args.bounds c.args.text.now c.args.bytes.now c.in-Ok.it.schema c.in-Ok-count_rows.count c.no_fault.result.rule c.no_fault.result.slice c.in-Some.ensures c.in-Ok.ensures.names (c.in-Ok-count_rows.ensures.exact.0 refl) c.in-Ok-count_rows.ensures.rows

pub returns-clause-untyped : goal.returns-clause-untyped
returns-clause-untyped c = unread_text c.in-Some.lists c.args.bounds c.args.text.now c.unread.result c.in-Err.refused.mistake c.in-Some.ensures c.in-Err.ensures.whole c.unread.ensures.refused
