use Rattle.columnar_c.specs.AnswerLaws.{unread_text}
use Rattle.columnar_c.specs.RowAnswerLaws.{told_text}
use Rattle.columnar_c.proofs.json.columnar_row_json.Goals as goal

pub returns-in-Ok-row_text-clause-told : goal.returns-in-Ok-row_text-clause-told
returns-in-Ok-row_text-clause-told c = λ _. told_text c.args.bounds c.args.text.now c.args.bytes.now c.in-Ok.it.schema c.args.index c.in-Ok-row_text.line.items c.args.out.now c.put.new.out c.put.result c.put.new.written c.no_fault.result.rule c.no_fault.result.slice c.in-Some.ensures c.in-Ok.ensures.names c.in-Ok-row_text.ensures.text (rw c.as_slice.ensures.value at c.put.ensures.fits) (rw c.as_slice.ensures.value at c.put.ensures.short) (rw c.as_slice.ensures.value at c.put.ensures.written)

pub returns-clause-untyped : goal.returns-clause-untyped
returns-clause-untyped c = unread_text c.in-Some.lists c.args.bounds c.args.text.now c.unread.result c.in-Err.refused.mistake c.in-Some.ensures c.in-Err.ensures.whole c.unread.ensures.refused
