use Rattle.columnar_syntax.specs.ReadingLaws.{word_begins, word_bytes, word_read, word_stands}
use Rattle.columnar_syntax.proofs.scan.word_span.Goals as goal

pub returns-clause-stands : goal.returns-clause-stands
returns-clause-stands c = word_stands c.args.text.now c.args.at c.after_blanks-start.result c.word_end.result c.after_blanks-start.ensures.same c.word_end.ensures.ends

pub returns-clause-word : goal.returns-clause-word
returns-clause-word c = word_bytes c.args.text.now c.after_blanks-start.result c.word_end.result c.word_end.ensures.ends

pub returns-clause-begins : goal.returns-clause-begins
returns-clause-begins c = word_begins c.args.text.now c.after_blanks-start.result c.word_end.result c.word_end.ensures.ends

pub returns-clause-passes : goal.returns-clause-passes
returns-clause-passes c w x = word_read c.args.text.now c.args.at c.after_blanks-start.result c.word_end.result w x c.after_blanks-start.ensures.same c.after_blanks-start.ensures.ends c.word_end.ensures.ends
