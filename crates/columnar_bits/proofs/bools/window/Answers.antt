use Rattle.std.proofs.Common.{◌-◌, ◌%◌, ◌<◌, ◌≤◌, ◌∙◌, arith, ⊎_elim}
use Rattle.std.proofs.lemmas.Bool.{cases_lt}
use Rattle.columnar_core.specs.WordViews.{view_bytes}
use Rattle.columnar_bits.specs.BoolLaws.{two_words, word_there, next_there, window_low, window_high}
use Rattle.columnar_bits.proofs.bools.window.Goals as goal

pub word_or_tail-requires-clause-tail : goal.word_or_tail-requires-clause-tail
word_or_tail-requires-clause-tail c = omega (arith, two_words c.requires.sound)

pub word_or_tail-requires-clause-in_range : goal.word_or_tail-requires-clause-in_range
word_or_tail-requires-clause-in_range c = word_there c.args.index c.requires.sound (omega (arith, c.requires.in_range))

pub word_or_tail-requires-else-at-count-le64-clause-tail : goal.word_or_tail-requires-else-at-count-le64-clause-tail
word_or_tail-requires-else-at-count-le64-clause-tail c = omega (arith, two_words c.requires.sound)

pub word_or_tail-requires-else-at-count-le64-clause-in_range : goal.word_or_tail-requires-else-at-count-le64-clause-in_range
word_or_tail-requires-else-at-count-le64-clause-in_range c = next_there c.args.index c.args.count c.requires.sound c.requires.in_range (omega (arith, c.if-at-count-le64.false)) c.requires.short.1

pub returns-then-at-count-le64 : goal.returns-then-at-count-le64
returns-then-at-count-le64 c = λ j l. window_low (view_bytes c.args.values) (view_bytes c.args.tail) c.args.index j c.word_or_tail.result (omega (arith, c.requires.in_range)) (omega (arith, c.if-at-count-le64.true)) c.word_or_tail.ensures

pub returns-else-at-count-le64 : goal.returns-else-at-count-le64
returns-else-at-count-le64 c = λ j l. let m = c.requires.short.1 in
    ⊎_elim (λ (p : j < 64 - c.args.index % 64). c.joined.ensures.low j p ∙ window_low (view_bytes c.args.values) (view_bytes c.args.tail) c.args.index j c.word_or_tail.result (omega (arith, c.requires.in_range)) (omega arith) c.word_or_tail.ensures)
    (λ (p : 64 - c.args.index % 64 ≤ j). c.joined.ensures.high j p (omega arith) ∙ window_high (view_bytes c.args.values) (view_bytes c.args.tail) c.args.index j c.word_or_tail-else-at-count-le64.result (omega (arith, c.requires.in_range)) (omega arith) (omega arith) c.word_or_tail-else-at-count-le64.ensures)
    (cases_lt j (64 - c.args.index % 64))
