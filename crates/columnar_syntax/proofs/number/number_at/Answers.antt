use Rattle.std.proofs.Common.{◌≡◌, arith}
use Rattle.columnar_syntax.specs.NumberLaws.{digits_begin, written}
use Rattle.columnar_syntax.proofs.number.number_at.Goals as goal

pub returns-in-Some-clause-passes : goal.returns-in-Some-clause-passes
returns-in-Some-clause-passes c d rest n e w h = (c.word_span-start.ensures.passes d rest e (digits_begin d n w)).1

pub returns-in_default-clause-passes : goal.returns-in_default-clause-passes
returns-in_default-clause-passes c d rest n e w h =
    let taken = c.word_span-start.ensures.passes d rest e (digits_begin d n w) in
    let same : n ≡ c.in-Some.number = written _ d n c.in-Some.number taken.0 w c.in-Some.ensures.some in
    absurd (omega (arith, same, h, c.if-number-most.false))

pub returns-in_default-2-clause-passes : goal.returns-in_default-2-clause-passes
returns-in_default-2-clause-passes c d rest n e w h =
    let taken = c.word_span-start.ensures.passes d rest e (digits_begin d n w) in
    c.in_default.ensures.none n (omega (arith, h, c.ranges.most.fits)) (rw taken.0 w)
