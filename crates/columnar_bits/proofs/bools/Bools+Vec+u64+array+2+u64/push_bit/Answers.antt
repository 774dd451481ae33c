use Rattle.std.proofs.Common.{refl, arith}
use Rattle.columnar_bits.specs.BoolLaws.{owned_bits_of, tail_more}
use Rattle.columnar_bits.proofs.bools.Bools+Vec+u64+array+2+u64.push_bit.Goals as goal

pub returns-then-have-lt63-clause-ok : goal.returns-then-have-lt63-clause-ok
returns-then-have-lt63-clause-ok c =
    let f = owned_bits_of c.requires c.words.ensures c.tail_parts-word.ensures.word c.tail_parts-word.ensures.count in
    rw c.one_bit.ensures.bits at (tail_more c.one_bit.result 1 f.sound f.tail_is c.tail_of-self.ensures refl (omega (arith, c.if-have-lt63.true)) (c.joined.ensures.below 1 c.one_bit.ensures.below (omega (arith, c.if-have-lt63.true))) c.joined.ensures.low c.joined.ensures.high).bits

pub returns-then-have-lt63-clause-full : goal.returns-then-have-lt63-clause-full
returns-then-have-lt63-clause-full c = λ h.
    let f = owned_bits_of c.requires c.words.ensures c.tail_parts-word.ensures.word c.tail_parts-word.ensures.count in
    absurd (omega (arith, f.length_is, f.short, c.if-have-lt63.true))

pub returns-clause-ok : goal.returns-clause-ok
returns-clause-ok c = rw c.one_bit-2.ensures.bits at c.push_bits.ensures.ok
