use Rattle.std.proofs.Common.{refl, arith}
use Rattle.columnar_bits.specs.BoolLaws.{owned_bits_of, tail_more, word_more, words_grown, bools_sound}
use Rattle.columnar_bits.proofs.bools.Bools+Vec+u64+array+2+u64.push_bits.Goals as goal

pub returns-then-total-lt64-clause-ok : goal.returns-then-total-lt64-clause-ok
returns-then-total-lt64-clause-ok c =
    let f = owned_bits_of c.requires.sound c.words.ensures c.tail_parts-word.ensures.word c.tail_parts-word.ensures.count in
    (tail_more c.args.bits c.args.count f.sound f.tail_is c.tail_of-self.ensures refl (omega (arith, c.if-total-lt64.true)) (c.joined-full.ensures.below c.args.count c.requires.below (omega (arith, c.if-total-lt64.true))) c.joined-full.ensures.low c.joined-full.ensures.high).bits

pub returns-then-total-lt64-clause-full : goal.returns-then-total-lt64-clause-full
returns-then-total-lt64-clause-full c = λ h.
    let f = owned_bits_of c.requires.sound c.words.ensures c.tail_parts-word.ensures.word c.tail_parts-word.ensures.count in
    absurd (omega (arith, f.length_is, f.short, c.if-total-lt64.true))

pub returns-then-len-clause-length : goal.returns-then-len-clause-length
returns-then-len-clause-length c = λ h.
    let f = owned_bits_of c.requires.sound c.words.ensures c.tail_parts-word.ensures.word c.tail_parts-word.ensures.count in
    omega (arith, f.length_is, c.if-len.true, c.len.ensures, c.if-total-lt64.false)

pub returns-then-len-clause-no_memory : goal.returns-then-len-clause-no_memory
returns-then-len-clause-no_memory c = λ h.
    let f = owned_bits_of c.requires.sound c.words.ensures c.tail_parts-word.ensures.word c.tail_parts-word.ensures.count in
    absurd (omega (arith, f.length_is, f.few, c.if-total-lt64.false))

pub returns-clause-ok : goal.returns-clause-ok
returns-clause-ok c =
    let f = owned_bits_of c.requires.sound c.words.ensures c.tail_parts-word.ensures.word c.tail_parts-word.ensures.count in
    let g = words_grown c.args.self.now.values.items c.push.new.self.items c.joined-full.result c.in_ok-push.ensures.items c.joined-full.type_inv in
    (word_more c.joined-full.result c.args.bits c.args.count f.sound f.tail_is c.tail_of-self-2.ensures g.0 g.1 (omega (arith, f.words, f.short, c.if-len.false, c.len.ensures)) (omega (arith, c.if-total-lt64.false)) c.requires.short c.spilled-rest.ensures.below c.joined-full.ensures.low c.joined-full.ensures.high c.spilled-rest.ensures.same).bits

pub returns-clause-sound : goal.returns-clause-sound
returns-clause-sound c =
    let f = owned_bits_of c.requires.sound c.words.ensures c.tail_parts-word.ensures.word c.tail_parts-word.ensures.count in
    let g = words_grown c.args.self.now.values.items c.push.new.self.items c.joined-full.result c.in_ok-push.ensures.items c.joined-full.type_inv in
    bools_sound (word_more c.joined-full.result c.args.bits c.args.count f.sound f.tail_is c.tail_of-self-2.ensures g.0 g.1 (omega (arith, f.words, f.short, c.if-len.false, c.len.ensures)) (omega (arith, c.if-total-lt64.false)) c.requires.short c.spilled-rest.ensures.below c.joined-full.ensures.low c.joined-full.ensures.high c.spilled-rest.ensures.same).sound

pub returns-clause-full : goal.returns-clause-full
returns-clause-full c = λ h.
    let f = owned_bits_of c.requires.sound c.words.ensures c.tail_parts-word.ensures.word c.tail_parts-word.ensures.count in
    absurd (omega (arith, f.length_is, f.short, f.few, c.requires.short, c.if-len.false, c.len.ensures))

pub returns-in_err-push-clause-full : goal.returns-in_err-push-clause-full
returns-in_err-push-clause-full c = λ h.
    let f = owned_bits_of c.requires.sound c.words.ensures c.tail_parts-word.ensures.word c.tail_parts-word.ensures.count in
    absurd (omega (arith, f.length_is, f.short, f.few, c.requires.short, c.if-len.false, c.len.ensures))

pub returns-in_err-push-clause-no_memory : goal.returns-in_err-push-clause-no_memory
returns-in_err-push-clause-no_memory c = λ h.
    let f = owned_bits_of c.requires.sound c.words.ensures c.tail_parts-word.ensures.word c.tail_parts-word.ensures.count in
    absurd (omega (arith, f.length_is, f.few, c.if-total-lt64.false))

pub returns-in_err-push-clause-wanted : goal.returns-in_err-push-clause-wanted
returns-in_err-push-clause-wanted c = λ h.
    let f = owned_bits_of c.requires.sound c.words.ensures c.tail_parts-word.ensures.word c.tail_parts-word.ensures.count in
    omega (arith, f.length_is, c.if-total-lt64.false, c.in_err-push.ensures.full)
