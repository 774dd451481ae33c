use Rattle.std.proofs.Common.{◌≡◌, ◌+◌, ◌-◌, ℕ, arith}
use Rattle.columnar_bits.specs.BoolLaws.{owned_bits_of, word_more, words_grown, bools_sound}
use Rattle.columnar_bits.proofs.bools.Bools+Vec+u64+array+2+u64.append_word.Goals as goal

pub returns-clause-bits : goal.returns-clause-bits
returns-clause-bits c =
    let f = owned_bits_of c.requires.sound c.words.ensures c.tail_parts-word.ensures.word c.tail_parts-word.ensures.count in
    let g = words_grown c.args.self.now.values.items c.push_reserved.new.self.items c.joined.result c.push_reserved.ensures.items c.joined.type_inv in
    let have : ℕ = c.tail_parts-word.result.1 in
    let e : have + 64 - 64 ≡ have = omega arith in
    (word_more c.joined.result c.args.bits 64 f.sound f.tail_is c.tail_of-self.ensures g.0 g.1 (omega (arith, f.words, f.length_is, c.requires.short)) (omega arith) (omega arith) (rw e at c.spilled.ensures.below) c.joined.ensures.low c.joined.ensures.high (rw e at c.spilled.ensures.same)).bits

pub returns-clause-sound : goal.returns-clause-sound
returns-clause-sound c =
    let f = owned_bits_of c.requires.sound c.words.ensures c.tail_parts-word.ensures.word c.tail_parts-word.ensures.count in
    let g = words_grown c.args.self.now.values.items c.push_reserved.new.self.items c.joined.result c.push_reserved.ensures.items c.joined.type_inv in
    let have : ℕ = c.tail_parts-word.result.1 in
    let e : have + 64 - 64 ≡ have = omega arith in
    bools_sound (word_more c.joined.result c.args.bits 64 f.sound f.tail_is c.tail_of-self.ensures g.0 g.1 (omega (arith, f.words, f.length_is, c.requires.short)) (omega arith) (omega arith) (rw e at c.spilled.ensures.below) c.joined.ensures.low c.joined.ensures.high (rw e at c.spilled.ensures.same)).sound
