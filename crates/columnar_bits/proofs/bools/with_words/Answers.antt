use Rattle.std.proofs.Common.{◌+◌, ◌*◌, ◌∙◌, arith}
use Rattle.columnar_bits.specs.Bits.{bit}
use Rattle.columnar_bits.specs.BitLaws.{copy_more}
use Rattle.columnar_core.specs.WordViews.{view_bytes}
use Rattle.columnar_bits.specs.BoolLaws.{bits_length}
use Rattle.columnar_bits.proofs.bools.with_words.Goals as goal

pub loop-i-preserved : goal.loop-i-preserved
loop-i-preserved g c =
    let i = c.loop-i.invariant in
    record {
      bits = copy_more _ _ _ _ (bit c.taken.result) c.args.start (c.args.start + 64 * c.loop-i.i) _ 64 i.bits c.append_word.ensures.bits c.taken.ensures.bits (omega arith) (omega arith);
      sound = c.append_word.ensures.sound;
      room = omega (arith, c.append_word.ensures.len, c.append_word.ensures.capacity, i.room);
      capacity = c.append_word.ensures.capacity ∙ i.capacity;
      turns = omega (arith, i.turns, c.tick.ensures);
    }

pub overflow_add-start : goal.overflow_add-start
overflow_add-start g c = omega (arith, c.requires.in_range, c.requires.other.short, bits_length (view_bytes c.args.values) (view_bytes c.args.tail), c.loop-i-test.true)
