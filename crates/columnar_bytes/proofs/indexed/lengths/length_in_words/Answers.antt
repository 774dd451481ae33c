use Rattle.std.proofs.Common.{arith, length, ap}
use Rattle.columnar_core.specs.Format.{slices_of}
use Rattle.columnar_core.specs.WordLaws.{length-words}
use Rattle.columnar_bytes.specs.PlanLaws.{words_rest, words_done, word_count_none, word_count_some}
use Rattle.columnar_bytes.proofs.indexed.lengths.length_in_words.Goals as goal

pub returns-then-count-ge-MAX_WORDS : goal.returns-then-count-ge-MAX_WORDS
returns-then-count-ge-MAX_WORDS g c =
    let slices = slices_of (g.S.Column.content c.args.item.now) in
    word_count_none slices (omega (arith, length-words slices, c.slice_count-count.ensures))

pub loop-i-init : goal.loop-i-init
loop-i-init g c =
    let slices = slices_of (g.S.Column.content c.args.item.now) in
    record { counted = omega (arith, length-words slices, c.slice_count-count.ensures); fits = omega arith }

pub returns-then-more-total : goal.returns-then-more-total
returns-then-more-total g c =
    let slices = slices_of (g.S.Column.content c.args.item.now) in
    let rest = words_rest slices c.loop-i.i (omega (arith, c.slice_count-count.ensures)) in
    word_count_none slices (omega (arith, rest, c.words_for-more.ensures, c.len.ensures, ap length c.byte_slice.ensures, c.loop-i.invariant.counted))

pub loop-i-preserved : goal.loop-i-preserved
loop-i-preserved g c =
    let slices = slices_of (g.S.Column.content c.args.item.now) in
    let rest = words_rest slices c.loop-i.i (omega (arith, c.slice_count-count.ensures)) in
    record {
      counted = omega (arith, rest, c.words_for-more.ensures, c.len.ensures, ap length c.byte_slice.ensures, c.loop-i.invariant.counted);
      fits = omega arith;
    }

pub returns : goal.returns
returns g c =
    let slices = slices_of (g.S.Column.content c.args.item.now) in
    let done = words_done slices c.loop-i.i (omega (arith, c.slice_count-count.ensures)) in
    word_count_some slices c.loop-i.total (omega (arith, done, c.loop-i.invariant.counted)) c.loop-i.invariant.fits
