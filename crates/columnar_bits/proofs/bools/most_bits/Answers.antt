use Rattle.std.proofs.Common.{◌-◌, ◌^◌, length, arith}
use Rattle.columnar_core.specs.WordViews.{view_bytes, view_words}
use Rattle.columnar_bits.specs.BoolColumns.{bits_in}
use Rattle.columnar_bits.specs.BoolLaws.{two_words, bits_length}
use Rattle.columnar_bits.specs.RoomLaws.{capped}
use Rattle.columnar_bits.proofs.bools.most_bits.Goals as goal
use Rattle.columnar_bits.proofs.bools.most_bits.Goals.{then-word_count-eq2, else-word_count-eq2}

pub returns : goal.returns
returns c = λ s.
    let n = bits_length (view_bytes c.args.values) (view_bytes c.args.tail) in
    let t = two_words s in
    let h = s.short in
    elim c.if-word_count-eq2.branch [
      | then-word_count-eq2 w ↦ capped c.word_count-2.result c.if-word_count-eq2.last (length (bits_in (view_bytes c.args.values) (view_bytes c.args.tail))) (2 ^ 64 - 1) c.saturating_mul.result c.saturating_add.result (omega (arith, n, c.word_count-2.ensures.count, w.last-is, w.word_at.ensures)) (omega (arith, n, h)) c.saturating_mul.ensures c.saturating_add.ensures
      | else-word_count-eq2 w ↦ absurd (omega (arith, w.if-word_count-eq2.false, c.word_count.ensures.count, t))
    ]
