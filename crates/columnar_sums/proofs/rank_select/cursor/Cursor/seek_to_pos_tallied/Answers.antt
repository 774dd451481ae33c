use Rattle.std.proofs.Common.{◌≤◌, ℕ, List, length, arith}
use Rattle.columnar_bits.specs.BoolColumns.{bits_in}
use Rattle.columnar_bits.specs.BoolLaws.{bits_length}
use Rattle.columnar_sums.specs.RankLaws.{length-ranks}
use Rattle.columnar_sums.specs.CursorLaws.{stands_words, stands_skipped}
use Rattle.columnar_sums.proofs.rank_select.cursor.Cursor.seek_to_pos_tallied.Goals as goal

pub overflow_add-self : goal.overflow_add-self
overflow_add-self g c =
    let a : List ℕ = g.VC.Words.bytes c.self.inside.column.now.values.values in
    let b : List ℕ = g.WC.Words.bytes c.self.inside.column.now.values.tail in
    let l : c.skip_in.new.place.pos ≤ length (bits_in a b) = omega (arith, c.skip_in.ensures.pos, c.len-len.ensures, length-ranks a b, bits_length a b) in
    omega (arith, (stands_skipped c.skip_in.result c.self.invariant c.metered_words.ensures l c.skip_in.ensures.at (omega (arith, c.skip_in.ensures.index, c.skip_in.ensures.pos, c.if-end-place.true)) (rw (← c.skip_in.ensures.pos) at c.skip_in.ensures.passed)).1)

pub invariant_of-self : goal.invariant_of-self
invariant_of-self g c =
    let a : List ℕ = g.VC.Words.bytes c.self.inside.column.now.values.values in
    let b : List ℕ = g.WC.Words.bytes c.self.inside.column.now.values.tail in
    let l : c.skip_in.new.place.pos ≤ length (bits_in a b) = omega (arith, c.skip_in.ensures.pos, c.len-len.ensures, length-ranks a b, bits_length a b) in
    (stands_skipped c.skip_in.result c.self.invariant c.metered_words.ensures l c.skip_in.ensures.at (omega (arith, c.skip_in.ensures.index, c.skip_in.ensures.pos, c.if-end-place.true)) (rw (← c.skip_in.ensures.pos) at c.skip_in.ensures.passed)).0

pub place_at-self-inside-requires : goal.place_at-self-inside-requires
place_at-self-inside-requires g c =
    let a : List ℕ = g.VC.Words.bytes c.self.inside.column.now.values.values in
    let b : List ℕ = g.WC.Words.bytes c.self.inside.column.now.values.tail in
    omega (arith, (stands_words c.self.invariant c.metered_words-else-end-place.ensures).3, c.len-len.ensures, c.min-end.ensures, length-ranks a b, bits_length a b)
