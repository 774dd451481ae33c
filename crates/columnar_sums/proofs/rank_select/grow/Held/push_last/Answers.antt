use Rattle.std.proofs.Common.{◌%◌, ◌<◌, ℕ, List, length, arith}
use Rattle.columnar_core.specs.WordViews.{le_bytes}
use Rattle.columnar_bits.specs.BoolColumns.{bits_in}
use Rattle.columnar_bits.specs.BoolLaws.{bools_parts}
use Rattle.columnar_sums.specs.RankLaws.{ranks_parts, ranks_sound}
use Rattle.columnar_sums.specs.RankChangeLaws.{ranked_plain, length-truths_rows}
use Rattle.columnar_sums.proofs.rank_select.grow.Held.push_last.Goals as goal

pub returns-then-len-lt1023-clause-sound : goal.returns-then-len-lt1023-clause-sound
returns-then-len-lt1023-clause-sound c =
    let a : List ℕ = le_bytes c.args.self.now.values.values.items in
    let b : List ℕ = le_bytes c.args.self.now.values.tail in
    let l : length (bits_in a b) % 1024 < 1023 = omega (arith, c.if-len-lt1023.true, c.len.ensures, length-truths_rows a b) in
    ranks_sound (ranked_plain (ranks_parts c.requires) (bools_parts c.push_bit.ensures.sound) c.in_ok-push_bit.ensures.ok l).sound
