use Rattle.std.proofs.Common.{◌≡◌, ◌+◌, ◌/◌, ◌∙◌, ◌∷◌, ◌++◌, [], true, ℕ, List, length, arith, length-append}
use Rattle.columnar_core.specs.WordViews.{le_bytes}
use Rattle.columnar_bits.specs.BoolColumns.{bits_in}
use Rattle.columnar_bits.specs.BoolLaws.{bools_parts}
use Rattle.columnar_sums.specs.RankLaws.{ranks_parts, ranks_sound}
use Rattle.columnar_sums.specs.RankChangeLaws.{length-truths_rows}
use Rattle.columnar_sums.specs.Unary.{all_false}
use Rattle.columnar_sums.specs.UnaryBitLaws.{length-zeros}
use Rattle.columnar_sums.specs.UnaryChangeLaws.{short_ranked}
use Rattle.std.specs.Vec.{vec_capacity}
use Rattle.columnar_core.specs.ChangeLaws.{passed_on}
use Rattle.columnar_sums.specs.RankColumns.{ranked_bits}
use Rattle.columnar_sums.specs.RoomLaws.{full_of_words, ranks_more}
use Rattle.columnar_sums.proofs.unaries.grow.push_run.Goals as goal

pub returns-then-len-count-lt1023-clause-sound : goal.returns-then-len-count-lt1023-clause-sound
returns-then-len-count-lt1023-clause-sound c =
    let a : List ℕ = le_bytes c.args.bits.now.values.values.items in
    let b : List ℕ = le_bytes c.args.bits.now.values.tail in
    let n : length (all_false c.args.count ++ true ∷ []) ≡ c.args.count + 1 = length-append (all_false c.args.count) (true ∷ []) ∙ omega (arith, length-zeros c.args.count) in
    let l : (length (bits_in a b) + length (all_false c.args.count ++ true ∷ [])) / 1024 ≡ length (bits_in a b) / 1024 = omega (arith, n, c.len.ensures, length-truths_rows a b, c.if-len-count-lt1023.true) in
    ranks_sound (short_ranked (all_false c.args.count ++ true ∷ []) (ranks_parts c.requires.sound) (bools_parts c.push_short.ensures.sound) c.in_ok-push_short.ensures.ok l).sound

pub returns-in_err-push_short-clause-wanted : goal.returns-in_err-push_short-clause-wanted
returns-in_err-push_short-clause-wanted c = rw (passed_on c.from_residual.result c.from_residual.ensures.1) (full_of_words (vec_capacity c.args.bits.now.values.values) (vec_capacity c.args.bits.now.counts) (length (ranked_bits c.args.bits.now) + (c.args.count + 1)) (c.in_err-push_short.ensures.wanted (omega (arith, c.requires.short))))

pub returns-then-len-count-lt1023-clause-capacity : goal.returns-then-len-count-lt1023-clause-capacity
returns-then-len-count-lt1023-clause-capacity c = ranks_more (vec_capacity c.args.bits.now.values.values) (vec_capacity c.args.bits.now.counts) (vec_capacity c.push_short.new.values.values) (vec_capacity c.args.bits.now.counts) c.push_short.ensures.capacity (omega arith)
