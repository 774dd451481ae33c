use Rattle.std.proofs.Common.{◌≡◌, ◌%◌, ◌<◌, ℕ, List, length, arith}
use Rattle.columnar_core.specs.WordViews.{le_bytes}
use Rattle.columnar_bits.specs.BoolColumns.{bits_in, last_count}
use Rattle.columnar_bits.specs.BoolLaws.{bools_parts, bits_length, two_words}
use Rattle.columnar_sums.specs.RankLaws.{ranks_parts, ranks_sound}
use Rattle.columnar_sums.specs.RankChangeLaws.{ranked_plain}
use Rattle.columnar_sums.proofs.rank_select.grow.Held.push_bit.Goals as goal

pub word_at-requires : goal.word_at-requires
word_at-requires c = rw c.words.ensures (omega (arith, two_words (ranks_parts c.requires).bools))

pub returns-then-word_at-lt63-clause-sound : goal.returns-then-word_at-lt63-clause-sound
returns-then-word_at-lt63-clause-sound c =
    let a : List ℕ = le_bytes c.args.self.now.values.values.items in
    let b : List ℕ = le_bytes c.args.self.now.values.tail in
    let h = c.word_at.ensures in
    let k : c.word_at.result ≡ last_count b = rw c.words.ensures at h in
    let l : length (bits_in a b) % 1024 < 1023 = omega (arith, k, c.if-word_at-lt63.true, bits_length a b) in
    ranks_sound (ranked_plain (ranks_parts c.requires) (bools_parts c.push_bit.ensures.sound) c.in_ok-push_bit.ensures.ok l).sound
