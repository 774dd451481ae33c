use Rattle.std.proofs.Common.{◌-◌, ◌/◌, ℕ, List, length, arith, ◌+◌}
use Rattle.columnar_core.specs.ChangeLaws.{passed_on, undone}
use Rattle.columnar_core.specs.WordViews.{le_bytes, words_in}
use Rattle.columnar_bits.specs.BoolColumns.{bits_in}
use Rattle.columnar_bits.specs.BoolLaws.{bools_lawful, bools_parts, bools_sound, bools_grew, bits_length, two_words, length_added}
use Rattle.columnar_sums.specs.RankLaws.{ranks_parts, ranks_sound}
use Rattle.columnar_sums.specs.RankChangeLaws.{ranks_stayed, ranked_on, counts_so_far, counts_within, counts_many, words_short, turns_fit}
use Rattle.std.specs.Vec.{vec_capacity, vec_len}
use Rattle.columnar_sums.specs.RankColumns.{ranked_bits}
use Rattle.columnar_sums.specs.RoomLaws.{full_of_counts}
use Rattle.columnar_sums.proofs.rank_select.grow.Held.extend_ranked_tallied.Goals as goal

pub returns-in_err-extend_bits_from_tallied-clause-err : goal.returns-in_err-extend_bits_from_tallied-clause-err
returns-in_err-extend_bits_from_tallied-clause-err g c = rw (passed_on c.from_residual.result c.from_residual.ensures.1) (ranks_stayed c.requires.sound c.in_err-extend_bits_from_tallied.ensures.err)

pub returns-in_err-extend_bits_from_tallied-clause-sound : goal.returns-in_err-extend_bits_from_tallied-clause-sound
returns-in_err-extend_bits_from_tallied-clause-sound g c = (ranks_stayed c.requires.sound c.in_err-extend_bits_from_tallied.ensures.err).sound

pub count_on-requires-clause-exact : goal.count_on-requires-clause-exact
count_on-requires-clause-exact g c = rw (c.words.ensures, c.words-2.ensures) (counts_so_far _ _ _ (ranks_parts c.requires.sound) c.in_ok-extend_bits_from_tallied.ensures.ok).0

pub count_on-requires-clause-within : goal.count_on-requires-clause-within
count_on-requires-clause-within g c =
    let n = length_added _ _ _ c.args.range.start c.args.range.«end» c.in_ok-extend_bits_from_tallied.ensures.ok c.requires.ordered c.requires.in_range in
    rw c.words.ensures (counts_within c.args.self.now.counts.items (ranks_parts c.requires.sound) (bools_parts c.extend_bits_from_tallied.ensures.sound) (omega arith))

pub count_on-requires-clause-tail : goal.count_on-requires-clause-tail
count_on-requires-clause-tail g c = rw c.words-2.ensures (omega (arith, two_words (bools_parts c.extend_bits_from_tallied.ensures.sound)))

pub count_on-requires-clause-short : goal.count_on-requires-clause-short
count_on-requires-clause-short g c = rw c.words.ensures (words_short (bools_parts c.extend_bits_from_tallied.ensures.sound))

pub returns-in-Ok-clause-sound : goal.returns-in-Ok-clause-sound
returns-in-Ok-clause-sound g c =
    ranks_sound (ranked_on {c = le_bytes c.args.self.now.counts.items} c.count_on.new.counts.items (bools_parts c.extend_bits_from_tallied.ensures.sound) c.in_ok-extend_bits_from_tallied.ensures.ok (rw (c.words.ensures, c.words-2.ensures) at c.in-Ok.ensures.ok)).sound

pub returns-in-Ok-clause-turns : goal.returns-in-Ok-clause-turns
returns-in-Ok-clause-turns g c =
    let n = length_added _ _ _ c.args.range.start c.args.range.«end» c.in_ok-extend_bits_from_tallied.ensures.ok c.requires.ordered c.requires.in_range in
    let t = bools_parts c.extend_bits_from_tallied.ensures.sound in
    turns_fit c.args.tally.now.turns c.extend_bits_from_tallied.new.tally.turns c.count_on.new.tally.turns (length (bits_in (le_bytes c.args.self.now.values.values.items) (le_bytes c.args.self.now.values.tail))) (c.args.range.«end» - c.args.range.start) (length (words_in (le_bytes c.extend_bits_from_tallied.new.self.values.items)) / 16) (length c.args.self.now.counts.items) c.extend_bits_from_tallied.ensures.turns (rw c.words.ensures at c.count_on.ensures.turns) (counts_many c.args.self.now.counts.items (ranks_parts c.requires.sound)) (omega (arith, n, bits_length (le_bytes c.extend_bits_from_tallied.new.self.values.items) (le_bytes c.extend_bits_from_tallied.new.self.tail), t.few))

pub returns-in-Err-clause-err : goal.returns-in-Err-clause-err
returns-in-Err-clause-err g c =
    let a : List ℕ = le_bytes c.args.self.now.values.values.items in
    let b : List ℕ = le_bytes c.args.self.now.values.tail in
    let s = (ranks_parts c.requires.sound).bools in
    let h = bools_grew (record { sound = bools_parts c.extend_bits_from_tallied.ensures.sound; bits = c.in_ok-extend_bits_from_tallied.ensures.ok }) in
    rw c.in-Err.ensures.err (ranks_stayed c.requires.sound (undone bools_lawful (bools_sound s) h (rw c.len-start.ensures at c.truncate.ensures.cut)))

pub returns-in-Err-clause-sound : goal.returns-in-Err-clause-sound
returns-in-Err-clause-sound g c =
    let s = (ranks_parts c.requires.sound).bools in
    let h = bools_grew (record { sound = bools_parts c.extend_bits_from_tallied.ensures.sound; bits = c.in_ok-extend_bits_from_tallied.ensures.ok }) in
    rw c.in-Err.ensures.err (ranks_stayed c.requires.sound (undone bools_lawful (bools_sound s) h (rw c.len-start.ensures at c.truncate.ensures.cut))).sound

pub returns-in-Err-clause-turns : goal.returns-in-Err-clause-turns
returns-in-Err-clause-turns g c =
    let n = length_added _ _ _ c.args.range.start c.args.range.«end» c.in_ok-extend_bits_from_tallied.ensures.ok c.requires.ordered c.requires.in_range in
    let t = bools_parts c.extend_bits_from_tallied.ensures.sound in
    turns_fit c.args.tally.now.turns c.extend_bits_from_tallied.new.tally.turns c.count_on.new.tally.turns (length (bits_in (le_bytes c.args.self.now.values.values.items) (le_bytes c.args.self.now.values.tail))) (c.args.range.«end» - c.args.range.start) (length (words_in (le_bytes c.extend_bits_from_tallied.new.self.values.items)) / 16) (length c.args.self.now.counts.items) c.extend_bits_from_tallied.ensures.turns (rw c.words.ensures at c.count_on.ensures.turns) (counts_many c.args.self.now.counts.items (ranks_parts c.requires.sound)) (omega (arith, n, bits_length (le_bytes c.extend_bits_from_tallied.new.self.values.items) (le_bytes c.extend_bits_from_tallied.new.self.tail), t.few))

pub returns-in-Err-clause-wanted : goal.returns-in-Err-clause-wanted
returns-in-Err-clause-wanted g c = λ e.
    let n = length_added _ _ _ c.args.range.start c.args.range.«end» c.in_ok-extend_bits_from_tallied.ensures.ok c.requires.ordered c.requires.in_range in
    let f = rw c.words.ensures at c.in-Err.ensures.full in
    let b = bits_length (le_bytes c.extend_bits_from_tallied.new.self.values.items) (le_bytes c.extend_bits_from_tallied.new.self.tail) in
    full_of_counts (vec_capacity c.args.self.now.values.values) (vec_capacity c.args.self.now.counts) (length (ranked_bits c.args.self.now) + (c.args.range.«end» - c.args.range.start)) (omega (arith, n, f, b))
