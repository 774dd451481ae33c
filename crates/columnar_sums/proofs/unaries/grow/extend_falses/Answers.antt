use Rattle.std.proofs.Common.{◌≡◌, ◌+◌, ◌-◌, ◌/◌, ◌∙◌, ◌++◌, ap, sym, ℕ, List, length, arith}
use Rattle.columnar_core.specs.ChangeLaws.{passed_on, undone}
use Rattle.columnar_core.specs.WordViews.{le_bytes, words_in}
use Rattle.columnar_core.specs.WordViewLaws.{length-le_bytes}
use Rattle.columnar_bits.specs.BoolColumns.{bits_in}
use Rattle.columnar_bits.specs.BoolLaws.{bools_lawful, bools_parts, bools_sound, bools_grew, length_words_back}
use Rattle.columnar_sums.specs.Counting.{ones}
use Rattle.columnar_sums.specs.RankLaws.{ranks_parts, ranks_sound}
use Rattle.columnar_sums.specs.RankChangeLaws.{ranks_stayed, counts_many, length-truths_rows}
use Rattle.columnar_sums.specs.UnaryBitLaws.{repeated_same}
use Rattle.columnar_sums.specs.UnaryChangeLaws.{falses_ranked}
use Rattle.columnar_sums.specs.UnaryColumns.{repeated}
use Rattle.std.specs.Vec.{vec_capacity}
use Rattle.columnar_sums.specs.RankColumns.{ranked_bits}
use Rattle.columnar_sums.specs.RoomLaws.{full_of_words, full_of_counts, ranks_more}
use Rattle.columnar_sums.proofs.unaries.grow.extend_falses.Goals as goal

pub returns-in_err-push_falses-clause-err : goal.returns-in_err-push_falses-clause-err
returns-in_err-push_falses-clause-err c = rw (passed_on c.from_residual.result c.from_residual.ensures.1) (ranks_stayed c.requires.sound c.in_err-push_falses.ensures.err)

pub returns-in_err-push_falses-clause-sound : goal.returns-in_err-push_falses-clause-sound
returns-in_err-push_falses-clause-sound c = (ranks_stayed c.requires.sound c.in_err-push_falses.ensures.err).sound

pub count_run-requires : goal.count_run-requires
count_run-requires c =
    let a : List ℕ = le_bytes c.args.bits.now.values.values.items in
    let b : List ℕ = le_bytes c.args.bits.now.values.tail in
    omega (arith, counts_many c.args.bits.now.counts.items (ranks_parts c.requires.sound), c.len-start.ensures, length-truths_rows a b)

pub returns-in-Ok-clause-sound : goal.returns-in-Ok-clause-sound
returns-in-Ok-clause-sound c =
    let a : List ℕ = le_bytes c.args.bits.now.values.values.items in
    let b : List ℕ = le_bytes c.args.bits.now.values.tail in
    let xs : List ℕ = c.args.bits.now.counts.items in
    let ys : List ℕ = c.count_run.new.counts.items in
    let e : c.len-start.result ≡ length (bits_in a b) = omega (arith, c.len-start.ensures, length-truths_rows a b) in
    let m = counts_many xs (ranks_parts c.requires.sound) in
    let n : ℕ = (c.len-start.result + c.args.count) / 1024 - length xs in
    let w : words_in (le_bytes ys) ≡ words_in (le_bytes xs) ++ repeated n (ones (bits_in a b) (length (bits_in a b))) = c.in-Ok.ensures.ok.0 ∙ ap (λ (v : List ℕ). words_in (le_bytes xs) ++ v) (repeated_same n c.total_of-total.result (ones (bits_in a b) (length (bits_in a b))) (λ l. c.total_of-total.ensures (omega (arith, l, m, e)))) in
    let k : n ≡ (length (bits_in a b) + c.args.count) / 1024 - length (words_in (le_bytes xs)) = ap (λ (v : ℕ). (v + c.args.count) / 1024 - length xs) e ∙ ap (λ (v : ℕ). (length (bits_in a b) + c.args.count) / 1024 - v) (sym (length_words_back xs)) in
    let l = length-le_bytes ys in
    ranks_sound (falses_ranked c.args.count n (ranks_parts c.requires.sound) (bools_parts c.push_falses.ensures.sound) c.in_ok-push_falses.ensures.ok k w (omega arith)).sound

pub returns-in-Err-clause-err : goal.returns-in-Err-clause-err
returns-in-Err-clause-err c =
    let s = (ranks_parts c.requires.sound).bools in
    let h = bools_grew (record { sound = bools_parts c.push_falses.ensures.sound; bits = c.in_ok-push_falses.ensures.ok }) in
    rw c.in-Err.ensures.err (ranks_stayed c.requires.sound (undone bools_lawful (bools_sound s) h (rw c.len-start.ensures at c.truncate.ensures.cut)))

pub returns-in-Err-clause-sound : goal.returns-in-Err-clause-sound
returns-in-Err-clause-sound c =
    let s = (ranks_parts c.requires.sound).bools in
    let h = bools_grew (record { sound = bools_parts c.push_falses.ensures.sound; bits = c.in_ok-push_falses.ensures.ok }) in
    rw c.in-Err.ensures.err ((ranks_stayed c.requires.sound (undone bools_lawful (bools_sound s) h (rw c.len-start.ensures at c.truncate.ensures.cut))).sound)

pub returns-in_err-push_falses-clause-wanted : goal.returns-in_err-push_falses-clause-wanted
returns-in_err-push_falses-clause-wanted c = rw (passed_on c.from_residual.result c.from_residual.ensures.1) (full_of_words (vec_capacity c.args.bits.now.values.values) (vec_capacity c.args.bits.now.counts) (length (ranked_bits c.args.bits.now) + c.args.count) (c.in_err-push_falses.ensures.wanted c.requires.short))

pub returns-in-Err-clause-wanted : goal.returns-in-Err-clause-wanted
returns-in-Err-clause-wanted c =
    let l = length-truths_rows (le_bytes c.args.bits.now.values.values.items) (le_bytes c.args.bits.now.values.tail) in
    full_of_counts (vec_capacity c.args.bits.now.values.values) (vec_capacity c.args.bits.now.counts) (length (ranked_bits c.args.bits.now) + c.args.count) (omega (arith, l, c.in-Err.ensures.full, c.len-start.ensures))

pub returns-in_err-push_falses-clause-capacity : goal.returns-in_err-push_falses-clause-capacity
returns-in_err-push_falses-clause-capacity c = ranks_more (vec_capacity c.args.bits.now.values.values) (vec_capacity c.args.bits.now.counts) (vec_capacity c.push_falses.new.values.values) (vec_capacity c.args.bits.now.counts) c.push_falses.ensures.capacity (omega arith)

pub returns-in-Err-clause-capacity : goal.returns-in-Err-clause-capacity
returns-in-Err-clause-capacity c = ranks_more (vec_capacity c.args.bits.now.values.values) (vec_capacity c.args.bits.now.counts) (vec_capacity c.truncate.new.self.values) (vec_capacity c.count_run.new.counts) (omega (arith, c.push_falses.ensures.capacity, c.truncate.ensures.capacity)) c.count_run.ensures.capacity

pub returns-in-Ok-clause-capacity : goal.returns-in-Ok-clause-capacity
returns-in-Ok-clause-capacity c = ranks_more (vec_capacity c.args.bits.now.values.values) (vec_capacity c.args.bits.now.counts) (vec_capacity c.push_falses.new.values.values) (vec_capacity c.count_run.new.counts) c.push_falses.ensures.capacity c.count_run.ensures.capacity
