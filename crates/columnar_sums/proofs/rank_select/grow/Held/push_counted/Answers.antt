use Rattle.std.proofs.Common.{◌≡◌, ◌+◌, ◌<◌, ◌^◌, ℕ, List, length, arith, refl}
use Rattle.std.proofs.Math.Path.{ap₂}
use Rattle.columnar_core.specs.Format.{Content, slice, both}
use Rattle.columnar_core.specs.WordViews.{le_bytes}
use Rattle.columnar_bits.specs.BoolColumns.{bits_in}
use Rattle.columnar_bits.specs.BoolLaws.{bools_parts, words_grown}
use Rattle.columnar_sums.specs.CountLaws.{ones_le}
use Rattle.columnar_sums.specs.RankLaws.{ranks_parts, ranks_sound}
use Rattle.columnar_sums.specs.RankChangeLaws.{ranked_count, ranks_same, items_back, counts_many, length-truths_rows}
use Rattle.std.specs.Vec.{vec_capacity, vec_len}
use Rattle.columnar_sums.specs.RankColumns.{ranked_bits}
use Rattle.columnar_sums.specs.RoomLaws.{full_of_counts}
use Rattle.columnar_sums.proofs.rank_select.grow.Held.push_counted.Goals as goal

pub overflow_add-total : goal.overflow_add-total
overflow_add-total c =
    let a : List ℕ = le_bytes c.args.self.now.values.values.items in
    let b : List ℕ = le_bytes c.args.self.now.values.tail in
    omega (arith, c.rank.ensures.value, ones_le (bits_in a b) c.len-len.result, c.if-len.false, c.len-len.type_inv, c.one_of.ensures.small)

pub returns-in-Ok-clause-sound : goal.returns-in-Ok-clause-sound
returns-in-Ok-clause-sound c =
    let a : List ℕ = le_bytes c.args.self.now.values.values.items in
    let b : List ℕ = le_bytes c.args.self.now.values.tail in
    let n : ℕ = c.rank.result + c.one_of.result in
    let e : c.len-len.result ≡ length (bits_in a b) = omega (arith, c.len-len.ensures, length-truths_rows a b) in
    let f : n < 2 ^ 64 = omega (arith, c.rank.ensures.value, ones_le (bits_in a b) c.len-len.result, c.if-len.false, c.len-len.type_inv, c.one_of.ensures.small) in
    let w = words_grown c.args.self.now.counts.items c.push.new.self.items n c.in_ok-push.ensures.items f in
    ranks_sound (ranked_count n (ranks_parts c.requires.sound) (bools_parts c.push_bit.ensures.sound) c.in-Ok.ensures.ok c.requires.completes w.0 w.1 (rw (c.rank.ensures.value, c.one_of.ensures.value, e) refl)).sound

pub returns-in-Err-clause-err : goal.returns-in-Err-clause-err
returns-in-Err-clause-err c =
    let a : List ℕ = le_bytes c.args.self.now.values.values.items in
    let b : List ℕ = le_bytes c.args.self.now.values.tail in
    let i = items_back c.args.self.now.counts.items c.push.new.self.items c.truncate.new.self.items _ _ c.in_ok-push.ensures.items c.truncate.ensures.items (omega (arith, counts_many c.args.self.now.counts.items (ranks_parts c.requires.sound), c.len-len.ensures, length-truths_rows a b)) in
    ranks_same c.requires.sound (ap₂ (λ (x : List ℕ) (y : Content). both (slice (le_bytes x)) y) i c.in-Err.ensures.err)

pub returns-in-Err-clause-sound : goal.returns-in-Err-clause-sound
returns-in-Err-clause-sound c =
    let a : List ℕ = le_bytes c.args.self.now.values.values.items in
    let b : List ℕ = le_bytes c.args.self.now.values.tail in
    let i = items_back c.args.self.now.counts.items c.push.new.self.items c.truncate.new.self.items _ _ c.in_ok-push.ensures.items c.truncate.ensures.items (omega (arith, counts_many c.args.self.now.counts.items (ranks_parts c.requires.sound), c.len-len.ensures, length-truths_rows a b)) in
    (ranks_same c.requires.sound (ap₂ (λ (x : List ℕ) (y : Content). both (slice (le_bytes x)) y) i c.in-Err.ensures.err)).sound

pub returns-in_err-push-clause-wanted : goal.returns-in_err-push-clause-wanted
returns-in_err-push-clause-wanted c = λ e. full_of_counts (vec_capacity c.args.self.now.values.values) (vec_capacity c.args.self.now.counts) (length (ranked_bits c.args.self.now) + 1) (omega (arith, c.in_err-push.ensures.full, counts_many c.args.self.now.counts.items (ranks_parts c.requires.sound), c.args.self.now.counts.ok.0, c.requires.completes))
