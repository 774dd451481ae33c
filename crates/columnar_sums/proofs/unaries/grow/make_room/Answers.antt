use Rattle.std.proofs.Common.{◌+◌, ℕ, List, arith}
use Rattle.std.specs.Vec.{vec_capacity}
use Rattle.columnar_core.specs.ChangeLaws.{passed_on}
use Rattle.columnar_core.specs.WordViews.{le_bytes}
use Rattle.columnar_bits.specs.BoolLaws.{bits_length, length_words_back}
use Rattle.columnar_sums.specs.RankLaws.{ranks_parts}
use Rattle.columnar_sums.specs.RankChangeLaws.{counts_many}
use Rattle.columnar_sums.specs.RoomLaws.{full_of_words, full_of_counts}
use Rattle.columnar_sums.proofs.unaries.grow.make_room.Goals as goal

pub returns-in_err-reserve-clause-wanted : goal.returns-in_err-reserve-clause-wanted
returns-in_err-reserve-clause-wanted c =
    let a : List ℕ = le_bytes c.args.bits.now.values.values.items in
    let b : List ℕ = le_bytes c.args.bits.now.values.tail in
    let w = bits_length a b in
    let v = length_words_back c.args.bits.now.values.values.items in
    rw (passed_on c.from_residual.result c.from_residual.ensures.1) (full_of_words (vec_capacity c.args.bits.now.values.values) (vec_capacity c.args.bits.now.counts) (c.args.len + c.args.more) (omega (arith, c.in_err-reserve.ensures.full, w, v, (ranks_parts c.requires.sound).bools.few, c.args.bits.now.values.values.ok.0, c.requires.len)))

pub returns-in_err-reserve-2-clause-wanted : goal.returns-in_err-reserve-2-clause-wanted
returns-in_err-reserve-2-clause-wanted c =
    let m = counts_many c.args.bits.now.counts.items (ranks_parts c.requires.sound) in
    rw (passed_on c.from_residual-in_err-reserve-2.result c.from_residual-in_err-reserve-2.ensures.1) (full_of_counts (vec_capacity c.args.bits.now.values.values) (vec_capacity c.args.bits.now.counts) (c.args.len + c.args.more) (omega (arith, c.in_err-reserve-2.ensures.full, m, c.args.bits.now.counts.ok.0, c.requires.len)))
