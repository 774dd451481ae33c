use Rattle.std.proofs.Common.{ℕ, List, ◌%◌, length, arith}
use Rattle.std.specs.Vec.{vec_capacity, vec_len}
use Rattle.columnar_core.specs.WordViews.{le_bytes}
use Rattle.columnar_bits.specs.BoolColumns.{bits_in}
use Rattle.columnar_bits.specs.BoolLaws.{bits_length, length_words_back}
use Rattle.columnar_bits.specs.RoomLaws.{words_reserved}
use Rattle.columnar_sums.specs.RankLaws.{ranks_parts}
use Rattle.columnar_sums.specs.RankChangeLaws.{counts_many, length-truths_rows}
use Rattle.columnar_sums.specs.RankColumns.{ranked_bits}
use Rattle.columnar_sums.specs.RoomLaws.{counts_reserved, ranks_reserved}
use Rattle.columnar_sums.proofs.rank_select.grow.HeldReserve.reserve_room.Goals as goal

pub returns-clause-room : goal.returns-clause-room
returns-clause-room c = λ u. record {
  keeps = λ rs h.
      let a : List ℕ = le_bytes c.args.self.now.values.values.items in
      let b : List ℕ = le_bytes c.args.self.now.values.tail in
      let p = ranks_parts c.requires in
      let n : ℕ = length (bits_in a b) in
      let e = length-truths_rows a b in
      let w = bits_length a b in
      let v = length_words_back c.args.self.now.values.values.items in
      let m = counts_many c.args.self.now.counts.items p in
      let l = h (omega (arith, c.if-room-eq18446744073709551615.false, c.ranges.room.fits)) in
      let s = words_reserved (vec_len c.args.self.now.values.values) (n % 64) (vec_capacity c.reserve-2.new.self) c.args.room n (omega (arith, w, v, p.bools.few, c.args.self.now.values.values.ok.0)) (omega arith) (omega (arith, e, c.len-held.ensures, c.in_ok-reserve-2.ensures.ok, c.reserve-2.ensures.len)) rs l in
      let t = counts_reserved (vec_len c.args.self.now.counts) (n % 1024) (vec_capacity c.reserve.new.self) c.args.room n (omega (arith, m, c.args.self.now.counts.ok.0)) (omega arith) (omega (arith, e, c.len-held.ensures, c.in_ok-reserve.ensures.ok, c.reserve.ensures.len)) (length rs) l in
      rw c.reserve-2.ensures.items (ranks_reserved n (vec_capacity c.reserve-2.new.self) (vec_capacity c.reserve.new.self) rs s t);
}
