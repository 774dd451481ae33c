use Rattle.std.proofs.Common.{◌≡◌, ℕ, refl, arith, length}
use Rattle.std.specs.Prelude.{vec_len, vec_capacity}
use Rattle.columnar_bits.specs.BoolColumns.{owned_bits}
use Rattle.columnar_bits.specs.BoolLaws.{owned_bits_of}
use Rattle.columnar_bits.specs.RoomLaws.{words_reserved}
use Rattle.columnar_bits.proofs.bools.BoolsVecU64ArrayU642Reserve.reserve_room.Goals as goal

pub returns-clause-room : goal.returns-clause-room
returns-clause-room c = λ u. record {
  keeps = λ rs h.
      let f = owned_bits_of c.requires c.words.ensures c.tail_parts-have.ensures.word c.tail_parts-have.ensures.count in
      let l = h (omega (arith, c.if-room-eq18446744073709551615.false, c.ranges.room.fits)) in
      rw c.reserve.ensures.items (words_reserved (vec_len c.args.self.now.values) c.tail_parts-have.result.1 (vec_capacity c.reserve.new.self) c.args.room (length (owned_bits c.args.self.now)) (omega (arith, f.length_is)) f.few (omega (arith, c.in_ok-reserve.ensures.ok, c.reserve.ensures.len)) rs l);
}
