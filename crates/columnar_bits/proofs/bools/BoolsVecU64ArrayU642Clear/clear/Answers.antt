use Rattle.std.proofs.Common.{ap, map, length, arith}
use Rattle.std.specs.Vec.{vec_capacity}
use Rattle.std.proofs.lemmas.List.{length-map}
use Rattle.columnar_core.specs.Row.{truth}
use Rattle.columnar_bits.specs.BoolLaws.{bools_none, bools_sound}
use Rattle.columnar_bits.specs.BoolColumns.{bools_format, owned_content, owned_bits}
use Rattle.columnar_bits.specs.Rooms.{bits_top}
use Rattle.columnar_bits.specs.RoomLaws.{bits_freed}
use Rattle.columnar_bits.proofs.bools.BoolsVecU64ArrayU642Clear.clear.Goals as goal

pub returns-clause-sound : goal.returns-clause-sound
returns-clause-sound c = bools_sound (bools_none c.clear.new.self.items c.tail_of-self.result c.clear.ensures.items c.tail_of-self.ensures).0

pub returns-clause-rows : goal.returns-clause-rows
returns-clause-rows c = ap (map truth) (bools_none c.clear.new.self.items c.tail_of-self.result c.clear.ensures.items c.tail_of-self.ensures).1

pub returns-clause-freed : goal.returns-clause-freed
returns-clause-freed c =
    let n = ap length (bools_none c.clear.new.self.items c.tail_of-self.result c.clear.ensures.items c.tail_of-self.ensures).1 in
    bits_freed bools_format (owned_content c.args.self.now) 0 (length (owned_bits c.args.self.now)) _ (bits_top (vec_capacity c.args.self.now.values)) (bits_top (vec_capacity c.clear.new.self)) (length-map (owned_bits c.args.self.now) truth) (omega arith) n (omega (arith, c.clear.ensures.capacity))
