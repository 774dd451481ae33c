use Rattle.std.proofs.lemmas.Result.{on_ok_weaker}
use Rattle.std.proofs.Common.{refl, arith}
use Rattle.columnar_bits.specs.RoomLaws.{bits_full, bits_left}
use Rattle.columnar_bits.specs.BoolLaws.{bools_parts, bools_took}
use Rattle.columnar_bits.proofs.bools.BoolsVecU64ArrayU642PushBool.push.Goals as goal

pub returns-clause-ok : goal.returns-clause-ok
returns-clause-ok c = on_ok_weaker c.push_bit.result (λ e. bools_took (record { sound = bools_parts c.push_bit.ensures.sound; bits = e })) c.push_bit.ensures.ok

pub returns-clause-wanted : goal.returns-clause-wanted
returns-clause-wanted c = bits_full _ _ 1 _ c.push_bit.result refl c.push_bit.ensures.wanted

pub returns-clause-left : goal.returns-clause-left
returns-clause-left c = bits_left _ _ 1 _ _ _ _ c.push_bit.result refl refl (omega (arith, c.push_bit.ensures.capacity)) c.push_bit.ensures.ok
