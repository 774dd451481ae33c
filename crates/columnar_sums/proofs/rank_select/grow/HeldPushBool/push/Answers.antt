use Rattle.std.proofs.lemmas.Result.{on_ok_weaker}
use Rattle.columnar_sums.specs.RankLaws.{ranks_parts}
use Rattle.columnar_sums.specs.RankChangeLaws.{ranks_took, fills_word}
use Rattle.std.proofs.Common.{refl}
use Rattle.columnar_bits.specs.RoomLaws.{bits_full, bits_left}
use Rattle.columnar_sums.specs.RoomLaws.{ranks_more}
use Rattle.columnar_sums.proofs.rank_select.grow.HeldPushBool.push.Goals as goal

pub returns-clause-ok : goal.returns-clause-ok
returns-clause-ok c = on_ok_weaker c.push_bit.result (λ e. ranks_took (record { sound = ranks_parts c.push_bit.ensures.sound; bits = e })) c.push_bit.ensures.ok

pub returns-clause-memory : goal.returns-clause-memory
returns-clause-memory c = λ e. fills_word _ (λ l. cc (rw e at (c.push_bit.ensures.no_memory l)))

pub returns-clause-wanted : goal.returns-clause-wanted
returns-clause-wanted c = bits_full _ _ 1 _ c.push_bit.result refl c.push_bit.ensures.wanted

pub returns-clause-left : goal.returns-clause-left
returns-clause-left c = bits_left _ _ 1 _ _ _ _ c.push_bit.result refl refl (ranks_more _ _ _ _ c.push_bit.ensures.capacity.0 c.push_bit.ensures.capacity.1) c.push_bit.ensures.ok
