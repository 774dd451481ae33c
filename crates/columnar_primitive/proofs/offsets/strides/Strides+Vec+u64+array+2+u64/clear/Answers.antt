use Rattle.std.proofs.Common.{[], arith}
use Rattle.columnar_primitive.specs.StrideLaws.{strides_sound, owned_sound, head_words}
use Rattle.columnar_primitive.proofs.offsets.strides.Strides+Vec+u64+array+2+u64.clear.Goals as goal

pub returns-clause-sound : goal.returns-clause-sound
returns-clause-sound c = rw c.clear.ensures.items (strides_sound (owned_sound 0 0 [] (head_words 0 0 (omega arith) (omega arith)) (omega arith) (omega arith)))
