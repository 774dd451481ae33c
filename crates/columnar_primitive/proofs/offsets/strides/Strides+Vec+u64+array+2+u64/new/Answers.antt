use Rattle.std.proofs.Common.{[], arith}
use Rattle.columnar_primitive.specs.StrideLaws.{strides_sound, owned_sound, head_words}
use Rattle.columnar_primitive.proofs.offsets.strides.Strides+Vec+u64+array+2+u64.new.Goals as goal

pub returns-clause-sound : goal.returns-clause-sound
returns-clause-sound c = let e = c.new.ensures in rw e.items (strides_sound (owned_sound c.args.stride c.args.length [] (head_words c.args.stride c.args.length (omega arith) (omega arith)) (omega arith) (omega arith)))
