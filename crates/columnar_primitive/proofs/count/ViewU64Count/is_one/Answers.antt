use Rattle.std.proofs.Common.{◌∙◌, ap}
use Rattle.columnar_primitive.specs.Counts.{is_word}
use Rattle.columnar_primitive.specs.CountLaws.{typed_is_word}
use Rattle.columnar_primitive.proofs.count.ViewU64Count.is_one.Goals as goal

pub returns-in-Typed : goal.returns-in-Typed
returns-in-Typed c = typed_is_word c.in-Typed.items.now ∙ ap is_word c.in-Typed.ensures
