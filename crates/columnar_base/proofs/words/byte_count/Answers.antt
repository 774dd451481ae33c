use Rattle.std.proofs.Common.{ap}
use Rattle.columnar_base.specs.WordViews.{bytes_of, view_bytes}
use Rattle.columnar_base.specs.WordViewLaws.{typed_bytes}
use Rattle.columnar_base.proofs.words.byte_count.Goals as goal

pub returns-in-Typed : goal.returns-in-Typed
returns-in-Typed c = typed_bytes c.in-Typed.items.now (view_bytes c.args.view) (ap bytes_of c.in-Typed.ensures)
