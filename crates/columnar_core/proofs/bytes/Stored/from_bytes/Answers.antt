use Rattle.std.proofs.Common.{refl, arith, length-drop}
use Rattle.columnar_core.proofs.bytes.Stored.from_bytes.Goals as goal

pub from_store-view-requires : goal.from_store-view-requires
from_store-view-requires g c κs = ((refl, tt), (c.requires.representable, omega (arith, rw length-drop at c.requires.room, c.len.ensures, c.min-index.ensures)))
