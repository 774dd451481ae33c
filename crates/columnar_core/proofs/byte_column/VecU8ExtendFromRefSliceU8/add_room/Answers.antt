use Rattle.std.proofs.Common.{arith, length, w8}
use Rattle.columnar_base.specs.Elements.{bytes_format}
use Rattle.columnar_base.specs.ElementLaws.{length-typed}
use Rattle.columnar_base.specs.NumberLaws.{unsigned_element}
use Rattle.columnar_base.specs.RoomLaws.{counts_add}
use Rattle.columnar_core.proofs.byte_column.VecU8ExtendFromRefSliceU8.add_room.Goals as goal

pub returns : goal.returns
returns c = counts_add bytes_format _ c.args.room (length c.args.view.now) c.saturating_add.result (λ s. let l = length-typed (unsigned_element w8) c.args.view.now in omega (arith, l)) c.saturating_add.ensures
