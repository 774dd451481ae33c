use Rattle.std.proofs.Common.{sym, ap}
use Rattle.columnar_base.specs.Format.{slice}
use Rattle.columnar_core.specs.NumberSliceLaws.{bytes_are}
use Rattle.columnar_core.proofs.byte_column.as_elements.Goals as goal

pub returns : goal.returns
returns c = ap slice (sym (bytes_are c.args.bytes.now (λ i. (c.type_inv.bytes i).fits)))
