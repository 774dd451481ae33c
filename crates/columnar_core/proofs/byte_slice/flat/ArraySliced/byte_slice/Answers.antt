use Rattle.std.proofs.Common.{◌∙◌, ap}
use Rattle.std.specs.List.{flat_map}
use Rattle.columnar_core.specs.ArraySliceLaws.{has_items, arrays_flat}
use Rattle.columnar_core.proofs.byte_slice.flat.ArraySliced.byte_slice.Goals as goal

pub returns-clause-bytes : goal.returns-clause-bytes
returns-clause-bytes g c =
    c.byte_slice.ensures.bytes ∙ ap (flat_map g.T.Element.le_bytes) c.flat.ensures
    ∙ arrays_flat g.row.N g.met.T.Element.element (has_items g.T.Element.size g.row.N c.requires) c.args.items.now c.are_arrays.ensures
