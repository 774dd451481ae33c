use Rattle.std.proofs.Common.{arith}
use Rattle.std.proofs.lemmas.List.{length-map}
use Rattle.columnar_core.specs.Row.{truth}
use Rattle.columnar_core.specs.RoomLaws.{counts_add}
use Rattle.columnar_core.specs.WordViews.{view_bytes}
use Rattle.columnar_bits.specs.BoolColumns.{bools_format, bits_in}
use Rattle.columnar_bits.specs.BoolLaws.{bools_parts}
use Rattle.columnar_bits.proofs.bools.BoolsVecU64ArrayU642ExtendFromBoolsViewU64ViewU64.add_room.Goals as goal

pub returns : goal.returns
returns c = counts_add bools_format _ c.args.room c.most_bits.result c.saturating_add.result (λ s. let l = c.most_bits.ensures (bools_parts s) in let n = length-map (bits_in (view_bytes c.args.view.values) (view_bytes c.args.view.tail)) truth in omega (arith, l, n)) c.saturating_add.ensures
