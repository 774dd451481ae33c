use Rattle.std.proofs.Common.{sym, ◌∙◌}
use Rattle.std.specs.Int.{to_le_bytes, w64}
use Rattle.columnar_base.specs.WordViewLaws.{items_slice}
use Rattle.columnar_core.specs.Store.{slices_in}
use Rattle.columnar_nested.specs.JudgeLaws.{trees_viewed}
use Rattle.columnar_nested.proofs.trees.bytes.TreesViewU64FromBytes.from_store.Goals as goal

pub returns-clause-content : goal.returns-clause-content
returns-clause-content g c = trees_viewed g.TC.Column.format (slices_in c.args.store.now) c.args.offset.now c.from_store-groups.new.offset c.from_store-bounds.new.offset c.from_store-groups.ensures.next c.from_store-bounds.ensures.next (sym (items_slice (to_le_bytes w64) c.from_store-groups.result.items) ∙ c.from_store-groups.ensures.content) (sym (items_slice (to_le_bytes w64) c.from_store-bounds.result.items) ∙ c.from_store-bounds.ensures.content) c.from_store-values.ensures.content
