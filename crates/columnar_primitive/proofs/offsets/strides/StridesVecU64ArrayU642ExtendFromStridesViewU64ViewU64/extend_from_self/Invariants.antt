use Rattle.std.proofs.Common.{◌≡◌, ◌-◌, take, drop}
use Rattle.std.specs.Int.{to_le_bytes, w64}
use Rattle.columnar_core.specs.Format.{both, slice}
use Rattle.columnar_core.specs.Views.{items_content}
use Rattle.columnar_core.specs.Change.{Took}
use Rattle.columnar_core.specs.WordViews.{bytes_of}
use Rattle.columnar_primitive.specs.Stride.{strides_format, strides_rows, head_and_bounds, offsets_in, head_extended, bounds_extended}
use Rattle.columnar_primitive.proofs.offsets.strides.StridesVecU64ArrayU642ExtendFromStridesViewU64ViewU64.extend_from_self.Given as goal

abbrev pub invariant-loop-i : goal.invariant-loop-i
invariant-loop-i l =
    Took strides_format (head_and_bounds l.fn.self.head l.fn.self.bounds.items) (head_and_bounds l.self.head l.self.bounds.items) (take (l.i - l.fn.range.start) (drop l.fn.range.start (strides_rows (both (slice (bytes_of (items_content (to_le_bytes w64) l.view.head.items))) (slice (bytes_of (items_content (to_le_bytes w64) l.view.bounds.items))))))) ×
    ((take l.count l.self.bounds.items ≡ l.fn.self.bounds.items) ×
    ((l.self.head ≡ head_extended l.fn.self.head l.fn.self.bounds.items (offsets_in (both (slice (bytes_of (items_content (to_le_bytes w64) l.view.head.items))) (slice (bytes_of (items_content (to_le_bytes w64) l.view.bounds.items)))) l.fn.range.start l.i)) ×
    (l.self.bounds.items ≡ bounds_extended l.fn.self.head l.fn.self.bounds.items (offsets_in (both (slice (bytes_of (items_content (to_le_bytes w64) l.view.head.items))) (slice (bytes_of (items_content (to_le_bytes w64) l.view.bounds.items)))) l.fn.range.start l.i))))
