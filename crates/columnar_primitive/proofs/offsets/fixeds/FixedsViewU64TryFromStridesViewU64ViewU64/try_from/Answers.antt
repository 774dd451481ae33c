use Rattle.std.proofs.Common.{refl, ◌≡◌, take, drop, arith}
use Rattle.std.specs.Int.{to_le_bytes, w64}
use Rattle.columnar_core.specs.Format.{slice, IsSound}
use Rattle.columnar_core.specs.Elements.{words_format}
use Rattle.columnar_core.specs.Views.{items_content}
use Rattle.columnar_core.specs.WordViews.{bytes_of}
use Rattle.columnar_core.specs.WordViewLaws.{items_slice}
use Rattle.columnar_primitive.specs.Stride.{bounds_rows}
use Rattle.columnar_primitive.specs.TriedLaws.{tried_ok, tried_err, head_sound, head_rows, second-word}
use Rattle.columnar_primitive.proofs.offsets.fixeds.FixedsViewU64TryFromStridesViewU64ViewU64.try_from.Goals as goal

pub part-requires-clause-sound : goal.part-requires-clause-sound
part-requires-clause-sound g c =
    let h = c.all_follow.ensures.yes c.if-all_follow.true in
    rw (items_slice (to_le_bytes w64) c.args.item.head.items) (head_sound (bytes_of (items_content (to_le_bytes w64) c.args.item.head.items)) h.0)

pub part-requires-clause-in_range : goal.part-requires-clause-in_range
part-requires-clause-in_range g c =
    let h = c.all_follow.ensures.yes c.if-all_follow.true in
    rw (items_slice (to_le_bytes w64) c.args.item.head.items) (omega (arith, head_rows (bytes_of (items_content (to_le_bytes w64) c.args.item.head.items)) h.0))

pub returns-then-all_follow : goal.returns-then-all_follow
returns-then-all_follow g c =
    let h = c.all_follow.ensures.yes c.if-all_follow.true in
    let head = bytes_of (items_content (to_le_bytes w64) c.args.item.head.items) in
    let count = bytes_of (items_content (to_le_bytes w64) c.part.result.items) in
    let s : IsSound words_format (slice count) = rw (items_slice (to_le_bytes w64) c.part.result.items) at c.part.ensures.sound in
    let e : bounds_rows (slice count) ≡ take 1 (drop 1 (bounds_rows (slice head))) = rw (items_slice (to_le_bytes w64) c.part.result.items, items_slice (to_le_bytes w64) c.args.item.head.items) at c.part.ensures.rows in
    let p = second-word head count h.0 s e in
    tried_ok g.row.K head (bytes_of (items_content (to_le_bytes w64) c.args.item.bounds.items)) count h.1.0 h.1.1 p.0 p.1

pub returns-else-all_follow : goal.returns-else-all_follow
returns-else-all_follow g c = (refl, tried_err g.row.K (bytes_of (items_content (to_le_bytes w64) c.args.item.head.items)) (bytes_of (items_content (to_le_bytes w64) c.args.item.bounds.items)) (c.all_follow.ensures.no c.if-all_follow.false))
