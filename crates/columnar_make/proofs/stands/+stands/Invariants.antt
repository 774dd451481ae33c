use Rattle.std.proofs.Common.{◌≡◌, List, ◌++◌, ◌+◌, ◌*◌, drop}
use Rattle.serde_json.specs.View.{items_view, members_view, view}
use Rattle.serde_json.proofs.Views.{Entry}
use Rattle.columnar_make.specs.Stands.{HasMembers, StandForItems}
use Rattle.columnar_make.specs.StandLaws.{items_size, members_size, size}
use Rattle.columnar_make.proofs.stands.+stands.Given as goal

abbrev pub decreases-stands_for : goal.decreases-stands_for
decreases-stands_for l = 2 * size (view l.row.now)

abbrev pub decreases-items_stand : goal.decreases-items_stand
decreases-items_stand l = 2 * items_size (items_view l.row.now) + 1

abbrev pub decreases-has_members : goal.decreases-has_members
decreases-has_members l = 2 * members_size (members_view l.row.now.entries) + 1

-- if the items from here on stand for those of the row, all do
abbrev pub invariant-items_stand-loop-index : goal.invariant-items_stand-loop-index
invariant-items_stand-loop-index l = StandForItems (items_view (drop l.index l.line)) (items_view (drop l.index l.row)) → StandForItems (items_view l.line) (items_view l.row)

-- if the line has the members from here on, it has all
abbrev pub invariant-has_members-loop-key : goal.invariant-has_members-loop-key
invariant-has_members-loop-key l = (done : List Entry) × ((l.row.entries ≡ done ++ l.key-iterator) × (HasMembers (view l.line) (members_view l.key-iterator) → HasMembers (view l.line) (members_view l.row.entries)))
