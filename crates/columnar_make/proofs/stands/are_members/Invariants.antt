use Rattle.serde_json.specs.View.{members_view, view}
use Rattle.columnar_make.specs.Stands.{AreMembers}
use Rattle.columnar_make.proofs.stands.are_members.Given as goal

-- if the row has the members from here on, it has all
abbrev pub invariant-loop-key : goal.invariant-loop-key
invariant-loop-key l = AreMembers (members_view l.key-iterator) (view l.row) → AreMembers (members_view l.line.entries) (view l.row)
