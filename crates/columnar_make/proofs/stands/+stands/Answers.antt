use Rattle.std.proofs.Common.{◌<◌, length, ◌≡◌, string_bytes, rules}
use Rattle.serde_json.specs.Data.{null}
use Rattle.serde_json.specs.View.{items_view, view}
use Rattle.serde_json.proofs.Views.{Entry}
use Rattle.columnar_make.specs.Stands.{StandForItems, StandsFor}
use Rattle.columnar_make.specs.StandLaws.{absent_stands, found_stands, item_smaller, items_smaller, member_smaller, members_smaller, member_taken, array_stands, bool_stands, null_stands, number_stands, object_stands, string_stands}
use Rattle.columnar_make.proofs.stands.+stands.Goals as goal

pub stands_for-returns-in-Null-Null : goal.stands_for-returns-in-Null-Null
stands_for-returns-in-Null-Null t c = λ e. rw (c.in-Null-Null.is-0, c.in-Null-Null.is-1) null_stands

pub stands_for-returns-in-Bool-Bool : goal.stands_for-returns-in-Bool-Bool
stands_for-returns-in-Bool-Bool t c = λ e.
    let same : c.in-Bool-Bool.one ≡ c.in-Bool-Bool.other = search rules in
    rw (c.in-Bool-Bool.is-0, c.in-Bool-Bool.is-1) (bool_stands c.in-Bool-Bool.one c.in-Bool-Bool.other same)

pub stands_for-returns-in-Number-Number : goal.stands_for-returns-in-Number-Number
stands_for-returns-in-Number-Number t c = λ e. rw (c.in-Number-Number.is-0, c.in-Number-Number.is-1) (number_stands c.in-Number-Number.one c.in-Number-Number.other (c.is_same_number.ensures e))

pub stands_for-returns-in-String-String : goal.stands_for-returns-in-String-String
stands_for-returns-in-String-String t c = λ e.
    let same : string_bytes c.in-String-String.one ≡ string_bytes c.in-String-String.other = search rules in
    rw (c.in-String-String.is-0, c.in-String-String.is-1) (string_stands c.in-String-String.one c.in-String-String.other same)

pub stands_for-returns-in-Array-Array : goal.stands_for-returns-in-Array-Array
stands_for-returns-in-Array-Array t c = λ e.
    let h : StandForItems (items_view c.in-Array-Array.one.items) (items_view c.in-Array-Array.other.items) = rw (c.as_slice.ensures.value, c.as_slice-in-Array-Array.ensures.value) at (c.items_stand.ensures e) in
    rw (c.in-Array-Array.is-0, c.in-Array-Array.is-1) (array_stands c.in-Array-Array.one c.in-Array-Array.other h)

pub stands_for-returns-then-has_members : goal.stands_for-returns-then-has_members
stands_for-returns-then-has_members t c = λ e.
    rw (c.in-Object-Object.is-0, c.in-Object-Object.is-1) (object_stands c.in-Object-Object.given c.in-Object-Object.written (rw (c.in-Object-Object.is-0) at (c.has_members.ensures c.if-has_members.true)) (rw (c.in-Object-Object.is-1) at (c.are_members.ensures e)))

pub has_members-loop-key-preserved-else-not-stands_for : goal.has_members-loop-key-preserved-else-not-stands_for
has_members-loop-key-preserved-else-not-stands_for t c =
    let l = c.loop-key in
    let e : Entry = (c.in-Some.key.now, c.in-Some.written.now) in
    let stands : StandsFor (view c.in-Some-get.given.now) (view e.1) = c.stands_for.ensures (search rules) in
    member_taken (view c.args.line.now) c.args.row.now.entries l.invariant.0 c.next.new.self l.key-iterator e l.invariant.1.0 c.in-Some.ensures.steps (found_stands (view c.args.line.now) (view e.1) c.as_str.result.now (string_bytes e.0) c.get.result c.in-Some-get.given c.in-Some-get.is c.get.ensures c.as_str.ensures.value stands) l.invariant.1.1

pub has_members-loop-key-preserved : goal.has_members-loop-key-preserved
has_members-loop-key-preserved t c =
    let l = c.loop-key in
    let e : Entry = (c.in-Some.key.now, c.in-Some.written.now) in
    let is_null : view e.1 ≡ null = search rules in
    member_taken (view c.args.line.now) c.args.row.now.entries l.invariant.0 c.next.new.self l.key-iterator e l.invariant.1.0 c.in-Some.ensures.steps (absent_stands (view c.args.line.now) (view e.1) c.as_str.result.now (string_bytes e.0) c.get.result c.in-None-get.is c.get.ensures c.as_str.ensures.value is_null) l.invariant.1.1

pub has_members-stands_for-requires : goal.has_members-stands_for-requires
has_members-stands_for-requires t c = (rw c.decreases at (member_smaller c.args.row.now.entries c.loop-key.invariant.0 c.next.new.self c.loop-key.key-iterator (c.in-Some.key.now, c.in-Some.written.now) c.loop-key.invariant.1.0 c.in-Some.ensures.steps), tt)

pub stands_for-items_stand-requires : goal.stands_for-items_stand-requires
stands_for-items_stand-requires t c = (rw c.decreases at (items_smaller c.in-Array-Array.other c.args.row.now c.as_slice-in-Array-Array.result.now c.in-Array-Array.is-1 c.as_slice-in-Array-Array.ensures.value), tt)

pub stands_for-has_members-requires : goal.stands_for-has_members-requires
stands_for-has_members-requires t c = (rw c.decreases at (members_smaller c.in-Object-Object.written c.args.row.now c.in-Object-Object.is-1), tt)

pub items_stand-stands_for-requires : goal.items_stand-stands_for-requires
items_stand-stands_for-requires t c =
    let within : c.loop-index.index < length c.args.row.now = c.loop-index-test.true in
    (rw c.decreases at (item_smaller c.args.row.now c.loop-index.index c.index-row-index.result c.index-row-index.result within (search rules)), tt)
