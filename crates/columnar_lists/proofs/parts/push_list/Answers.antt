use Rattle.std.proofs.Common.{map}
use Rattle.columnar_base.specs.ChangeLaws.{passed_on}
use Rattle.columnar_lists.specs.ListLaws.{took_length, lists_parts, lists_last}
use Rattle.columnar_lists.specs.ListPushLaws.{items_not_taken, on_list_ended, on_list_refused}
use Rattle.columnar_lists.specs.RoomLaws.{list_full_values, on_list_leaves, on_list_full}
use Rattle.columnar_lists.proofs.parts.push_list.Goals as goal

pub len-before-requires : goal.len-before-requires
len-before-requires g c = (lists_parts g.BC.Column.format g.TC.Column.format c.requires.sound).values

pub push_slice-requires-clause-sound : goal.push_slice-requires-clause-sound
push_slice-requires-clause-sound g c = (lists_parts g.BC.Column.format g.TC.Column.format c.requires.sound).values

pub returns-in_err-push_slice-clause-err : goal.returns-in_err-push_slice-clause-err
returns-in_err-push_slice-clause-err g c = rw (passed_on c.from_residual.result c.from_residual.ensures.1) (items_not_taken g.BC.Column.format g.TC.Column.format c.requires.sound c.in_err-push_slice.ensures.err)

pub end_list-requires-clause-bounds : goal.end_list-requires-clause-bounds
end_list-requires-clause-bounds g c = (lists_parts g.BC.Column.format g.TC.Column.format c.requires.sound).bounds

pub returns-clause-ok : goal.returns-clause-ok
returns-clause-ok g c = on_list_ended c.end_list.result g.BC.Column.format g.TC.Column.format (g.BC.Column.content c.end_list.new.bounds) (g.TC.Column.content c.end_list.new.values) g.met.BC.Offsets.bounds c.requires.sound c.in_ok-push_slice.ensures.ok c.end_list.ensures.ok

pub returns-clause-err : goal.returns-clause-err
returns-clause-err g c = on_list_refused c.end_list.result g.BC.Column.format g.TC.Column.format (g.BC.Column.content c.end_list.new.bounds) (g.TC.Column.content c.end_list.new.values) c.len-before.result c.len-before.ensures g.met.TC.Truncate.lawful c.requires.sound c.in_ok-push_slice.ensures.ok c.end_list.ensures.err

pub end_list-requires-clause-last : goal.end_list-requires-clause-last
end_list-requires-clause-last g c = lists_last g.BC.Column.format g.TC.Column.format c.len-before.result c.requires.sound c.len-before.ensures

pub returns-in_err-push_slice-clause-wanted : goal.returns-in_err-push_slice-clause-wanted
returns-in_err-push_slice-clause-wanted g c = λ k. rw (passed_on c.from_residual.result c.from_residual.ensures.1) (list_full_values (g.BC.Column.room c.args.bounds.now) _ _ (c.in_err-push_slice.ensures.wanted k))

pub returns-clause-left : goal.returns-clause-left
returns-clause-left g c = on_list_leaves _ c.end_list.result g.TC.Column.format (g.TC.Column.content c.push_slice.new.self) _ _ _ _ _ _ _ _ (took_length c.in_ok-push_slice.ensures.ok) c.end_list.ensures.ok c.in_ok-push_slice.ensures.left c.end_list.ensures.left c.end_list.ensures.values

pub returns-clause-wanted : goal.returns-clause-wanted
returns-clause-wanted g c = λ k. on_list_full c.end_list.result _ (g.TC.Column.room c.args.values.now) _ _ (map g.T.Item.meaning c.args.items.now) (took_length c.in_ok-push_slice.ensures.ok) c.end_list.ensures.wanted
