use Rattle.std.proofs.Common.{inl, map}
use Rattle.columnar_base.specs.ChangeLaws.{passed_on}
use Rattle.columnar_lists.specs.ListLaws.{took_length, lists_parts, lists_last}
use Rattle.columnar_lists.specs.ListPushLaws.{items_not_taken, on_drained, on_not_drained, on_end_refused, on_list_ended}
use Rattle.columnar_lists.specs.RoomLaws.{on_list_leaves, on_list_full, on_all_left, on_all_full}
use Rattle.columnar_lists.proofs.vector.Vecs.push_iter.Goals as goal

pub len-before-requires : goal.len-before-requires
len-before-requires g c = (lists_parts g.BC.Column.format g.TC.Column.format c.requires.sound).values

pub take_items-requires-clause-sound : goal.take_items-requires-clause-sound
take_items-requires-clause-sound g c = (lists_parts g.BC.Column.format g.TC.Column.format c.requires.sound).values

pub returns-in_err-take_items-clause-err : goal.returns-in_err-take_items-clause-err
returns-in_err-take_items-clause-err g c =
    let p = c.in_err-take_items.ensures.err in
    rw (passed_on c.from_residual.result c.from_residual.ensures.1) ((p.0, p.1, (p.2.0, items_not_taken g.BC.Column.format g.TC.Column.format c.requires.sound p.2.1)))

pub end_list-requires-clause-bounds : goal.end_list-requires-clause-bounds
end_list-requires-clause-bounds g c = (lists_parts g.BC.Column.format g.TC.Column.format c.requires.sound).bounds

pub returns-clause-ok : goal.returns-clause-ok
returns-clause-ok g c = let p = c.in_ok-take_items.ensures.ok in on_drained c.end_list.result g.BC.Column.format g.TC.Column.format (g.BC.Column.content c.end_list.new.bounds) (g.TC.Column.content c.end_list.new.values) g.I.Iterator.next_gives c.args.items g.I.Item.Item.meaning p.0 g.met.BC.Offsets.bounds c.requires.sound p.1.0 p.1.1 c.end_list.ensures.ok

pub returns-clause-err : goal.returns-clause-err
returns-clause-err g c = let p = c.in_ok-take_items.ensures.ok in on_not_drained c.end_list.result g.BC.Column.format g.TC.Column.format (g.BC.Column.content c.end_list.new.bounds) (g.TC.Column.content c.end_list.new.values) c.len-before.result g.I.Iterator.next_gives c.args.items g.I.Item.Item.meaning p.0 c.len-before.ensures g.met.TC.Truncate.lawful c.requires.sound p.1.0 p.1.1 c.end_list.ensures.err

pub returns-in_err-take_items-clause-cause : goal.returns-in_err-take_items-clause-cause
returns-in_err-take_items-clause-cause g c =
    let p = c.in_err-take_items.ensures.err in
    rw (passed_on c.from_residual.result c.from_residual.ensures.1) ((p.0, inl (p.1, (p.2.0, p.2.1.cause))))

pub returns-clause-cause : goal.returns-clause-cause
returns-clause-cause g c = let p = c.in_ok-take_items.ensures.ok in on_end_refused c.end_list.result g.BC.Column.format g.TC.Column.format (g.BC.Column.content c.args.self.now.bounds) (g.BC.Column.content c.end_list.new.bounds) (g.TC.Column.content c.end_list.new.values) c.len-before.result g.I.Iterator.next_gives c.args.items g.I.Item.Item.meaning p.0 p.1.0 p.1.1 c.end_list.ensures.err

pub returns-in_err-take_items-clause-wanted : goal.returns-in_err-take_items-clause-wanted
returns-in_err-take_items-clause-wanted g c = λ k.
    let p = c.in_err-take_items.ensures.wanted k in
    rw (passed_on c.from_residual.result c.from_residual.ensures.1) ((p.0, inl (p.1, (p.2.0, p.2.1.1))))

pub returns-clause-wanted : goal.returns-clause-wanted
returns-clause-wanted g c = λ k.
    let p = c.in_ok-take_items.ensures.ok in
    on_all_full c.end_list.result _ _ g.I.Iterator.next_gives c.args.items g.I.Item.Item.meaning p.0 p.1.0 (on_list_full c.end_list.result _ (g.TC.Column.room c.args.self.now.values) _ _ (map g.I.Item.Item.meaning p.0) (took_length p.1.1) c.end_list.ensures.wanted)

pub returns-clause-left : goal.returns-clause-left
returns-clause-left g c =
    let p = c.in_ok-take_items.ensures.left in
    let took = on_list_ended c.end_list.result g.BC.Column.format g.TC.Column.format (g.BC.Column.content c.end_list.new.bounds) (g.TC.Column.content c.end_list.new.values) g.met.BC.Offsets.bounds c.requires.sound p.1.1.0 c.end_list.ensures.ok in
    let left = on_list_leaves _ c.end_list.result g.TC.Column.format (g.TC.Column.content c.take_items.new.values) (g.TC.Column.content c.end_list.new.values) _ _ _ _ _ _ _ (took_length p.1.1.0) c.end_list.ensures.ok p.1.1.1 c.end_list.ensures.left c.end_list.ensures.values in
    on_all_left c.end_list.result _ _ _ _ _ g.I.Iterator.next_gives c.args.items g.I.Item.Item.meaning p.0 p.1.0 took left

pub end_list-requires-clause-last : goal.end_list-requires-clause-last
end_list-requires-clause-last g c = lists_last g.BC.Column.format g.TC.Column.format c.len-before.result c.requires.sound c.len-before.ensures
