use Rattle.columnar_base.specs.ChangeLaws.{unchanged}
use Rattle.columnar_lists.specs.ListLaws.{lists_parts, lists_last, lists_stayed}
use Rattle.std.proofs.Common.{length, refl, sym}
use Rattle.columnar_lists.specs.RoomLaws.{both_lists_reserved}
use Rattle.columnar_lists.proofs.parts.reserve_lists.Goals as goal

pub reserve_room-requires : goal.reserve_room-requires
reserve_room-requires g c = (lists_parts g.BC.Column.format g.TC.Column.format c.requires).bounds

pub reserve_room-requires-2 : goal.reserve_room-requires-2
reserve_room-requires-2 g c = (lists_parts g.BC.Column.format g.TC.Column.format c.requires).values

pub returns-in_err-reserve_room-clause-stayed : goal.returns-in_err-reserve_room-clause-stayed
returns-in_err-reserve_room-clause-stayed g c = lists_stayed g.BC.Column.format g.TC.Column.format c.requires c.in_err-reserve_room.ensures.stayed (unchanged (lists_parts g.BC.Column.format g.TC.Column.format c.requires).values)

pub returns-clause-stayed : goal.returns-clause-stayed
returns-clause-stayed g c = lists_stayed g.BC.Column.format g.TC.Column.format c.requires c.in_ok-reserve_room.ensures.stayed c.reserve_room-2.ensures.stayed

pub returns-clause-room : goal.returns-clause-room
returns-clause-room g c =
    let s = lists_stayed g.BC.Column.format g.TC.Column.format c.requires c.in_ok-reserve_room.ensures.stayed c.reserve_room-2.ensures.stayed in
    let n = length (g.TC.Column.format.rows (g.TC.Column.content c.reserve_room-2.new.self)) in
    let l = lists_last g.BC.Column.format g.TC.Column.format n s.sound refl in
    both_lists_reserved g.BC.Reserve.reserves g.TC.Reserve.reserves (g.BC.Reserve.covers c.args.room.0) (g.TC.Reserve.covers c.args.room.1) (g.BC.Column.room c.reserve_room.new.self) (g.TC.Column.room c.reserve_room-2.new.self) n c.reserve_room-2.result (λ p os h. g.met.BC.ReserveOffsets.follow c.reserve_room.new.self c.args.room.0 n os (sym l) (c.in_ok-reserve_room.ensures.room p) h) c.reserve_room-2.ensures.room
