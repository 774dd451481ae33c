use Rattle.columnar_core.specs.ChangeLaws.{unchanged}
use Rattle.columnar_sums.specs.ResultLaws.{results_parts, results_stayed}
use Rattle.std.proofs.lemmas.Result.{on_ok_weaker}
use Rattle.columnar_core.specs.RoomLaws.{both_keep, through_keeps}
use Rattle.columnar_sums.specs.Results.{oks, errs}
use Rattle.columnar_sums.proofs.result.grow.ResultsVecU64VecU64ArrayU642Reserve.reserve_room.Goals as goal

pub returns-in_err-reserve_room-clause-stayed : goal.returns-in_err-reserve_room-clause-stayed
returns-in_err-reserve_room-clause-stayed g c =
    let p = results_parts g.SC.Column.format g.TC.Column.format c.requires in
    results_stayed g.SC.Column.format g.TC.Column.format c.requires c.reserve_room.ensures.stayed (unchanged p.oks) (unchanged p.errs)

pub reserve_room-requires-2 : goal.reserve_room-requires-2
reserve_room-requires-2 g c = (results_parts g.SC.Column.format g.TC.Column.format c.requires).oks

pub returns-in_err-reserve_room-2-clause-stayed : goal.returns-in_err-reserve_room-2-clause-stayed
returns-in_err-reserve_room-2-clause-stayed g c = results_stayed g.SC.Column.format g.TC.Column.format c.requires c.reserve_room.ensures.stayed c.reserve_room-2.ensures.stayed (unchanged (results_parts g.SC.Column.format g.TC.Column.format c.requires).errs)

pub reserve_room-requires-3 : goal.reserve_room-requires-3
reserve_room-requires-3 g c = (results_parts g.SC.Column.format g.TC.Column.format c.requires).errs

pub returns-clause-stayed : goal.returns-clause-stayed
returns-clause-stayed g c = results_stayed g.SC.Column.format g.TC.Column.format c.requires c.reserve_room.ensures.stayed c.reserve_room-2.ensures.stayed c.reserve_room-3.ensures.stayed

pub returns-clause-room : goal.returns-clause-room
returns-clause-room g c = on_ok_weaker c.reserve_room-3.result (λ k h. both_keep (c.in_ok-reserve_room.ensures.room tt) (both_keep (through_keeps oks (c.in_ok-reserve_room-2.ensures.room h.0)) (through_keeps errs (k h.1)))) c.reserve_room-3.ensures.room
