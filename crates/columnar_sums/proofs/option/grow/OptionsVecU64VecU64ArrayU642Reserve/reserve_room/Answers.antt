use Rattle.columnar_sums.specs.OptionLaws.{options_parts, options_stayed}
use Rattle.columnar_core.specs.ChangeLaws.{unchanged}
use Rattle.std.proofs.lemmas.Result.{on_ok_weaker}
use Rattle.columnar_core.specs.RoomLaws.{both_keep, through_keeps}
use Rattle.columnar_sums.specs.Options.{somes}
use Rattle.columnar_sums.proofs.option.grow.OptionsVecU64VecU64ArrayU642Reserve.reserve_room.Goals as goal

pub returns-in_err-reserve_room-clause-stayed : goal.returns-in_err-reserve_room-clause-stayed
returns-in_err-reserve_room-clause-stayed g c = options_stayed g.TC.Column.format c.requires c.reserve_room.ensures.stayed (unchanged (options_parts g.TC.Column.format c.requires).values)

pub reserve_room-requires-2 : goal.reserve_room-requires-2
reserve_room-requires-2 g c = (options_parts g.TC.Column.format c.requires).values

pub returns-clause-stayed : goal.returns-clause-stayed
returns-clause-stayed g c = options_stayed g.TC.Column.format c.requires c.reserve_room.ensures.stayed c.reserve_room-2.ensures.stayed

pub returns-clause-room : goal.returns-clause-room
returns-clause-room g c = on_ok_weaker c.reserve_room-2.result (λ k h. both_keep (c.in_ok-reserve_room.ensures.room tt) (through_keeps somes (k h))) c.reserve_room-2.ensures.room
