use Rattle.columnar_core.specs.ChangeLaws.{unchanged}
use Rattle.columnar_variants.specs.DualLaws.{dual_stayed, firsts_sound, seconds_sound, forms_sound}
use Rattle.columnar_variants.proofs.dual.reserve_dual.Goals as goal

pub reserve_room-requires : goal.reserve_room-requires
reserve_room-requires g c = firsts_sound g.SC.Column.format g.TC.Column.format c.requires

pub returns-in_err-reserve_room-clause-stayed : goal.returns-in_err-reserve_room-clause-stayed
returns-in_err-reserve_room-clause-stayed g c = dual_stayed g.SC.Column.format g.TC.Column.format c.requires c.reserve_room.ensures.stayed (unchanged (seconds_sound g.SC.Column.format g.TC.Column.format c.requires))

pub reserve_room-requires-2 : goal.reserve_room-requires-2
reserve_room-requires-2 g c = seconds_sound g.SC.Column.format g.TC.Column.format c.requires

pub returns-in_err-reserve_room-2-clause-stayed : goal.returns-in_err-reserve_room-2-clause-stayed
returns-in_err-reserve_room-2-clause-stayed g c = dual_stayed g.SC.Column.format g.TC.Column.format c.requires c.reserve_room.ensures.stayed c.reserve_room-2.ensures.stayed

pub reserve_room-requires-3 : goal.reserve_room-requires-3
reserve_room-requires-3 g c = forms_sound g.SC.Column.format g.TC.Column.format c.requires

pub returns-clause-stayed : goal.returns-clause-stayed
returns-clause-stayed g c = rw (c.reserve_room-3.ensures.variants_stay, c.reserve_room-3.ensures.offsets_stay) (dual_stayed g.SC.Column.format g.TC.Column.format c.requires c.reserve_room.ensures.stayed c.reserve_room-2.ensures.stayed)
