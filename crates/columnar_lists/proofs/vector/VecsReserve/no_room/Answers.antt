use Rattle.columnar_lists.proofs.vector.VecsReserve.no_room.Goals as goal

pub returns : goal.returns
returns g c = λ p. (c.no_room.ensures p.0, c.no_room-2.ensures p.1)
