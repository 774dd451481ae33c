use Rattle.columnar_sums.proofs.result.grow.ResultsVecU64VecU64ArrayU642Reserve.no_room.Goals as goal

pub returns : goal.returns
returns g c = λ p. (c.no_room.ensures tt, (c.no_room-2.ensures p.0, c.no_room-3.ensures p.1))
