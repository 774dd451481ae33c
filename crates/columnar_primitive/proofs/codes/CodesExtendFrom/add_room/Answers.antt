use Rattle.std.proofs.lemmas.List.{length-map}
use Rattle.columnar_base.specs.RoomLaws.{counted_adds}
use Rattle.columnar_primitive.specs.Mapped.{mapped_format}
use Rattle.columnar_primitive.specs.MappedLaws.{mapped_parts}
use Rattle.columnar_primitive.proofs.codes.CodesExtendFrom.add_room.Goals as goal

pub returns : goal.returns
returns g c = counted_adds (mapped_format g.V.Column.format g.T.Coded.row_of g.T.Rule.is_code) g.V.Column.format (λ s. ((mapped_parts g.V.Column.format g.T.Coded.row_of g.T.Rule.is_code s).values, length-map _ g.T.Coded.row_of)) (g.met.CV.ReserveCounted.counted_covers c.add_room.result) c.add_room.ensures
