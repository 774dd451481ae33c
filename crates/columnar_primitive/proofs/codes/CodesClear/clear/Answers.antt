use Rattle.std.proofs.lemmas.List.{length-map}
use Rattle.columnar_base.specs.RoomLaws.{counted_frees}
use Rattle.columnar_primitive.specs.Mapped.{mapped_format}
use Rattle.columnar_primitive.specs.MappedLaws.{mapped_parts}
use Rattle.columnar_primitive.proofs.codes.CodesClear.clear.Goals as goal

pub returns-clause-freed : goal.returns-clause-freed
returns-clause-freed g c = counted_frees (mapped_format g.CV.Column.format g.T.Coded.row_of g.T.Rule.is_code) g.CV.Column.format 0 (λ s. ((mapped_parts g.CV.Column.format g.T.Coded.row_of g.T.Rule.is_code s).values, length-map _ g.T.Coded.row_of)) (g.met.CV.CountedRoom.counted_room c.clear.new.self) c.clear.ensures.freed
