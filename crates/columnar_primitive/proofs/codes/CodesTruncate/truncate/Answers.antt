use Rattle.columnar_primitive.specs.MappedLaws.{mapped_cut}
use Rattle.std.proofs.lemmas.List.{length-map}
use Rattle.columnar_base.specs.RoomLaws.{counted_frees}
use Rattle.columnar_primitive.specs.Mapped.{mapped_format}
use Rattle.columnar_primitive.specs.MappedLaws.{mapped_parts}
use Rattle.columnar_primitive.proofs.codes.CodesTruncate.truncate.Goals as goal

pub returns-clause-cut : goal.returns-clause-cut
returns-clause-cut g c = mapped_cut g.CV.Column.format g.T.Coded.row_of g.T.Rule.is_code c.requires.sound c.truncate.ensures.cut

pub returns-clause-freed : goal.returns-clause-freed
returns-clause-freed g c = counted_frees (mapped_format g.CV.Column.format g.T.Coded.row_of g.T.Rule.is_code) g.CV.Column.format c.args.n (λ s. ((mapped_parts g.CV.Column.format g.T.Coded.row_of g.T.Rule.is_code s).values, length-map _ g.T.Coded.row_of)) (g.met.CV.CountedRoom.counted_room c.truncate.new.self) c.truncate.ensures.freed
