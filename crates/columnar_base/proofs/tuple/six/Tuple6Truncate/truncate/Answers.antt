-- Made by .ci/widths.py: change .ci/widths/answers.template, and not this file.
use Rattle.std.proofs.Common.{[], ◌∷◌}
use Rattle.columnar_base.specs.LongTuples.{nested}
use Rattle.columnar_base.specs.LongTupleLaws.{tuple_parts, up_to, tuple_cut}
use Rattle.columnar_base.specs.RoomLaws.{pair_frees}
use Rattle.columnar_base.specs.EntryLaws.{tuple_frees}
use Rattle.columnar_base.proofs.tuple.six.Tuple6Truncate.truncate.Goals as goal

pub truncate-requires : goal.truncate-requires
truncate-requires g c = let p = (tuple_parts g.A.Column.format g.B.Column.format (g.C.Column.format ∷ g.D.Column.format ∷ g.E.Column.format ∷ g.F.Column.format ∷ []) c.requires.sound).0 in record { sound = p.sound; in_range = up_to p c.requires.in_range }

pub truncate-requires-2 : goal.truncate-requires-2
truncate-requires-2 g c = let p = (tuple_parts g.A.Column.format g.B.Column.format (g.C.Column.format ∷ g.D.Column.format ∷ g.E.Column.format ∷ g.F.Column.format ∷ []) c.requires.sound).1.0 in record { sound = p.sound; in_range = up_to p c.requires.in_range }

pub truncate-requires-3 : goal.truncate-requires-3
truncate-requires-3 g c = let p = (tuple_parts g.A.Column.format g.B.Column.format (g.C.Column.format ∷ g.D.Column.format ∷ g.E.Column.format ∷ g.F.Column.format ∷ []) c.requires.sound).1.1.0 in record { sound = p.sound; in_range = up_to p c.requires.in_range }

pub truncate-requires-4 : goal.truncate-requires-4
truncate-requires-4 g c = let p = (tuple_parts g.A.Column.format g.B.Column.format (g.C.Column.format ∷ g.D.Column.format ∷ g.E.Column.format ∷ g.F.Column.format ∷ []) c.requires.sound).1.1.1.0 in record { sound = p.sound; in_range = up_to p c.requires.in_range }

pub truncate-requires-5 : goal.truncate-requires-5
truncate-requires-5 g c = let p = (tuple_parts g.A.Column.format g.B.Column.format (g.C.Column.format ∷ g.D.Column.format ∷ g.E.Column.format ∷ g.F.Column.format ∷ []) c.requires.sound).1.1.1.1.0 in record { sound = p.sound; in_range = up_to p c.requires.in_range }

pub truncate-requires-6 : goal.truncate-requires-6
truncate-requires-6 g c = let p = (tuple_parts g.A.Column.format g.B.Column.format (g.C.Column.format ∷ g.D.Column.format ∷ g.E.Column.format ∷ g.F.Column.format ∷ []) c.requires.sound).1.1.1.1.1 in record { sound = p.sound; in_range = up_to p c.requires.in_range }

pub returns-clause-cut : goal.returns-clause-cut
returns-clause-cut g c = tuple_cut g.A.Column.format g.B.Column.format (g.C.Column.format ∷ g.D.Column.format ∷ g.E.Column.format ∷ g.F.Column.format ∷ []) c.args.n c.requires.sound (c.truncate.ensures.cut, (c.truncate-2.ensures.cut, (c.truncate-3.ensures.cut, (c.truncate-4.ensures.cut, (c.truncate-5.ensures.cut, c.truncate-6.ensures.cut)))))

pub returns-clause-freed : goal.returns-clause-freed
returns-clause-freed g c = tuple_frees g.A.Column.format g.B.Column.format (g.C.Column.format ∷ g.D.Column.format ∷ g.E.Column.format ∷ g.F.Column.format ∷ []) c.args.n (pair_frees g.A.Column.format (nested g.B.Column.format (g.C.Column.format ∷ g.D.Column.format ∷ g.E.Column.format ∷ g.F.Column.format ∷ [])) c.args.n c.truncate.ensures.freed (pair_frees g.B.Column.format (nested g.C.Column.format (g.D.Column.format ∷ g.E.Column.format ∷ g.F.Column.format ∷ [])) c.args.n c.truncate-2.ensures.freed (pair_frees g.C.Column.format (nested g.D.Column.format (g.E.Column.format ∷ g.F.Column.format ∷ [])) c.args.n c.truncate-3.ensures.freed (pair_frees g.D.Column.format (nested g.E.Column.format (g.F.Column.format ∷ [])) c.args.n c.truncate-4.ensures.freed (pair_frees g.E.Column.format (nested g.F.Column.format ([])) c.args.n c.truncate-5.ensures.freed c.truncate-6.ensures.freed)))))
