-- Made by .ci/widths.py: change .ci/widths/cells_answers.template, and not this file.
use Rattle.std.proofs.Common.{[], ◌∷◌}
use Rattle.columnar_base.specs.LongTupleLaws.{tuple_parts, within}
use Rattle.columnar_cells.specs.RowAtLaws.{tuple_row}
use Rattle.columnar_cells.specs.WroteLaws.{tuple_wrote, nested_wrote}
use Rattle.columnar_cells.proofs.tuple.nine.Tuple9SetRow.set_row.Goals as goal

pub set_row-requires-clause-sound : goal.set_row-requires-clause-sound
set_row-requires-clause-sound g c = (tuple_parts g.A.Column.format g.B.Column.format (g.C.Column.format ∷ g.D.Column.format ∷ g.E.Column.format ∷ g.F.Column.format ∷ g.G.Column.format ∷ g.H.Column.format ∷ g.I.Column.format ∷ []) c.requires.sound).0.sound

pub set_row-requires-2-clause-sound : goal.set_row-requires-2-clause-sound
set_row-requires-2-clause-sound g c = (tuple_parts g.A.Column.format g.B.Column.format (g.C.Column.format ∷ g.D.Column.format ∷ g.E.Column.format ∷ g.F.Column.format ∷ g.G.Column.format ∷ g.H.Column.format ∷ g.I.Column.format ∷ []) c.requires.sound).1.0.sound

pub set_row-requires-3-clause-sound : goal.set_row-requires-3-clause-sound
set_row-requires-3-clause-sound g c = (tuple_parts g.A.Column.format g.B.Column.format (g.C.Column.format ∷ g.D.Column.format ∷ g.E.Column.format ∷ g.F.Column.format ∷ g.G.Column.format ∷ g.H.Column.format ∷ g.I.Column.format ∷ []) c.requires.sound).1.1.0.sound

pub set_row-requires-4-clause-sound : goal.set_row-requires-4-clause-sound
set_row-requires-4-clause-sound g c = (tuple_parts g.A.Column.format g.B.Column.format (g.C.Column.format ∷ g.D.Column.format ∷ g.E.Column.format ∷ g.F.Column.format ∷ g.G.Column.format ∷ g.H.Column.format ∷ g.I.Column.format ∷ []) c.requires.sound).1.1.1.0.sound

pub set_row-requires-5-clause-sound : goal.set_row-requires-5-clause-sound
set_row-requires-5-clause-sound g c = (tuple_parts g.A.Column.format g.B.Column.format (g.C.Column.format ∷ g.D.Column.format ∷ g.E.Column.format ∷ g.F.Column.format ∷ g.G.Column.format ∷ g.H.Column.format ∷ g.I.Column.format ∷ []) c.requires.sound).1.1.1.1.0.sound

pub set_row-requires-6-clause-sound : goal.set_row-requires-6-clause-sound
set_row-requires-6-clause-sound g c = (tuple_parts g.A.Column.format g.B.Column.format (g.C.Column.format ∷ g.D.Column.format ∷ g.E.Column.format ∷ g.F.Column.format ∷ g.G.Column.format ∷ g.H.Column.format ∷ g.I.Column.format ∷ []) c.requires.sound).1.1.1.1.1.0.sound

pub set_row-requires-7-clause-sound : goal.set_row-requires-7-clause-sound
set_row-requires-7-clause-sound g c = (tuple_parts g.A.Column.format g.B.Column.format (g.C.Column.format ∷ g.D.Column.format ∷ g.E.Column.format ∷ g.F.Column.format ∷ g.G.Column.format ∷ g.H.Column.format ∷ g.I.Column.format ∷ []) c.requires.sound).1.1.1.1.1.1.0.sound

pub set_row-requires-8-clause-sound : goal.set_row-requires-8-clause-sound
set_row-requires-8-clause-sound g c = (tuple_parts g.A.Column.format g.B.Column.format (g.C.Column.format ∷ g.D.Column.format ∷ g.E.Column.format ∷ g.F.Column.format ∷ g.G.Column.format ∷ g.H.Column.format ∷ g.I.Column.format ∷ []) c.requires.sound).1.1.1.1.1.1.1.0.sound

pub set_row-requires-9-clause-sound : goal.set_row-requires-9-clause-sound
set_row-requires-9-clause-sound g c = (tuple_parts g.A.Column.format g.B.Column.format (g.C.Column.format ∷ g.D.Column.format ∷ g.E.Column.format ∷ g.F.Column.format ∷ g.G.Column.format ∷ g.H.Column.format ∷ g.I.Column.format ∷ []) c.requires.sound).1.1.1.1.1.1.1.1.sound

pub set_row-requires-clause-in_range : goal.set_row-requires-clause-in_range
set_row-requires-clause-in_range g c = within (tuple_parts g.A.Column.format g.B.Column.format (g.C.Column.format ∷ g.D.Column.format ∷ g.E.Column.format ∷ g.F.Column.format ∷ g.G.Column.format ∷ g.H.Column.format ∷ g.I.Column.format ∷ []) c.requires.sound).0 c.requires.in_range

pub set_row-requires-2-clause-in_range : goal.set_row-requires-2-clause-in_range
set_row-requires-2-clause-in_range g c = within (tuple_parts g.A.Column.format g.B.Column.format (g.C.Column.format ∷ g.D.Column.format ∷ g.E.Column.format ∷ g.F.Column.format ∷ g.G.Column.format ∷ g.H.Column.format ∷ g.I.Column.format ∷ []) c.requires.sound).1.0 c.requires.in_range

pub set_row-requires-3-clause-in_range : goal.set_row-requires-3-clause-in_range
set_row-requires-3-clause-in_range g c = within (tuple_parts g.A.Column.format g.B.Column.format (g.C.Column.format ∷ g.D.Column.format ∷ g.E.Column.format ∷ g.F.Column.format ∷ g.G.Column.format ∷ g.H.Column.format ∷ g.I.Column.format ∷ []) c.requires.sound).1.1.0 c.requires.in_range

pub set_row-requires-4-clause-in_range : goal.set_row-requires-4-clause-in_range
set_row-requires-4-clause-in_range g c = within (tuple_parts g.A.Column.format g.B.Column.format (g.C.Column.format ∷ g.D.Column.format ∷ g.E.Column.format ∷ g.F.Column.format ∷ g.G.Column.format ∷ g.H.Column.format ∷ g.I.Column.format ∷ []) c.requires.sound).1.1.1.0 c.requires.in_range

pub set_row-requires-5-clause-in_range : goal.set_row-requires-5-clause-in_range
set_row-requires-5-clause-in_range g c = within (tuple_parts g.A.Column.format g.B.Column.format (g.C.Column.format ∷ g.D.Column.format ∷ g.E.Column.format ∷ g.F.Column.format ∷ g.G.Column.format ∷ g.H.Column.format ∷ g.I.Column.format ∷ []) c.requires.sound).1.1.1.1.0 c.requires.in_range

pub set_row-requires-6-clause-in_range : goal.set_row-requires-6-clause-in_range
set_row-requires-6-clause-in_range g c = within (tuple_parts g.A.Column.format g.B.Column.format (g.C.Column.format ∷ g.D.Column.format ∷ g.E.Column.format ∷ g.F.Column.format ∷ g.G.Column.format ∷ g.H.Column.format ∷ g.I.Column.format ∷ []) c.requires.sound).1.1.1.1.1.0 c.requires.in_range

pub set_row-requires-7-clause-in_range : goal.set_row-requires-7-clause-in_range
set_row-requires-7-clause-in_range g c = within (tuple_parts g.A.Column.format g.B.Column.format (g.C.Column.format ∷ g.D.Column.format ∷ g.E.Column.format ∷ g.F.Column.format ∷ g.G.Column.format ∷ g.H.Column.format ∷ g.I.Column.format ∷ []) c.requires.sound).1.1.1.1.1.1.0 c.requires.in_range

pub set_row-requires-8-clause-in_range : goal.set_row-requires-8-clause-in_range
set_row-requires-8-clause-in_range g c = within (tuple_parts g.A.Column.format g.B.Column.format (g.C.Column.format ∷ g.D.Column.format ∷ g.E.Column.format ∷ g.F.Column.format ∷ g.G.Column.format ∷ g.H.Column.format ∷ g.I.Column.format ∷ []) c.requires.sound).1.1.1.1.1.1.1.0 c.requires.in_range

pub set_row-requires-9-clause-in_range : goal.set_row-requires-9-clause-in_range
set_row-requires-9-clause-in_range g c = within (tuple_parts g.A.Column.format g.B.Column.format (g.C.Column.format ∷ g.D.Column.format ∷ g.E.Column.format ∷ g.F.Column.format ∷ g.G.Column.format ∷ g.H.Column.format ∷ g.I.Column.format ∷ []) c.requires.sound).1.1.1.1.1.1.1.1 c.requires.in_range

pub set_row-requires-clause-fits : goal.set_row-requires-clause-fits
set_row-requires-clause-fits g c = let f = rw (tuple_row g.A.Column.format g.B.Column.format (g.C.Column.format ∷ g.D.Column.format ∷ g.E.Column.format ∷ g.F.Column.format ∷ g.G.Column.format ∷ g.H.Column.format ∷ g.I.Column.format ∷ []) c.args.index c.requires.sound c.requires.in_range) at c.requires.fits in f.0

pub set_row-requires-2-clause-fits : goal.set_row-requires-2-clause-fits
set_row-requires-2-clause-fits g c = let f = rw (tuple_row g.A.Column.format g.B.Column.format (g.C.Column.format ∷ g.D.Column.format ∷ g.E.Column.format ∷ g.F.Column.format ∷ g.G.Column.format ∷ g.H.Column.format ∷ g.I.Column.format ∷ []) c.args.index c.requires.sound c.requires.in_range) at c.requires.fits in f.1.0

pub set_row-requires-3-clause-fits : goal.set_row-requires-3-clause-fits
set_row-requires-3-clause-fits g c = let f = rw (tuple_row g.A.Column.format g.B.Column.format (g.C.Column.format ∷ g.D.Column.format ∷ g.E.Column.format ∷ g.F.Column.format ∷ g.G.Column.format ∷ g.H.Column.format ∷ g.I.Column.format ∷ []) c.args.index c.requires.sound c.requires.in_range) at c.requires.fits in f.1.1.0

pub set_row-requires-4-clause-fits : goal.set_row-requires-4-clause-fits
set_row-requires-4-clause-fits g c = let f = rw (tuple_row g.A.Column.format g.B.Column.format (g.C.Column.format ∷ g.D.Column.format ∷ g.E.Column.format ∷ g.F.Column.format ∷ g.G.Column.format ∷ g.H.Column.format ∷ g.I.Column.format ∷ []) c.args.index c.requires.sound c.requires.in_range) at c.requires.fits in f.1.1.1.0

pub set_row-requires-5-clause-fits : goal.set_row-requires-5-clause-fits
set_row-requires-5-clause-fits g c = let f = rw (tuple_row g.A.Column.format g.B.Column.format (g.C.Column.format ∷ g.D.Column.format ∷ g.E.Column.format ∷ g.F.Column.format ∷ g.G.Column.format ∷ g.H.Column.format ∷ g.I.Column.format ∷ []) c.args.index c.requires.sound c.requires.in_range) at c.requires.fits in f.1.1.1.1.0

pub set_row-requires-6-clause-fits : goal.set_row-requires-6-clause-fits
set_row-requires-6-clause-fits g c = let f = rw (tuple_row g.A.Column.format g.B.Column.format (g.C.Column.format ∷ g.D.Column.format ∷ g.E.Column.format ∷ g.F.Column.format ∷ g.G.Column.format ∷ g.H.Column.format ∷ g.I.Column.format ∷ []) c.args.index c.requires.sound c.requires.in_range) at c.requires.fits in f.1.1.1.1.1.0

pub set_row-requires-7-clause-fits : goal.set_row-requires-7-clause-fits
set_row-requires-7-clause-fits g c = let f = rw (tuple_row g.A.Column.format g.B.Column.format (g.C.Column.format ∷ g.D.Column.format ∷ g.E.Column.format ∷ g.F.Column.format ∷ g.G.Column.format ∷ g.H.Column.format ∷ g.I.Column.format ∷ []) c.args.index c.requires.sound c.requires.in_range) at c.requires.fits in f.1.1.1.1.1.1.0

pub set_row-requires-8-clause-fits : goal.set_row-requires-8-clause-fits
set_row-requires-8-clause-fits g c = let f = rw (tuple_row g.A.Column.format g.B.Column.format (g.C.Column.format ∷ g.D.Column.format ∷ g.E.Column.format ∷ g.F.Column.format ∷ g.G.Column.format ∷ g.H.Column.format ∷ g.I.Column.format ∷ []) c.args.index c.requires.sound c.requires.in_range) at c.requires.fits in f.1.1.1.1.1.1.1.0

pub set_row-requires-9-clause-fits : goal.set_row-requires-9-clause-fits
set_row-requires-9-clause-fits g c = let f = rw (tuple_row g.A.Column.format g.B.Column.format (g.C.Column.format ∷ g.D.Column.format ∷ g.E.Column.format ∷ g.F.Column.format ∷ g.G.Column.format ∷ g.H.Column.format ∷ g.I.Column.format ∷ []) c.args.index c.requires.sound c.requires.in_range) at c.requires.fits in f.1.1.1.1.1.1.1.1

pub returns : goal.returns
returns g c = tuple_wrote g.A.Column.format g.B.Column.format (g.C.Column.format ∷ g.D.Column.format ∷ g.E.Column.format ∷ g.F.Column.format ∷ g.G.Column.format ∷ g.H.Column.format ∷ g.I.Column.format ∷ []) c.args.index _ _ c.requires.sound c.set_row.ensures (λ s. nested_wrote g.B.Column.format g.C.Column.format (g.D.Column.format ∷ g.E.Column.format ∷ g.F.Column.format ∷ g.G.Column.format ∷ g.H.Column.format ∷ g.I.Column.format ∷ []) c.args.index _ _ s c.set_row-2.ensures (λ s. nested_wrote g.C.Column.format g.D.Column.format (g.E.Column.format ∷ g.F.Column.format ∷ g.G.Column.format ∷ g.H.Column.format ∷ g.I.Column.format ∷ []) c.args.index _ _ s c.set_row-3.ensures (λ s. nested_wrote g.D.Column.format g.E.Column.format (g.F.Column.format ∷ g.G.Column.format ∷ g.H.Column.format ∷ g.I.Column.format ∷ []) c.args.index _ _ s c.set_row-4.ensures (λ s. nested_wrote g.E.Column.format g.F.Column.format (g.G.Column.format ∷ g.H.Column.format ∷ g.I.Column.format ∷ []) c.args.index _ _ s c.set_row-5.ensures (λ s. nested_wrote g.F.Column.format g.G.Column.format (g.H.Column.format ∷ g.I.Column.format ∷ []) c.args.index _ _ s c.set_row-6.ensures (λ s. nested_wrote g.G.Column.format g.H.Column.format (g.I.Column.format ∷ []) c.args.index _ _ s c.set_row-7.ensures (λ s. nested_wrote g.H.Column.format g.I.Column.format [] c.args.index _ _ s c.set_row-8.ensures (λ s. c.set_row-9.ensures))))))))
