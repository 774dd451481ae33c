-- Made by .ci/widths.py: change .ci/widths/cells_field_answers.template, and not this file.
use Rattle.std.proofs.Common.{[], ◌∷◌}
use Rattle.columnar_base.specs.LongTupleLaws.{tuple_parts, within}
use Rattle.columnar_cells.specs.RowAtLaws.{tuple_row}
use Rattle.columnar_cells.specs.WroteLaws.{tuple_wrote, nested_wrote, part_kept}
use Rattle.columnar_cells.proofs.tuple.eight.Tuple8SetItemField5.set_item.Goals as goal

pub set_row-requires-clause-sound : goal.set_row-requires-clause-sound
set_row-requires-clause-sound g c = (tuple_parts g.A.Column.format g.B.Column.format (g.C.Column.format ∷ g.D.Column.format ∷ g.E.Column.format ∷ g.F.Column.format ∷ g.G.Column.format ∷ g.H.Column.format ∷ []) c.requires.sound).1.1.1.1.1.0.sound

pub set_row-requires-clause-in_range : goal.set_row-requires-clause-in_range
set_row-requires-clause-in_range g c = within (tuple_parts g.A.Column.format g.B.Column.format (g.C.Column.format ∷ g.D.Column.format ∷ g.E.Column.format ∷ g.F.Column.format ∷ g.G.Column.format ∷ g.H.Column.format ∷ []) c.requires.sound).1.1.1.1.1.0 c.requires.in_range

pub set_row-requires-clause-fits : goal.set_row-requires-clause-fits
set_row-requires-clause-fits g c = rw (tuple_row g.A.Column.format g.B.Column.format (g.C.Column.format ∷ g.D.Column.format ∷ g.E.Column.format ∷ g.F.Column.format ∷ g.G.Column.format ∷ g.H.Column.format ∷ []) c.args.index c.requires.sound c.requires.in_range) at c.requires.fits

pub returns : goal.returns
returns g c =
    let p = tuple_parts g.A.Column.format g.B.Column.format (g.C.Column.format ∷ g.D.Column.format ∷ g.E.Column.format ∷ g.F.Column.format ∷ g.G.Column.format ∷ g.H.Column.format ∷ []) c.requires.sound in
    rw (tuple_row g.A.Column.format g.B.Column.format (g.C.Column.format ∷ g.D.Column.format ∷ g.E.Column.format ∷ g.F.Column.format ∷ g.G.Column.format ∷ g.H.Column.format ∷ []) c.args.index c.requires.sound c.requires.in_range) (tuple_wrote g.A.Column.format g.B.Column.format (g.C.Column.format ∷ g.D.Column.format ∷ g.E.Column.format ∷ g.F.Column.format ∷ g.G.Column.format ∷ g.H.Column.format ∷ []) c.args.index _ _ c.requires.sound (part_kept c.args.index p.0 c.requires.in_range) (λ s. nested_wrote g.B.Column.format g.C.Column.format (g.D.Column.format ∷ g.E.Column.format ∷ g.F.Column.format ∷ g.G.Column.format ∷ g.H.Column.format ∷ []) c.args.index _ _ s (part_kept c.args.index p.1.0 c.requires.in_range) (λ s. nested_wrote g.C.Column.format g.D.Column.format (g.E.Column.format ∷ g.F.Column.format ∷ g.G.Column.format ∷ g.H.Column.format ∷ []) c.args.index _ _ s (part_kept c.args.index p.1.1.0 c.requires.in_range) (λ s. nested_wrote g.D.Column.format g.E.Column.format (g.F.Column.format ∷ g.G.Column.format ∷ g.H.Column.format ∷ []) c.args.index _ _ s (part_kept c.args.index p.1.1.1.0 c.requires.in_range) (λ s. nested_wrote g.E.Column.format g.F.Column.format (g.G.Column.format ∷ g.H.Column.format ∷ []) c.args.index _ _ s (part_kept c.args.index p.1.1.1.1.0 c.requires.in_range) (λ s. nested_wrote g.F.Column.format g.G.Column.format (g.H.Column.format ∷ []) c.args.index _ _ s c.set_row.ensures (λ s. nested_wrote g.G.Column.format g.H.Column.format [] c.args.index _ _ s (part_kept c.args.index p.1.1.1.1.1.1.0 c.requires.in_range) (λ s. (part_kept c.args.index p.1.1.1.1.1.1.1 c.requires.in_range)))))))))
