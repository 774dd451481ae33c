use Rattle.std.proofs.Common.{◌-◌, arith}
use Rattle.columnar_base.specs.SoloLaws.{solo_part, solo_length, solo_copied_on_ok, solo_piece_refused}
use Rattle.columnar_core.specs.RoomViews.{solo_range_leaves, solo_range_full}
use Rattle.columnar_core.proofs.tuple.one.Tuple1ExtendFrom.extend_from_self.Goals as goal

pub extend_from_self-requires : goal.extend_from_self-requires
extend_from_self-requires g c = record { sound = solo_part g.A.Column.format c.requires.sound; view_sound = solo_part g.P.Column.format c.requires.view_sound; ordered = c.requires.ordered; in_range = omega (arith, solo_length g.P.Column.format (g.P.Column.content c.args.view.0), c.requires.in_range) }

pub returns-clause-ok : goal.returns-clause-ok
returns-clause-ok g c = solo_copied_on_ok g.A.Column.format _ _ c.args.range.start (c.args.range.«end» - c.args.range.start) (g.P.Column.format.rows (g.P.Column.content c.args.view.0)) c.extend_from_self.result c.extend_from_self.ensures.ok

pub returns-clause-err : goal.returns-clause-err
returns-clause-err g c = solo_piece_refused g.A.Column.format _ _ c.args.range.start (c.args.range.«end» - c.args.range.start) (g.P.Column.format.rows (g.P.Column.content c.args.view.0)) c.extend_from_self.result c.extend_from_self.ensures.err

pub returns-clause-wanted : goal.returns-clause-wanted
returns-clause-wanted g c = solo_range_full _ c.args.range.start (c.args.range.«end» - c.args.range.start) (g.P.Column.format.rows (g.P.Column.content c.args.view.0)) c.extend_from_self.result c.extend_from_self.ensures.wanted

pub returns-clause-left : goal.returns-clause-left
returns-clause-left g c = solo_range_leaves _ _ c.args.range.start (c.args.range.«end» - c.args.range.start) (g.P.Column.format.rows (g.P.Column.content c.args.view.0)) c.extend_from_self.result c.extend_from_self.ensures.left
