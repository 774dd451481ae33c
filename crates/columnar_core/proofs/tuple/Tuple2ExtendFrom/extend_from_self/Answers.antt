use Rattle.std.proofs.Common.{[]}
use Rattle.columnar_base.specs.EntryLaws.{tuple_pieces, views_level, copied_on_ok, copy_refused, copied_leaves, copied_full}
use Rattle.columnar_core.proofs.tuple.Tuple2ExtendFrom.extend_from_self.Goals as goal

pub enter_two-requires-clause-valid : goal.enter_two-requires-clause-valid
enter_two-requires-clause-valid g c = tuple_pieces g.V.Column.format g.W.Column.format [] c.args.range.start c.args.range.«end» c.requires.view_sound c.requires.ordered c.requires.in_range

pub enter_two-requires-clause-level : goal.enter_two-requires-clause-level
enter_two-requires-clause-level g c = views_level g.V.Column.format g.W.Column.format [] c.args.range.start c.args.range.«end» c.requires.view_sound

pub returns-clause-ok : goal.returns-clause-ok
returns-clause-ok g c = copied_on_ok g.A.Column.format g.B.Column.format [] _ _ g.V.Column.format g.W.Column.format [] c.args.range.start c.args.range.«end» c.requires.view_sound c.enter_two.result c.enter_two.ensures.ok

pub returns-clause-err : goal.returns-clause-err
returns-clause-err g c = copy_refused g.A.Column.format g.B.Column.format [] _ _ g.V.Column.format g.W.Column.format [] c.args.range.start c.args.range.«end» c.requires.view_sound c.enter_two.result c.enter_two.ensures.err

pub returns-clause-left : goal.returns-clause-left
returns-clause-left g c = copied_leaves _ _ g.V.Column.format g.W.Column.format [] c.args.range.start c.args.range.«end» c.requires.view_sound c.enter_two.result c.enter_two.ensures.left

pub returns-clause-wanted : goal.returns-clause-wanted
returns-clause-wanted g c = copied_full _ g.V.Column.format g.W.Column.format [] c.args.range.start c.args.range.«end» c.requires.view_sound c.enter_two.result (c.enter_two.ensures.wanted (tt, tt))
