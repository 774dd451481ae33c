use Rattle.std.proofs.Common.{◌+◌}
use Rattle.columnar_base.specs.FaultLaws.{sound_from, sound_on_ok, on_ok}
use Rattle.columnar_core.proofs.two.check_two.Goals as goal

pub returns-clause-left_sound : goal.returns-clause-left_sound
returns-clause-left_sound g c = on_ok c.check_from_tallied-2.result (sound_from g.A.Column.format (g.A.Column.content c.args.left.now) c.args.from c.in_ok-check_from_tallied.ensures.exact)

pub returns-clause-right_sound : goal.returns-clause-right_sound
returns-clause-right_sound g c = sound_on_ok g.B.Column.format (g.B.Column.content c.args.right.now) (c.args.from + c.slice_count.result) c.check_from_tallied-2.result c.check_from_tallied-2.ensures.exact
