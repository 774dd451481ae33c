use Rattle.std.proofs.Common.{arith}
use Rattle.columnar_base.specs.ChangeLaws.{passed_on}
use Rattle.columnar_base.specs.RoomLaws.{leaves_none, leaves_next}
use Rattle.columnar_core.specs.RoomViews.{never_wanted}
use Rattle.columnar_core.proofs.room.push_rows.Goals as goal

pub loop-i-init : goal.loop-i-init
loop-i-init g c = record { sound = c.requires.sound; left = leaves_none }

pub loop-i-preserved : goal.loop-i-preserved
loop-i-preserved g c = record {
  sound = c.in_ok-push.ensures.ok.grew.sound;
  left = leaves_next (g.V.Column.format.rows (g.V.Column.content c.args.view)) 0 c.loop-i.i _ (omega arith) c.get.ensures.row c.loop-i.invariant.left c.in_ok-push.ensures.left;
}

pub returns-in_err-push : goal.returns-in_err-push
returns-in_err-push g c = record { no_memory = rw (passed_on c.from_residual.result c.from_residual.ensures.1) (never_wanted (g.V.Column.format.rows (g.V.Column.content c.args.view)) c.loop-i.i _ (omega (arith, c.loop-i-test.true, c.len-i-end.ensures)) c.get.ensures.row c.loop-i.invariant.left (c.in_err-push.ensures.wanted c.requires.unbuffered) c.requires.room) }
