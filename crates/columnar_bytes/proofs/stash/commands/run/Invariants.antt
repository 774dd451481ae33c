use Rattle.std.proofs.Common.{◌≡◌, ◌≤◌, length, take, map, vec_len}
use Rattle.std.specs.Vec.{vec_capacity}
use Rattle.columnar_core.specs.Format.{IsSound}
use Rattle.columnar_bytes.specs.Stashes.{stash_content}
use Rattle.columnar_bytes.specs.States.{state_of}
use Rattle.columnar_bytes.specs.Machine.{Ran, order_of}
use Rattle.columnar_bytes.proofs.stash.commands.run.Given as goal

abbrev pub invariant-loop-i : goal.invariant-loop-i
invariant-loop-i g l = record {
  sound : IsSound g.C.Column.format (stash_content l.stash);
  ran : Ran g.C.Column.format (g.V.Column.format.rows (g.V.Column.content l.source)) (state_of l.initial.stash) (take l.i (map (order_of g.T.Item.meaning) l.commands)) l.replies.items (state_of l.stash);
  count : vec_len l.replies ≡ l.i;
  room : length l.commands ≤ vec_capacity l.replies;
}
