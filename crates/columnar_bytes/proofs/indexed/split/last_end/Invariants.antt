use Rattle.std.proofs.Common.{◌≡◌}
use Rattle.columnar_core.specs.Frame.{start_of, slice_count}
use Rattle.columnar_bytes.specs.Streams.{HasTable}
use Rattle.columnar_bytes.proofs.indexed.split.last_end.Given as goal

abbrev pub invariant-loop-i : goal.invariant-loop-i
invariant-loop-i l = record {
  here : l.start ≡ start_of l.bytes l.i;
  before : HasTable l.bytes l.limit (slice_count l.bytes) l.i;
}
