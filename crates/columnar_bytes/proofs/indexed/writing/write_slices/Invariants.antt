use Rattle.std.proofs.Common.{drop}
use Rattle.columnar_core.specs.Format.{slices_of}
use Rattle.std.specs.List.{flat_map}
use Rattle.columnar_core.specs.Words.{padded}
use Rattle.columnar_core.specs.Sent.{WentOut}
use Rattle.columnar_bytes.proofs.indexed.writing.write_slices.Given as goal

abbrev pub invariant-loop-i : goal.invariant-loop-i
invariant-loop-i g l =
    let slices = slices_of (g.S.Column.content l.item) in
    WentOut (g.W.WriteBytes.contents l.fn.writer) (g.W.WriteBytes.contents l.writer) (flat_map padded (drop l.i slices)) (flat_map padded slices)
