use Rattle.columnar_core.specs.ArraySlices.{AreArrays}
use Rattle.columnar_core.proofs.byte_slice.flat.are_arrays.Given as goal

abbrev pub invariant-loop-i : goal.invariant-loop-i
invariant-loop-i g l = AreArrays g.row.N l.arrays l.i
